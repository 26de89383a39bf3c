-- The two sides of a direction, in a world in which nobody forgot: what stands between them, and how long they stay as they are.
use Rattle.std.proofs.Common.{◌≡◌, ℕ, ◌+◌, ◌<◌, ◌≤◌, ◌⊎◌, inl, inr, false, List, [], ◌++◌, length, drop, slice_get, refl, sym, ap, ◌∙◌, arith, Some}
use Rattle.std.proofs.lemmas.Bool.{cases_lt}
use Rattle.signal.specs.declared.signal.Signal.{Signal}
use Rattle.signal.specs.declared.frame.Frame.{Frame}
use Rattle.link.specs.Image.{last_number}
use Rattle.plan.specs.declared.draft.Draft.{Draft}
use Rattle.plan.specs.declared.input.Input.{Input}
use Rattle.plan.specs.Federation.{federate_count}
use Rattle.reactor_program.specs.Behaviour.{Behaviour}
use Rattle.plan_network.specs.Network.{network_of}
use Rattle.protocol.specs.Machine.{Member, Move}
use Rattle.node.specs.Step.{Station}
use Rattle.node_cores.specs.FederateCore.{FederateNode}
use Rattle.link_laws.specs.Direction.{offered_in}
use Rattle.link_laws.specs.Link.{Side, Link}
use Rattle.link_laws.proofs.Places.{length_of_rest}
use Rattle.link_laws.proofs.Taken.{last_is_offered}
use Rattle.link_laws.proofs.Carried.{IsLinked, linked_back}
use Rattle.world_stations.specs.declared.dir.Dir.{Dir}
use Rattle.world_stations.specs.declared.dir.Dir.TheVariants.{Up, Down}
use Rattle.world_stations.specs.declared.step.Step.{Step}
use Rattle.world_stations.specs.World.{frames_in, federate_of}
use Rattle.world_stations.specs.Taken.{sender, receiver}
use Rattle.world_stations.specs.Federation.{Federation, step_in}
use Rattle.world_stations.proofs.Shown.{got}
use Rattle.world_stations.proofs.Site.{kept_linked}
use Rattle.world_stations.proofs.InOrder.{own_is}
use Rattle.world_stations.proofs.Steps.{members_after}
use Rattle.world_stations.proofs.Moves.{rule_of}
use Rattle.world_progress.specs.Fuel.{fuel_of}
use Rattle.world_progress.specs.Worth.{left_of}
use Rattle.world_progress.specs.Fair.{back}
use Rattle.world_progress.proofs.Sums.{sum_at_most}
use Rattle.world_progress.proofs.Runs.{waiting_at_most}
use Rattle.world_progress.proofs.Ending.{nobody_lost}
use Rattle.world_progress.proofs.Walking.{IsOwn, own_of}
use Rattle.world_progress.proofs.Growing.{Grown}
use Rattle.world_progress.proofs.Reached.{sum_has, each_same, taken_of_link, acknowledged_of_link, Reached, ahead, acked, Next}

-- the side that a direction's frames come from, and the one that they come to
abbrev pub side_out : Dir → (ℕ → Link) → Side
side_out (Up j) links = (links j).second
side_out (Down j) links = (links j).first

abbrev pub side_in : Dir → (ℕ → Link) → Side
side_in (Up j) links = (links j).first
side_in (Down j) links = (links j).second

-- what was offered and isn't taken yet
abbrev pub queue_of : Dir → (ℕ → Member) → List Signal
queue_of (Up j) members = (members j).up
queue_of (Down j) members = (members j).down

pub back_of : (dir : Dir) → federate_of (back dir) ≡ federate_of dir
back_of (Up j) = refl
back_of (Down j) = refl

pub back_out : (dir : Dir) (links : ℕ → Link) → side_out (back dir) links ≡ side_in dir links
back_out (Up j) links = refl
back_out (Down j) links = refl

pub back_in : (dir : Dir) (links : ℕ → Link) → side_in (back dir) links ≡ side_out dir links
back_in (Up j) links = refl
back_in (Down j) links = refl

-- a federate's own side
pub own : (d : Draft) (programs : List Behaviour) (inputs : List Input) (w : Federation) (r : Reached d programs inputs w) (j : ℕ) → j < federate_count d → (s : Station FederateNode) → slice_get w.federates j ≡ Some s → IsOwn d programs inputs j (r.links j) (members_after d programs inputs r.moves j) s.node
own d programs inputs w r j below s there =
    own_of d programs inputs j (r.links j) (members_after d programs inputs r.moves j) s.node (nobody_lost (network_of d programs inputs) (λ k. rule_of d programs inputs) r.moves r.there j) (r.run.site j below s there)

-- a direction, from one side to the other, as it stands in a world
pub record IsDirection (w : Federation) (dir : Dir) (s r : Side) : Type 0 where
  pub frames : frames_in w dir ≡ s.sent
  pub sending : sender w dir ≡ Some s.end
  pub receiving : receiver w dir ≡ Some r.end
  pub linked : IsLinked 1 s r

-- both sides of a direction
pub direction : (d : Draft) (programs : List Behaviour) (inputs : List Input) (w : Federation) (r : Reached d programs inputs w) (dir : Dir) → federate_of dir < federate_count d → IsDirection w dir (side_out dir r.links) (side_in dir r.links)
direction d programs inputs w r (Up j) below =
    let at = r.run.shown.each j below in
    let mine = own d programs inputs w r j below at.station at.there in
    let held = (r.run.site j below at.station at.there).held in
    record {
      frames = got w.up j (r.links j).second.sent [] at.up;
      sending = own_is w (federate_count d) r.links j r.run.shown below;
      receiving = at.first;
      linked = linked_back 1 (r.links j).first (r.links j).second (kept_linked (r.links j) held mine.incarnation);
    }
direction d programs inputs w r (Down j) below =
    let at = r.run.shown.each j below in
    let mine = own d programs inputs w r j below at.station at.there in
    let held = (r.run.site j below at.station at.there).held in
    record {
      frames = got w.down j (r.links j).first.sent [] at.down;
      sending = at.first;
      receiving = own_is w (federate_count d) r.links j r.run.shown below;
      linked = kept_linked (r.links j) held mine.incarnation;
    }

pub unclosed : (d : Draft) (programs : List Behaviour) (inputs : List Input) (w : Federation) (r : Reached d programs inputs w) (dir : Dir) → federate_of dir < federate_count d → (side_out dir r.links).end.closed ≡ false
unclosed d programs inputs w r (Up j) below = let at = r.run.shown.each j below in (own d programs inputs w r j below at.station at.there).unclosed
unclosed d programs inputs w r (Down j) below = let at = r.run.shown.each j below in (r.run.site j below at.station at.there).unclosed

pub rooms_of : (d : Draft) (programs : List Behaviour) (inputs : List Input) (w : Federation) (r : Reached d programs inputs w) (dir : Dir) → federate_of dir < federate_count d → (side_out dir r.links).end.room ≡ 4096
rooms_of d programs inputs w r (Up j) below = (r.rooms j below).1
rooms_of d programs inputs w r (Down j) below = (r.rooms j below).0

queue_is : (d : Draft) (programs : List Behaviour) (inputs : List Input) (w : Federation) (r : Reached d programs inputs w) (dir : Dir) → federate_of dir < federate_count d
    → queue_of dir (members_after d programs inputs r.moves) ≡ drop (side_in dir r.links).end.taken (offered_in 1 (side_out dir r.links).sent)
queue_is d programs inputs w r (Up j) below = let at = r.run.shown.each j below in (r.run.site j below at.station at.there).up
queue_is d programs inputs w r (Down j) below = let at = r.run.shown.each j below in (own d programs inputs w r j below at.station at.there).down

-- the number of the last signal offered is that of all that was taken, and that waits
pub last_size : (d : Draft) (programs : List Behaviour) (inputs : List Input) (w : Federation) (r : Reached d programs inputs w) (dir : Dir) → federate_of dir < federate_count d
    → last_number (side_out dir r.links).end ≡ (side_in dir r.links).end.taken + length (queue_of dir (members_after d programs inputs r.moves))
last_size d programs inputs w r dir below =
    let at = direction d programs inputs w r dir below in
    let last = last_is_offered 1 (side_out dir r.links) (side_in dir r.links) at.linked in
    let rest = length_of_rest (side_in dir r.links).end.taken (offered_in 1 (side_out dir r.links).sent) at.linked.out.taken_offered in
    let size : length (queue_of dir (members_after d programs inputs r.moves)) ≡ length (drop (side_in dir r.links).end.taken (offered_in 1 (side_out dir r.links).sent)) = ap length (queue_is d programs inputs w r dir below) in
    omega arith

taken_part : (dir : Dir) (links : ℕ → Link) → (side_in dir links).end.taken ≤ taken_of_link (links (federate_of dir))
taken_part (Up j) links = omega arith
taken_part (Down j) links = omega arith

queue_part : (dir : Dir) (members : ℕ → Member) → length (queue_of dir members) ≤ length (members (federate_of dir)).up + length (members (federate_of dir)).down
queue_part (Up j) members = omega arith
queue_part (Down j) members = omega arith

-- so it is no more than all that can ever be done
pub last_within : (d : Draft) (programs : List Behaviour) (inputs : List Input) (w : Federation) (r : Reached d programs inputs w) (dir : Dir) → federate_of dir < federate_count d → last_number (side_out dir r.links).end ≤ fuel_of (network_of d programs inputs)
last_within d programs inputs w r dir below =
    let n = network_of d programs inputs in
    let members = members_after d programs inputs r.moves in
    let last = last_size d programs inputs w r dir below in
    let taken = taken_part dir r.links in
    let taken_all = sum_has (federate_count d) (λ j. taken_of_link (r.links j)) (federate_of dir) below in
    let queue = queue_part dir (members_after d programs inputs r.moves) in
    let queue_all = sum_has (federate_count d) (λ j. length (members_after d programs inputs r.moves j).up + length (members_after d programs inputs r.moves j).down) (federate_of dir) below in
    let waiting = waiting_at_most (network_of d programs inputs) (members_after d programs inputs r.moves) in
    let spent = r.spent in
    omega arith

-- less is to be done than there was, or more is acknowledged
abbrev pub Falls : (d : Draft) (programs : List Behaviour) (inputs : List Input) (v : Federation) → Reached d programs inputs v → (w : Federation) → Reached d programs inputs w → Type 0
Falls d programs inputs v s w r = ahead d programs inputs w r + acked d programs inputs v s < ahead d programs inputs v s + acked d programs inputs w r

-- nothing was done, taken or acknowledged since
pub record IsSame (d : Draft) (programs : List Behaviour) (inputs : List Input) (v : Federation) (s : Reached d programs inputs v) (w : Federation) (r : Reached d programs inputs w) : Type 0 where
  pub moves : r.moves ≡ s.moves
  pub taken : (dir : Dir) → federate_of dir < federate_count d → (side_in dir r.links).end.taken ≡ (side_in dir s.links).end.taken
  pub acknowledged : (dir : Dir) → federate_of dir < federate_count d → (side_out dir r.links).end.acknowledged ≡ (side_out dir s.links).end.acknowledged
  pub ahead_same : ahead d programs inputs w r ≡ ahead d programs inputs v s
  pub acked_same : acked d programs inputs w r ≡ acked d programs inputs v s

pub same_itself : (d : Draft) (programs : List Behaviour) (inputs : List Input) (w : Federation) (r : Reached d programs inputs w) → IsSame d programs inputs w r w r
same_itself d programs inputs w r = record { moves = refl; taken = λ dir l. refl; acknowledged = λ dir l. refl; ahead_same = refl; acked_same = refl }

-- by each step no less is acknowledged
pub acked_rises : (d : Draft) (programs : List Behaviour) (inputs : List Input) (w : Federation) (r : Reached d programs inputs w) (step : Step) (x : Next d programs inputs w r step) → acked d programs inputs w r ≤ acked d programs inputs (step_in w step).world x.now
acked_rises d programs inputs w r step x =
    sum_at_most (federate_count d) (λ j. acknowledged_of_link (r.links j)) (λ j. acknowledged_of_link (x.now.links j)) (λ j l. (let g = x.grown j in omega (arith, g.0.acknowledged, g.1.acknowledged)))

each_taken : (links after : ℕ → Link) (dir : Dir) → taken_of_link (after (federate_of dir)) ≡ taken_of_link (links (federate_of dir)) → Grown (links (federate_of dir)).first (after (federate_of dir)).first × Grown (links (federate_of dir)).second (after (federate_of dir)).second
    → (side_in dir after).end.taken ≡ (side_in dir links).end.taken
each_taken links after (Up j) e g = omega (arith, e, g.0.taken, g.1.taken)
each_taken links after (Down j) e g = omega (arith, e, g.0.taken, g.1.taken)

each_acknowledged : (links after : ℕ → Link) (dir : Dir) → acknowledged_of_link (after (federate_of dir)) ≡ acknowledged_of_link (links (federate_of dir)) → Grown (links (federate_of dir)).first (after (federate_of dir)).first × Grown (links (federate_of dir)).second (after (federate_of dir)).second
    → (side_out dir after).end.acknowledged ≡ (side_out dir links).end.acknowledged
each_acknowledged links after (Up j) e g = omega (arith, e, g.0.acknowledged, g.1.acknowledged)
each_acknowledged links after (Down j) e g = omega (arith, e, g.0.acknowledged, g.1.acknowledged)

-- by a step less is to be done or more acknowledged, or all stays
pub falls_or_stays : (d : Draft) (programs : List Behaviour) (inputs : List Input) (v : Federation) (s : Reached d programs inputs v) (w : Federation) (r : Reached d programs inputs w) (step : Step) (x : Next d programs inputs w r step) → IsSame d programs inputs v s w r
    → Falls d programs inputs v s (step_in w step).world x.now ⊎ IsSame d programs inputs v s (step_in w step).world x.now
falls_or_stays d programs inputs v s w r step x same =
    let after = (step_in w step).world in
    let risen = acked_rises d programs inputs w r step x in
    let fallen = x.ahead_falls in
    let a = same.ahead_same in
    let b = same.acked_same in
    elim (cases_lt (ahead d programs inputs (step_in w step).world x.now + acked d programs inputs v s) (ahead d programs inputs v s + acked d programs inputs (step_in w step).world x.now)) [
      | inl falls ↦ inl falls
      | inr not_less ↦
          let moves = x.same (omega arith) in
          let left : left_of (network_of d programs inputs) (members_after d programs inputs x.now.moves) ≡ left_of (network_of d programs inputs) (members_after d programs inputs r.moves) = ap (λ (y : List Move). left_of (network_of d programs inputs) (members_after d programs inputs y)) moves in
          let taken = each_same (federate_count d) (λ j. taken_of_link (r.links j)) (λ j. taken_of_link (x.now.links j)) (λ j l. (let g = x.grown j in omega (arith, g.0.taken, g.1.taken))) (omega arith) in
          let acknowledged = each_same (federate_count d) (λ j. acknowledged_of_link (r.links j)) (λ j. acknowledged_of_link (x.now.links j)) (λ j l. (let g = x.grown j in omega (arith, g.0.acknowledged, g.1.acknowledged))) (omega arith) in
          inr (record {
            moves = moves ∙ same.moves;
            taken = λ dir l. each_taken r.links x.now.links dir (taken (federate_of dir) l) (x.grown (federate_of dir)) ∙ same.taken dir l;
            acknowledged = λ dir l. each_acknowledged r.links x.now.links dir (acknowledged (federate_of dir) l) (x.grown (federate_of dir)) ∙ same.acknowledged dir l;
            ahead_same = omega arith;
            acked_same = omega arith;
          })
    ]

-- and once less is to be done, it stays so
pub falls_on : (d : Draft) (programs : List Behaviour) (inputs : List Input) (v : Federation) (s : Reached d programs inputs v) (w : Federation) (r : Reached d programs inputs w) (step : Step) (x : Next d programs inputs w r step) → Falls d programs inputs v s w r → Falls d programs inputs v s (step_in w step).world x.now
falls_on d programs inputs v s w r step x falls =
    let risen = acked_rises d programs inputs w r step x in
    let fallen = x.ahead_falls in
    omega arith

-- what a side keeps is as long as it was
pub kept_same : (d : Draft) (programs : List Behaviour) (inputs : List Input) (v : Federation) (s : Reached d programs inputs v) (w : Federation) (r : Reached d programs inputs w) (dir : Dir) → federate_of dir < federate_count d → IsSame d programs inputs v s w r
    → length (side_out dir r.links).end.kept ≡ length (side_out dir s.links).end.kept
kept_same d programs inputs v s w r dir below same =
    let one = last_size d programs inputs v s dir below in
    let other = last_size d programs inputs w r dir below in
    let taken = same.taken dir below in
    let acknowledged = same.acknowledged dir below in
    let size : length (queue_of dir (members_after d programs inputs r.moves)) ≡ length (queue_of dir (members_after d programs inputs s.moves)) = ap (λ (x : List Move). length (queue_of dir (members_after d programs inputs x))) same.moves in
    omega arith

-- what a direction has sent stays sent
pub frames_more : (d : Draft) (programs : List Behaviour) (inputs : List Input) (w : Federation) (r : Reached d programs inputs w) (step : Step) (x : Next d programs inputs w r step) (dir : Dir) → federate_of dir < federate_count d → (more : List Frame) × (frames_in (step_in w step).world dir ≡ frames_in w dir ++ more)
frames_more d programs inputs w r step x dir below =
    let before = direction d programs inputs w r dir below in
    let after = direction d programs inputs (step_in w step).world x.now dir below in
    let grown = out_grown r.links x.now.links dir (x.grown (federate_of dir)) in
    (grown.more, after.frames ∙ grown.sent ∙ ap (λ (y : List Frame). y ++ grown.more) (sym before.frames))
  where
    out_grown : (links after : ℕ → Link) (dir : Dir) → Grown (links (federate_of dir)).first (after (federate_of dir)).first × Grown (links (federate_of dir)).second (after (federate_of dir)).second → Grown (side_out dir links) (side_out dir after)
    out_grown links after (Up j) g = g.1
    out_grown links after (Down j) g = g.0
