-- The rows of a federation's world are those of a run of the machine: a prefix of the undivided program's, and all of them where the world
-- is finished or stuck.
use Rattle.std.proofs.Common.{◌≡◌, ℕ, zero, suc, ◌+◌, ◌<◌, ◌≤◌, Bool, true, false, List, [], ◌∷◌, ◌++◌, length, drop, slice_get, refl, sym, ap, subst, ◌∙◌, arith, Option, None, Some, if◌then◌else◌}
use Rattle.std.specs.Prelude.{nat_eq, not, ◌&&◌, All}
use Rattle.std.specs.List.{list_any, AllByRecursion}
use Rattle.std.proofs.lemmas.Bool.{eqb-true, lt-ltb, or_parts, eq-eqb, or_from}
use Rattle.std.proofs.lemmas.List.{length-append}
use Rattle.network_laws.proofs.Lists.{each}
use Rattle.network_laws.specs.Settled as order
use Rattle.network.specs.Tables.{IsLawfulWith}
use Rattle.network.specs.Undivided.{Row, whole, part}
use Rattle.signal.specs.declared.signal.Signal.{Signal}
use Rattle.signal.specs.declared.frame.Frame.{Frame}
use Rattle.signal.specs.declared.frame.Frame.TheVariants.{Hello, Data, Ack, Refuse}
use Rattle.link.specs.Image.{Image}
use Rattle.plan.specs.declared.draft.Draft.{Draft}
use Rattle.plan.specs.declared.input.Input.{Input}
use Rattle.plan.specs.Federation.{federate_count}
use Rattle.plan.specs.Least.{least_of}
use Rattle.reactor_program.specs.Behaviour.{Behaviour}
use Rattle.plan_network.specs.Network.{network_of}
use Rattle.protocol.specs.Outcome.{Outcome, Refused, Nothing, Done}
use Rattle.protocol.specs.FederateRecord.{FederateRecord}
use Rattle.protocol.specs.FederateRecords.{federate_record_at, is_finished}
use Rattle.protocol.specs.Federate.{federate_announces, federate_advances}
use Rattle.protocol.specs.Machine.{Member, federate_records_of}
use Rattle.protocol_laws.specs.Rows.{HasEveryRow}
use Rattle.protocol_laws.specs.Runs as runs
use Rattle.protocol_laws.proofs.Eligibility.{lawful_is_wired}
use Rattle.protocol_laws.proofs.SafeGrants.{widest_rule_is_safe, widest_rule_is_full}
use Rattle.protocol_laws.proofs.ListedFederateRecords.{finished_is}
use Rattle.protocol_laws.proofs.Ending.{ends_quiet}
use Rattle.protocol_laws.proofs.Stuck.{stuck_quiet}
use Rattle.protocol_laws.proofs.Computes.{rows_begin_some, quiet_has_every_row}
use Rattle.node.specs.Core.{Made, ending_of, LacksRoom, Moves}
use Rattle.node.specs.Mail.{all_posted, lacks_room}
use Rattle.node.specs.Step.{Station, acts, unsent, step_of}
use Rattle.node.specs.declared.event.Event.{Event}
use Rattle.node.specs.declared.event.Event.TheVariants as event
use Rattle.node.specs.declared.node_id.NodeId.TheVariants.{Federate}
use Rattle.node_cores.specs.FederateCore as of_federate
use Rattle.node_cores.specs.FederateCore.{FederateNode, federate_core}
use Rattle.node_cores.specs.CoordinatorCore.{wiring_in, coordinator_core}
use Rattle.link_laws.specs.Direction.{with_offered, offered_with, offered_in}
use Rattle.link_laws.specs.Link.{Link}
use Rattle.link_laws.proofs.Forgotten.{AreOf}
use Rattle.world_stations.specs.declared.dir.Dir.{Dir}
use Rattle.world_stations.specs.declared.dir.Dir.TheVariants.{Up, Down}
use Rattle.world_stations.specs.declared.step.Step.{Step}
use Rattle.world_stations.specs.declared.step.Step.TheVariants.{Deliver, Resend, Reconnect, Announce, Advance, Forget}
use Rattle.world_stations.specs.declared.outcome.Outcome.TheVariants as outcome
use Rattle.world_stations.specs.World.{frames_in, outcome_of, at_federate, happens, if_there}
use Rattle.world_stations.specs.Taken.{receiver, own_end, number_taken}
use Rattle.world_stations.specs.Kept.{is_forget, is_forget_of, is_kept, IsSettled}
use Rattle.world_stations.specs.Federation.{Federation, world_after, rows_at, rows_in, IsPrefix, IsWhole, IsStuck, IsFinished}
use Rattle.world_stations.proofs.Shown.{got}
use Rattle.world_stations.proofs.Site.{node_with, IsSite, keeps, loses}
use Rattle.world_stations.proofs.Moves.{rule_of, nothing_of}
use Rattle.world_stations.proofs.Steps.{members_after}
use Rattle.world_stations.proofs.Worlds.{stands, steps_after}
use Rattle.protocol_laws.proofs.Tests.{both_left, both_right}

-- a federate that kept its state, as it stands in the world and in the machine
pub record IsKeptAt (d : Draft) (programs : List Behaviour) (inputs : List Input) (w : Federation) (j : ℕ) (l : Link) (m : Member) : Type 0 where
  pub station : Station FederateNode
  pub there : slice_get w.federates j ≡ Some station
  pub incarnation : l.second.end.incarnation ≡ 1
  pub node : station.node ≡ node_with d programs inputs j m.federate
  pub up : m.up ≡ drop l.first.end.taken (offered_in 1 l.second.sent)
  pub down : m.down ≡ drop l.second.end.taken (offered_in 1 l.first.sent)
  pub frames : AreOf 1 l.second.sent

kept_own : (d : Draft) (programs : List Behaviour) (inputs : List Input) (w : Federation) (j : ℕ) (l : Link) (m : Member) (s : Station FederateNode) → slice_get w.federates j ≡ Some s → IsSite d programs inputs j l m s.node → m.lost ≡ false → IsKeptAt d programs inputs w j l m
kept_own d programs inputs w j l m s there site not_lost =
    elim site.own [
      | keeps is opened lost node queue frames ↦ record { station = s; there = there; incarnation = is; node = node; up = site.up; down = queue; frames = frames }
      | loses later lost ↦ absurd (let never : true ≡ false = sym lost ∙ not_lost in cc)
    ]

pub kept_at : (d : Draft) (programs : List Behaviour) (inputs : List Input) (steps : List Step) (lawful : IsLawfulWith (network_of d programs inputs) (least_of d)) (j : ℕ) → j < federate_count d → is_kept steps j ≡ true
    → IsKeptAt d programs inputs (world_after d programs inputs steps) j ((stands d programs inputs steps lawful).stands.links j) (members_after d programs inputs (stands d programs inputs steps lawful).stands.moves j)
kept_at d programs inputs steps lawful j below is =
    let g = stands d programs inputs steps lawful in
    let at = g.stands.run.shown.each j below in
    kept_own d programs inputs (world_after d programs inputs steps) j (g.stands.links j) (members_after d programs inputs g.stands.moves j) at.station at.there
    (g.stands.run.site j below at.station at.there) (g.lost j is)

-- its rows are the machine's
pub rows_are : (d : Draft) (programs : List Behaviour) (inputs : List Input) (w : Federation) (j : ℕ) (l : Link) (m : Member) → IsKeptAt d programs inputs w j l m → rows_in w j ≡ m.federate.rows
rows_are d programs inputs w j l m k = ap rows_at k.there ∙ ap (λ (v : FederateNode). v.federate.rows) k.node

pub rows_begin : (d : Draft) (programs : List Behaviour) (inputs : List Input) (steps : List Step) (j : ℕ) → IsLawfulWith (network_of d programs inputs) (least_of d) → j < federate_count d → is_kept steps j ≡ true → IsPrefix d programs inputs (world_after d programs inputs steps) j
rows_begin d programs inputs steps j lawful below is =
    let n = network_of d programs inputs in
    let g = stands d programs inputs steps lawful in
    let k = kept_at d programs inputs steps lawful j below is in
    let same = rows_are d programs inputs (world_after d programs inputs steps) j (g.stands.links j) (members_after d programs inputs g.stands.moves j) k in
    let safe = widest_rule_is_safe n (least_of d) (lawful_is_wired n lawful.lawful) in
    let some = rows_begin_some n (least_of d) (λ k. rule_of d programs inputs) lawful.lawful lawful.facts (λ k. safe) g.stands.moves j below in
    let P : List Row → Type 0 = λ x. order.BeginsWith (part j (whole n some.0)) x in
    (some.0, subst P (sym same) some.1)

-- nobody forgot
none_forgot : (steps : List Step) → list_any is_forget steps ≡ false → (j : ℕ) → is_kept steps j ≡ true
none_forgot steps none j = ap not (none_of steps none)
  where
    of_step : (step : Step) → is_forget step ≡ false → is_forget_of j step ≡ false
    of_step (Deliver dir k) e = refl
    of_step (Resend dir) e = refl
    of_step (Reconnect dir) e = refl
    of_step (Announce k) e = refl
    of_step (Advance k) e = refl
    of_step (Forget k) e = cc

    none_of : (steps : List Step) → list_any is_forget steps ≡ false → list_any (is_forget_of j) steps ≡ false
    none_of [] e = refl
    none_of (step ∷ rest) e =
        let both = or_parts (is_forget step) (list_any is_forget rest) e in
        or_from (is_forget_of j step) (list_any (is_forget_of j) rest) (of_step step both.0) (none_of rest both.1)

pub all_kept : (d : Draft) (programs : List Behaviour) (inputs : List Input) (steps : List Step) → list_any is_forget (world_after d programs inputs steps).steps ≡ false → (j : ℕ) → is_kept steps j ≡ true
all_kept d programs inputs steps none j = none_forgot steps (ap (list_any is_forget) (sym (steps_after _ steps)) ∙ none) j

-- a finished world
pub finished_rows : (d : Draft) (programs : List Behaviour) (inputs : List Input) (steps : List Step) (j : ℕ) → IsLawfulWith (network_of d programs inputs) (least_of d) → IsFinished (world_after d programs inputs steps) → j < federate_count d → IsWhole d programs inputs (world_after d programs inputs steps) j
finished_rows d programs inputs steps j lawful finished below =
    let n = network_of d programs inputs in
    let w = world_after d programs inputs steps in
    let g = stands d programs inputs steps lawful in
    let members = members_after d programs inputs g.stands.moves in
    let k = kept_at d programs inputs steps lawful j below (all_kept d programs inputs steps finished.kept j) in
    let same = rows_are d programs inputs w j (g.stands.links j) (members j) k in
    let safe = widest_rule_is_safe n (least_of d) (lawful_is_wired n lawful.lawful) in
    let rules = (λ (k : ℕ). rule_of d programs inputs) in
    let D : Draft → Type 0 = λ x. is_finished (wiring_in x) (federate_record_at w.coordinator.node.federate_records) ≡ true in
    let S : (ℕ → FederateRecord) → Type 0 = λ x. is_finished (wiring_in d) x ≡ true in
    let ends = (finished_is (wiring_in d) (federate_records_of members)).0 (subst S g.stands.run.federate_records (subst D g.stands.run.draft finished.finished)) in
    let every = quiet_has_every_row n (least_of d) rules lawful.lawful lawful.facts (λ k. safe) g.stands.moves
    (λ i there. ends_quiet n (least_of d) rules lawful.lawful lawful.facts (λ k. safe) g.stands.moves i (ends i there).1) j below in
    let P : List Row → Type 0 = λ x. HasEveryRow n j x in
    subst P (sym same) every

-- numbers of all signals are at most this
abbrev pub Below : (incarnation most : ℕ) → Frame → Type 0
Below i most (Hello hello) = Unit {0}
Below i most (Data k n signal) = k ≡ i → n ≤ most
Below i most (Ack k n) = Unit {0}
Below i most (Refuse k n) = Unit {0}

-- then no more are offered
pub few_offered : (i most : ℕ) (offered : List Signal) (frames : List Frame) → length offered ≤ most → AllByRecursion (Below i most) frames → length (offered_with i offered frames) ≤ most
few_offered i most offered [] l h = l
few_offered i most offered (frame ∷ rest) l h = few_offered i most (with_offered i offered frame) rest (one_more frame h.0) h.1
  where
    by_next : (k n : ℕ) (signal : Signal) (b : Bool) → (nat_eq k i && nat_eq n (length offered + 1)) ≡ b → (k ≡ i → n ≤ most) → length (if b then offered ++ signal ∷ [] else offered) ≤ most
    by_next k n signal true e h =
        let same : k ≡ i = eqb-true k i (both_left (nat_eq k i) (nat_eq n (length offered + 1)) e) in
        let next : n ≡ length offered + 1 = eqb-true n (length offered + 1) (both_right (nat_eq k i) (nat_eq n (length offered + 1)) e) in
        let longer = length-append offered (signal ∷ []) in
        let m = h same in
        omega arith
    by_next k n signal false e h = l

    one_more : (frame : Frame) → Below i most frame → length (with_offered i offered frame) ≤ most
    one_more (Hello hello) h = l
    one_more (Data k n signal) h = by_next k n signal (nat_eq k i && nat_eq n (length offered + 1)) refl h
    one_more (Ack k n) h = l
    one_more (Refuse k n) h = l

pub none_left : {X : Type 0} (k : ℕ) (xs : List X) → length xs ≤ k → drop k xs ≡ []
none_left zero [] l = refl
none_left zero (x ∷ xs) l = absurd (omega arith)
none_left (suc k) [] l = refl
none_left (suc k) (x ∷ xs) l = none_left k xs (omega arith)

-- what an end took of its own incarnation
pub own_number : (e : Image) → e.incarnation ≡ 1 → number_taken 1 (Some e) ≡ e.taken
own_number e is = ap (λ (b : Bool). if b then e.taken else 0) (eq-eqb e.incarnation 1 is)

-- a station that says nothing had nothing to say
silent_is : (s : Station FederateNode) (o : Outcome (Made FederateNode)) → outcome_of (acts s (ending_of (unsent s) o)).answer ≡ outcome.Nothing → o ≡ Nothing
silent_is s (Refused refusal) e = cc
silent_is s Nothing e = refl
silent_is s (Done made) e = absurd (by_room (lacks_room s.ends made.sent) e)
  where
    by_room : (b : Bool) → outcome_of (acts s (if b then LacksRoom else Moves made.after (all_posted (unsent s) made.sent))).answer ≡ outcome.Nothing → ⊥
    by_room true e = cc
    by_room false e = cc

-- where every signal sent was taken, nothing is left of the queue
settled_below : (w : Federation) (dir : Dir) (most : ℕ) → number_taken 1 (receiver w dir) ≡ most → (frame : Frame) → IsSettled w dir frame → Below 1 most frame
settled_below w dir most is (Hello hello) h = tt
settled_below w dir most is (Data k n signal) h =
    λ e. (
    let P : ℕ → Type 0 = λ x. n ≤ number_taken x (receiver w dir) in
    let taken : n ≤ number_taken 1 (receiver w dir) = subst P e h.0 in
    let Q : ℕ → Type 0 = λ x. n ≤ x in
    subst Q is taken)
settled_below w dir most is (Ack k n) h = tt
settled_below w dir most is (Refuse k n) h = tt

all_below : (w : Federation) (dir : Dir) (most : ℕ) (frames : List Frame) → number_taken 1 (receiver w dir) ≡ most → AllByRecursion (IsSettled w dir) frames → AllByRecursion (Below 1 most) frames
all_below w dir most [] is h = tt
all_below w dir most (frame ∷ rest) is h = (settled_below w dir most is frame h.0, all_below w dir most rest is h.1)

queue_empty : (w : Federation) (dir : Dir) (most : ℕ) (frames : List Frame) → frames_in w dir ≡ frames → number_taken 1 (receiver w dir) ≡ most → All (IsSettled w dir) (frames_in w dir) → drop most (offered_in 1 frames) ≡ []
queue_empty w dir most frames are is settled =
    let P : List Frame → Type 0 = λ x. AllByRecursion (IsSettled w dir) x in
    none_left most (offered_in 1 frames) (few_offered 1 most [] frames (omega arith) (all_below w dir most frames is (subst P are (each (IsSettled w dir) (frames_in w dir) settled))))

-- a federate that has nothing to announce or to run
event_of_federate : (w : Federation) (j : ℕ) (s : Station FederateNode) (e : Event) → slice_get w.federates j ≡ Some s → j < length w.federates → (happens coordinator_core federate_core w (if_there w j (record { node = Federate j; event = e }))).outcome ≡ outcome_of (step_of federate_core false s e).answer
event_of_federate w j s e there below =
    ap (λ (b : Bool). (happens coordinator_core federate_core w (if b then Some (record { node = Federate j; event = e }) else None)).outcome) (lt-ltb j (length w.federates) below) ∙
    ap (λ (o : Option (Station FederateNode)). (at_federate federate_core w j e o).outcome) there

stuck_at : (d : Draft) (programs : List Behaviour) (inputs : List Input) (steps : List Step) (lawful : IsLawfulWith (network_of d programs inputs) (least_of d)) → IsStuck (world_after d programs inputs steps) → (j : ℕ) → j < federate_count d
    → runs.IsStuck (network_of d programs inputs) j (members_after d programs inputs (stands d programs inputs steps lawful).stands.moves j)
stuck_at d programs inputs steps lawful stuck j below =
    let n = network_of d programs inputs in
    let w = world_after d programs inputs steps in
    let g = stands d programs inputs steps lawful in
    let run = g.stands.run in
    let l = g.stands.links j in
    let m = members_after d programs inputs g.stands.moves j in
    let k = kept_at d programs inputs steps lawful j below (all_kept d programs inputs steps stuck.kept j) in
    let at = run.shown.each j below in
    let linked = (run.site j below at.station at.there).held.linked in
    let ups = queue_empty (world_after d programs inputs steps) (Up j) (g.stands.links j).first.end.taken (g.stands.links j).second.sent (got (world_after d programs inputs steps).up j (g.stands.links j).second.sent [] at.up)
    (ap (number_taken 1) at.first ∙ own_number (g.stands.links j).first.end linked.here) (stuck.settled (Up j)) in
    let own : receiver (world_after d programs inputs steps) (Down j) ≡ Some (g.stands.links j).second.end = ap own_end at.there ∙ ap (λ (x : List Image). slice_get x 0) at.second in
    let downs = queue_empty (world_after d programs inputs steps) (Down j) (g.stands.links j).second.end.taken (g.stands.links j).first.sent (got (world_after d programs inputs steps).down j (g.stands.links j).first.sent [] at.down)
    (ap (number_taken 1) own ∙ own_number (g.stands.links j).second.end k.incarnation) (stuck.settled (Down j)) in
    let size = run.shown.federates in
    let here : j < length (world_after d programs inputs steps).federates = omega arith in
    let announced = silent_is k.station (federate_core.announce k.station.node) (sym (event_of_federate (world_after d programs inputs steps) j k.station event.Announce k.there here) ∙ stuck.announced j) in
    let advanced = silent_is k.station (federate_core.advance k.station.node) (sym (event_of_federate (world_after d programs inputs steps) j k.station event.Advance k.there here) ∙ stuck.advanced j) in
    let A : FederateNode → Type 0 = λ v. of_federate.announces v ≡ Nothing in
    let B : FederateNode → Type 0 = λ v. of_federate.advances v ≡ Nothing in
    record {
      up = k.up ∙ ups;
      down = k.down ∙ downs;
      announce = nothing_of (of_federate.made_by (node_with d programs inputs j (members_after d programs inputs g.stands.moves j).federate)) (federate_announces (members_after d programs inputs g.stands.moves j).federate) (subst A k.node announced);
      advance = nothing_of (of_federate.made_by (node_with d programs inputs j (members_after d programs inputs g.stands.moves j).federate)) (federate_advances (network_of d programs inputs) j (members_after d programs inputs g.stands.moves j).federate) (subst B k.node advanced);
    }

pub stuck_rows : (d : Draft) (programs : List Behaviour) (inputs : List Input) (steps : List Step) (j : ℕ) → IsLawfulWith (network_of d programs inputs) (least_of d) → IsStuck (world_after d programs inputs steps) → j < federate_count d → IsWhole d programs inputs (world_after d programs inputs steps) j
stuck_rows d programs inputs steps j lawful stuck below =
    let n = network_of d programs inputs in
    let w = world_after d programs inputs steps in
    let g = stands d programs inputs steps lawful in
    let k = kept_at d programs inputs steps lawful j below (all_kept d programs inputs steps stuck.kept j) in
    let same = rows_are d programs inputs (world_after d programs inputs steps) j (g.stands.links j) (members_after d programs inputs g.stands.moves j) k in
    let wired = lawful_is_wired n lawful.lawful in
    let safe = widest_rule_is_safe n (least_of d) wired in
    let full = widest_rule_is_full n (least_of d) wired in
    let rules = (λ (k : ℕ). rule_of d programs inputs) in
    let every = quiet_has_every_row n (least_of d) rules lawful.lawful lawful.facts (λ k. safe) g.stands.moves
    (stuck_quiet n (least_of d) rules lawful.lawful lawful.least (λ k. safe) (λ k. full) g.stands.moves (stuck_at d programs inputs steps lawful stuck)) j below in
    let P : List Row → Type 0 = λ x. HasEveryRow n j x in
    subst P (sym same) every
