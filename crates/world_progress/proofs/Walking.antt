-- A step of a world in which nobody forgot, beside the machine: one move that does something, or none; and what acts it is at both sides
-- of each link.
use Rattle.std.proofs.Common.{◌≡◌, ℕ, ◌+◌, ◌<◌, ◌≤◌, Bool, true, false, List, [], ◌∷◌, drop, slice_get, refl, sym, ap, subst, ◌∙◌, arith, Some, if◌then◌else◌}
use Rattle.std.specs.Prelude.{nat_eq}
use Rattle.std.specs.List.{AllByRecursion}
use Rattle.std.proofs.lemmas.Bool.{eqb-true, eq-eqb}
use Rattle.network.specs.Network.{with_one}
use Rattle.network.specs.Tables.{IsLawfulWith}
use Rattle.network.specs.Undone.{first_tag}
use Rattle.signal.specs.declared.signal.Signal.{Signal}
use Rattle.link.specs.Image.{Image}
use Rattle.plan.specs.declared.draft.Draft.{Draft}
use Rattle.plan.specs.declared.input.Input.{Input}
use Rattle.plan.specs.Federation.{federate_count}
use Rattle.plan.specs.Least.{least_of}
use Rattle.reactor_program.specs.Behaviour.{Behaviour}
use Rattle.plan_network.specs.Network.{network_of}
use Rattle.protocol.specs.Outcome.{Nothing, Done, with_made}
use Rattle.protocol.specs.Federate.{federate_announces, federate_advances}
use Rattle.protocol.specs.Machine.{Member, Move, ToCoordinator, ToFederate, Announce, Advance, Lose, with_member, federate_records_of, sent_to, stepped, outcome_of}
use Rattle.protocol_laws.proofs.Eligibility.{lawful_is_wired}
use Rattle.node.specs.declared.event.Event.{Event}
use Rattle.node.specs.Step.{Station, step_of}
use Rattle.node_cores.specs.FederateCore as of_federate
use Rattle.node_cores.specs.FederateCore.{FederateNode, federate_core}
use Rattle.node_cores.specs.CoordinatorCore.{CoordinatorNode, coordinator_core}
use Rattle.link_laws.specs.Direction.{offered_in}
use Rattle.link_laws.specs.Link.{Link, Act, Gets, Offers, Resends, Greets, Closes, TurnsAway}
use Rattle.link_laws.proofs.Forgotten.{AreOf}
use Rattle.world_stations.specs.declared.step.Step.{Step}
use Rattle.world_stations.specs.World.{Applied, unchanged, after_coordinator, after_federate, does}
use Rattle.world_stations.specs.Kept.{is_forget}
use Rattle.world_stations.specs.Federation.{Federation}
use Rattle.world_stations.proofs.Course.{acted, IsQuiet, TakesNone, taking, Comes, announces, advances, quiet, takes, notes, says, declines, cannot, IsCourse}
use Rattle.world_stations.proofs.Courses.{place_there}
use Rattle.world_stations.proofs.Shown.{ups_of, with_firsts, nowhere, happened_at_coordinator, happened_at_federate, lost, happened}
use Rattle.world_stations.proofs.Site.{node_with, IsSite, keeps, loses, quiet_second}
use Rattle.world_stations.proofs.Taking.{quiet_none}
use Rattle.world_stations.proofs.Moves.{done_of, refused_of, nothing_of, coordinator_answers, federate_answers, announces_freely, advances_freely, rule_of, coordinator_makes, coordinator_accepts_listed, moved_to, announce_move, advance_move}
use Rattle.world_stations.proofs.Runs.{IsRun, IsMoved, quiet_coordinator, takes_coordinator, coordinator_refuses}
use Rattle.world_stations.proofs.Members.{own_ends, accepts_as, announces_as, advances_as, kept_takes, kept_says, unmoved, kept_refuses}
use Rattle.world_stations.proofs.Steps.{members_after, refuses_no}

-- how many signals acts take
abbrev pub count_taking : List Act → ℕ
count_taking [] = 0
count_taking (Gets place true ∷ rest) = 1 + count_taking rest
count_taking (Gets place false ∷ rest) = count_taking rest
count_taking (Offers signals ∷ rest) = count_taking rest
count_taking (Resends ∷ rest) = count_taking rest
count_taking (Greets ∷ rest) = count_taking rest
count_taking (Closes number ∷ rest) = count_taking rest
count_taking (TurnsAway k number ∷ rest) = count_taking rest

-- how many signals of federate j's link a move takes at the coordinator, and at the federate
abbrev pub takes_up : Move → ℕ → ℕ
takes_up (ToCoordinator i) j = if nat_eq j i then 1 else 0
takes_up (ToFederate i) j = 0
takes_up (Announce i) j = 0
takes_up (Advance i) j = 0
takes_up (Lose i) j = 0

abbrev pub takes_down : Move → ℕ → ℕ
takes_down (ToCoordinator i) j = 0
takes_down (ToFederate i) j = if nat_eq j i then 1 else 0
takes_down (Announce i) j = 0
takes_down (Advance i) j = 0
takes_down (Lose i) j = 0

-- a move of one of this many federates, which loses nobody
abbrev pub IsOfOne : ℕ → Move → Type 0
IsOfOne count (ToCoordinator i) = i < count
IsOfOne count (ToFederate i) = i < count
IsOfOne count (Announce i) = i < count
IsOfOne count (Advance i) = i < count
IsOfOne count (Lose i) = ⊥

-- links after acts at both sides, which take at most this many signals
pub record IsActed (links after : ℕ → Link) (count : ℕ) (ups downs : ℕ → ℕ) : Type 0 where
  pub firsts : ℕ → List Act
  pub seconds : ℕ → List Act
  pub each : (j : ℕ) → after j ≡ record { first = acted (links j).first (links j).second.sent (firsts j); second = acted (links j).second (links j).first.sent (seconds j) }
  pub up : (j : ℕ) → j < count → count_taking (firsts j) ≤ ups j
  pub down : (j : ℕ) → j < count → count_taking (seconds j) ≤ downs j

-- what a step changes: no move is made, and nothing taken; or one that does something, and what it takes is taken
pub data Change (d : Draft) (programs : List Behaviour) (inputs : List Input) (moves moved : List Move) (links after : ℕ → Link) : Type 0 where
  stays : moved ≡ moves → IsActed links after (federate_count d) (λ j. 0) (λ j. 0) → Change d programs inputs moves moved links after
  moves_on : (move : Move) (made : ℕ → Member) → IsOfOne (federate_count d) move → outcome_of (network_of d programs inputs) (rule_of d programs inputs) (members_after d programs inputs moves) move ≡ Done made → moved ≡ move ∷ moves
      → IsActed links after (federate_count d) (takes_up move) (takes_down move) → Change d programs inputs moves moved links after

-- a step goes on beside the machine
pub record Walks (d : Draft) (programs : List Behaviour) (inputs : List Input) (made : Applied CoordinatorNode FederateNode) (moves : List Move) (before : ℕ → Link) : Type 0 where
  pub links : ℕ → Link
  pub moved : List Move
  pub run : IsRun d programs inputs made.world links (members_after d programs inputs moved)
  pub change : Change d programs inputs moves moved before links

-- a federate that kept its state
pub record IsOwn (d : Draft) (programs : List Behaviour) (inputs : List Input) (j : ℕ) (l : Link) (m : Member) (v : FederateNode) : Type 0 where
  pub incarnation : l.second.end.incarnation ≡ 1
  pub unclosed : l.second.end.closed ≡ false
  pub node : v ≡ node_with d programs inputs j m.federate
  pub down : m.down ≡ drop l.second.end.taken (offered_in 1 l.first.sent)
  pub frames : AreOf 1 l.second.sent

pub own_of : (d : Draft) (programs : List Behaviour) (inputs : List Input) (j : ℕ) (l : Link) (m : Member) (v : FederateNode) → m.lost ≡ false → IsSite d programs inputs j l m v → IsOwn d programs inputs j l m v
own_of d programs inputs j l m v not_lost site =
    elim site.own [
      | keeps is opened kept node queue frames ↦ record { incarnation = is; unclosed = opened; node = node; down = queue; frames = frames }
      | loses later is_lost ↦ absurd (let never : true ≡ false = sym is_lost ∙ not_lost in cc)
    ]

-- acts that take no signal are counted so
none_taking : (acts : List Act) → AllByRecursion TakesNone acts → count_taking acts ≤ 0
none_taking [] q = omega arith
none_taking (Gets place true ∷ rest) q = let never = q.0 in cc
none_taking (Gets place false ∷ rest) q = none_taking rest q.1
none_taking (Offers signals ∷ rest) q = none_taking rest q.1
none_taking (Resends ∷ rest) q = none_taking rest q.1
none_taking (Greets ∷ rest) q = none_taking rest q.1
none_taking (Closes number ∷ rest) q = none_taking rest q.1
none_taking (TurnsAway k number ∷ rest) q = none_taking rest q.1

-- where one signal is taken from one peer
one_taking : (place : ℕ) (signals : List Signal) (b : Bool) → count_taking (if b then Gets place true ∷ Offers signals ∷ [] else Offers signals ∷ []) ≤ (if b then 1 else 0)
one_taking place signals true = omega arith
one_taking place signals false = omega arith

counted : (acts others : List Act) (most : ℕ) → acts ≡ others → count_taking others ≤ most → count_taking acts ≤ most
counted acts others most same few = let P : List Act → Type 0 = λ x. count_taking x ≤ most in subst P (sym same) few

-- acts at the coordinator's sides
firsts_act : (links : ℕ → Link) (count : ℕ) (acts : ℕ → List Act) (ups downs : ℕ → ℕ) → ((j : ℕ) → j < count → count_taking (acts j) ≤ ups j) → IsActed links (with_firsts links (λ p. acted (links p).first (ups_of links p) (acts p))) count ups downs
firsts_act links count acts ups downs few = record { firsts = acts; seconds = λ j. []; each = λ j. refl; up = few; down = λ j l. omega arith }

-- acts at the federate's side of a link
abbrev with_acts : Link → List Act → Link
with_acts l acts = record { first = l.first; second = acted l.second l.first.sent acts }

-- acts at the side of federate j
one_acts : (links : ℕ → Link) (j : ℕ) (acts : List Act) (k : ℕ) → with_one links j (with_acts (links j) acts) k ≡ with_acts (links k) (if nat_eq k j then acts else [])
one_acts links j acts k = by_number (nat_eq k j) refl
  where
    by_number : (b : Bool) → nat_eq k j ≡ b → (if b then with_acts (links j) acts else links k) ≡ with_acts (links k) (if b then acts else [])
    by_number true e =
        let P : ℕ → Type 0 = λ x. with_acts (links j) acts ≡ with_acts (links x) acts in
        subst P (sym (eqb-true k j e)) refl
    by_number false e = refl

seconds_act : (links : ℕ → Link) (count j : ℕ) (acts : List Act) (ups downs : ℕ → ℕ) → count_taking acts ≤ downs j → IsActed links (with_one links j (with_acts (links j) acts)) count ups downs
seconds_act links count j acts ups downs few =
    record { firsts = λ k. []; seconds = λ k. if nat_eq k j then acts else []; each = one_acts links j acts; up = λ k l. omega arith; down = λ k l. by_number k (nat_eq k j) refl }
  where
    by_number : (k : ℕ) (b : Bool) → nat_eq k j ≡ b → count_taking (if b then acts else []) ≤ downs k
    by_number k true e = let P : ℕ → Type 0 = λ x. count_taking acts ≤ downs x in subst P (sym (eqb-true k j e)) few
    by_number k false e = omega arith

-- after one move
by_move : (d : Draft) (programs : List Behaviour) (inputs : List Input) (made : Applied CoordinatorNode FederateNode) (before links : ℕ → Link) (moves : List Move) (move : Move) → IsOfOne (federate_count d) move → IsActed before links (federate_count d) (takes_up move) (takes_down move)
    → IsMoved d programs inputs made.world links (members_after d programs inputs moves) move → Walks d programs inputs made moves before
by_move d programs inputs made before links moves move of acts m =
    let is = moved_to (network_of d programs inputs) (rule_of d programs inputs) moves move m.after m.is_made in
    let P : (ℕ → Member) → Type 0 = λ x. IsRun d programs inputs made.world links x in
    record { links = links; moved = move ∷ moves; run = subst P (sym is) m.run; change = moves_on move m.after of m.is_made refl acts }

-- without a move
by_none : (d : Draft) (programs : List Behaviour) (inputs : List Input) (made : Applied CoordinatorNode FederateNode) (before links : ℕ → Link) (moves : List Move) → IsActed before links (federate_count d) (λ j. 0) (λ j. 0)
    → IsRun d programs inputs made.world links (members_after d programs inputs moves) → Walks d programs inputs made moves before
by_none d programs inputs made before links moves acts run = record { links = links; moved = moves; run = run; change = stays refl acts }

-- quiet acts of the coordinator are counted so
quiet_counted : (d : Draft) (programs : List Behaviour) (inputs : List Input) (w : Federation) (links : ℕ → Link) (members : ℕ → Member) (acts : ℕ → List Act) → ((p : ℕ) (i : Image) → slice_get w.coordinator.ends p ≡ Some i → AllByRecursion (IsQuiet true i.incarnation) (acts p)) → IsRun d programs inputs w links members
    → (j : ℕ) → j < federate_count d → count_taking (acts j) ≤ 0
quiet_counted d programs inputs w links members acts are run j l =
    none_taking (acts j) (quiet_none true (links j).first.end.incarnation (acts j) (are j (links j).first.end (run.shown.each j l).first))

-- the coordinator's station does something
walks_at_coordinator : (d : Draft) (programs : List Behaviour) (inputs : List Input) (w : Federation) (links : ℕ → Link) (moves : List Move) (e : Event) (place : ℕ) (c : IsCourse coordinator_core true w.coordinator e (ups_of links) place (step_of coordinator_core true w.coordinator e))
    → IsLawfulWith (network_of d programs inputs) (least_of d) → Comes w.coordinator (ups_of links) place e → IsRun d programs inputs w links (members_after d programs inputs moves) → Walks d programs inputs (after_coordinator w (step_of coordinator_core true w.coordinator e)) moves links
walks_at_coordinator d programs inputs w links moves e place c lawful comes run =
    let made = step_of coordinator_core true w.coordinator e in
    let members = members_after d programs inputs moves in
    let after : ℕ → Link = with_firsts links (λ p. acted (links p).first (ups_of links p) (c.acts p)) in
    let wired = lawful_is_wired (network_of d programs inputs) lawful.lawful in
    elim c.kind [
      | quiet node harmless acts ↦
          by_none d programs inputs (after_coordinator w made) links after moves
          (firsts_act links (federate_count d) c.acts (λ j. 0) (λ j. 0) (quiet_counted d programs inputs w links members c.acts acts run))
          (quiet_coordinator d programs inputs w links members e place c node acts run)
      | takes q m handed node harmless acts ↦
          let placed = place_there w.coordinator.ends q handed.image handed.found in
          let size = run.shown.ends in
          by_move d programs inputs (after_coordinator w made) links after moves (ToCoordinator q) (omega arith)
          (firsts_act links (federate_count d) c.acts (takes_up (ToCoordinator q)) (takes_down (ToCoordinator q))
          (λ j l. counted (c.acts j) (taking q place j (sent_to j m.sent)) (takes_up (ToCoordinator q) j) (acts j) (one_taking place (sent_to j m.sent) (nat_eq j q))))
          (takes_coordinator d programs inputs w links members e place q m c wired comes handed node acts run)
      | notes q handed acts ↦
          absurd (coordinator_answers (network_of d programs inputs) (rule_of d programs inputs) (federate_records_of members) q handed.signal
          (nothing_of (coordinator_makes (network_of d programs inputs) w.coordinator.node) _ (sym (coordinator_accepts_listed d programs inputs w.coordinator.node (federate_records_of members) q handed.signal run.draft run.federate_records) ∙ handed.node)))
      | says m speaks node harmless acts ↦ absurd (elim speaks [ announces is does ↦ cc | advances is does ↦ cc ])
      | declines q refusal handed acts ↦ absurd (refuses_no d programs inputs moves (ToCoordinator q) refusal lawful (coordinator_refuses d programs inputs w links members e place q refusal comes handed run))
      | cannot refusal speaks acts ↦ absurd (elim speaks [ announces is does ↦ cc | advances is does ↦ cc ])
    ]

-- what a federate takes is one signal of its own link
own_counted : (j : ℕ) (acts : List Act) (q place : ℕ) (signals : List Signal) → acts ≡ taking q place 0 signals → count_taking acts ≤ takes_down (ToFederate j) j
own_counted j acts q place signals is =
    let P : Bool → Type 0 = λ b. count_taking acts ≤ (if b then 1 else 0) in
    subst P (sym (eq-eqb j j refl)) (counted acts (taking q place 0 signals) 1 is (one_at_most place signals (nat_eq 0 q)))
  where
    one_at_most : (place : ℕ) (signals : List Signal) (b : Bool) → count_taking (if b then Gets place true ∷ Offers signals ∷ [] else Offers signals ∷ []) ≤ 1
    one_at_most place signals true = omega arith
    one_at_most place signals false = omega arith

-- a federate's station does something
walks_at_federate : (d : Draft) (programs : List Behaviour) (inputs : List Input) (w : Federation) (links : ℕ → Link) (moves : List Move) (j : ℕ) (s : Station FederateNode) (e : Event) (place : ℕ) (c : IsCourse federate_core false s e (λ p. (links j).first.sent) place (step_of federate_core false s e))
    → IsLawfulWith (network_of d programs inputs) (least_of d) → (members_after d programs inputs moves j).lost ≡ false → j < federate_count d → slice_get w.federates j ≡ Some s → Comes s (λ p. (links j).first.sent) place e → IsRun d programs inputs w links (members_after d programs inputs moves)
    → Walks d programs inputs (after_federate w j (step_of federate_core false s e)) moves links
walks_at_federate d programs inputs w links moves j s e place c lawful not_lost below there comes run =
    let n = network_of d programs inputs in
    let rule = rule_of d programs inputs in
    let made = step_of federate_core false s e in
    let members = members_after d programs inputs moves in
    let site = run.site j below s there in
    let ends = own_ends d programs inputs w links members j s below there run in
    let mine = own_of d programs inputs j (links j) (members_after d programs inputs moves j) s.node not_lost site in
    elim c.kind [
      | quiet node harmless acts ↦
          let found : slice_get s.ends 0 ≡ Some (links j).second.end = ap (λ (x : List Image). slice_get x 0) ends in
          let still = quiet_second d programs inputs j (links j) (members j) s.node (c.acts 0) (acts 0 (links j).second.end found) site in
          let N : FederateNode → Type 0 = λ x. IsSite d programs inputs j (record { first = (links j).first; second = acted (links j).second (links j).first.sent (c.acts 0) }) (members j) x in
          by_none d programs inputs (after_federate w j made) links _ moves
          (seconds_act links (federate_count d) j (c.acts 0) (λ k. 0) (λ k. 0) (none_taking (c.acts 0) (quiet_none false (links j).second.end.incarnation (c.acts 0) (acts 0 (links j).second.end found))))
          (unmoved d programs inputs w links members j s e place c below there (subst N (sym node) still) run)
      | takes q m handed node harmless acts ↦
          by_move d programs inputs (after_federate w j made) links _ moves (ToFederate j) below
          (seconds_act links (federate_count d) j (c.acts 0) (takes_up (ToFederate j)) (takes_down (ToFederate j)) (own_counted j (c.acts 0) q place (sent_to 0 m.sent) (acts 0)))
          (kept_takes d programs inputs w links members j s e place q m c below there comes handed node (acts 0) mine.incarnation not_lost mine.node mine.down mine.frames run)
      | notes q handed acts ↦
          absurd (federate_answers n j (members j).federate handed.signal (nothing_of (of_federate.made_by (node_with d programs inputs j (members j).federate)) _ (accepts_as d programs inputs j (members j) s.node q handed.signal Nothing mine.node handed.node)))
      | says m speaks node_after harmless acts ↦
          elim speaks [
            | announces is_event does ↦
                let done = done_of (of_federate.made_by (node_with d programs inputs j (members j).federate)) (federate_announces (members j).federate) m (announces_as d programs inputs j (members j) s.node (Done m) mine.node does) in
                by_move d programs inputs (after_federate w j made) links _ moves (Announce j) below
                (seconds_act links (federate_count d) j (c.acts 0) (takes_up (Announce j)) (takes_down (Announce j)) (counted (c.acts 0) (Offers (sent_to 0 m.sent) ∷ []) 0 (acts 0) (omega arith)))
                (kept_says d programs inputs w links members j s e place m done.0 (Announce j) c below there node_after (acts 0) done.2
                (announce_move n rule members j not_lost ∙ ap (with_made (λ made. with_member members j (stepped (members j) (members j).down made))) done.1) mine.incarnation mine.unclosed not_lost mine.down mine.frames run)
            | advances is_event does ↦
                let done = done_of (of_federate.made_by (node_with d programs inputs j (members j).federate)) (federate_advances n j (members j).federate) m (advances_as d programs inputs j (members j) s.node (Done m) mine.node does) in
                by_move d programs inputs (after_federate w j made) links _ moves (Advance j) below
                (seconds_act links (federate_count d) j (c.acts 0) (takes_up (Advance j)) (takes_down (Advance j)) (counted (c.acts 0) (Offers (sent_to 0 m.sent) ∷ []) 0 (acts 0) (omega arith)))
                (kept_says d programs inputs w links members j s e place m done.0 (Advance j) c below there node_after (acts 0) done.2
                (advance_move n rule members j not_lost ∙ ap (with_made (λ made. with_member members j (stepped (members j) (members j).down made))) done.1) mine.incarnation mine.unclosed not_lost mine.down mine.frames run)
          ]
      | declines q refusal handed acts ↦
          absurd (refuses_no d programs inputs moves (ToFederate j) refusal lawful (kept_refuses d programs inputs w links members j s e place q refusal below there comes handed mine.incarnation not_lost mine.node mine.down run))
      | cannot refusal speaks acts ↦
          absurd (elim speaks [
            | announces is_event does ↦ announces_freely s.node.federate refusal (refused_of (of_federate.made_by s.node) (federate_announces s.node.federate) refusal does)
            | advances is_event does ↦ advances_freely (of_federate.network_at s.node) s.node.number s.node.federate (first_tag s.node.federate.undone) refusal (refused_of (of_federate.made_by s.node) (federate_advances (of_federate.network_at s.node) s.node.number s.node.federate) refusal does)
          ])
    ]

-- nothing is done
unacted : (links : ℕ → Link) (count : ℕ) → IsActed links links count (λ j. 0) (λ j. 0)
unacted links count = record { firsts = λ j. []; seconds = λ j. []; each = λ j. refl; up = λ j l. omega arith; down = λ j l. omega arith }

-- each step goes on
pub walks : (d : Draft) (programs : List Behaviour) (inputs : List Input) (w : Federation) (links : ℕ → Link) (moves : List Move) (step : Step) → IsLawfulWith (network_of d programs inputs) (least_of d) → is_forget step ≡ false → ((j : ℕ) → (members_after d programs inputs moves j).lost ≡ false)
    → IsRun d programs inputs w links (members_after d programs inputs moves) → Walks d programs inputs (does coordinator_core federate_core w step) moves links
walks d programs inputs w links moves step lawful not_forget kept run =
    let held = (λ (j : ℕ) (l : j < federate_count d). (let at = run.shown.each j l in (run.site j l at.station at.there).held)) in
    let G : Applied CoordinatorNode FederateNode → Type 0 = λ x. Walks d programs inputs x moves links in
    elim (happened coordinator_core federate_core w (federate_count d) links step run.shown held) [
      | nowhere is ↦ subst G (sym is) (by_none d programs inputs (unchanged w) links links moves (unacted links (federate_count d)) run)
      | happened_at_coordinator e place comes c brings is ↦ subst G (sym is) (walks_at_coordinator d programs inputs w links moves e place c lawful comes run)
      | happened_at_federate j s e place below there comes c brings is ↦ subst G (sym is) (walks_at_federate d programs inputs w links moves j s e place c lawful (kept j) below there comes run)
      | lost j s below there is_step is ↦ absurd (let P : Step → Type 0 = λ x. is_forget x ≡ false in let never = subst P is_step not_forget in cc)
    ]
