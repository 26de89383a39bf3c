-- Each step of a federation's world goes on beside a run of the machine, by one move or none, and no node refuses anything.
use Rattle.std.proofs.Common.{◌≡◌, ℕ, ◌<◌, true, false, List, [], ◌∷◌, set, slice_get, refl, sym, ap, subst, ◌∙◌, Some}
use Rattle.std.proofs.lemmas.Bool.{eqb-false}
use Rattle.network.specs.Network.{with_one}
use Rattle.network.specs.Tables.{IsLawfulWith}
use Rattle.network.specs.Undone.{first_tag}
use Rattle.link.specs.Image.{Image}
use Rattle.plan.specs.declared.draft.Draft.{Draft}
use Rattle.plan.specs.declared.input.Input.{Input}
use Rattle.plan.specs.Federation.{federate_count}
use Rattle.plan.specs.Least.{least_of}
use Rattle.reactor_program.specs.Behaviour.{Behaviour}
use Rattle.plan_network.specs.Network.{network_of}
use Rattle.protocol.specs.declared.refusal.Refusal.{Refusal}
use Rattle.protocol.specs.Outcome.{Refused, Nothing, Done, with_made}
use Rattle.protocol.specs.Federate.{federate_announces, federate_advances}
use Rattle.protocol.specs.Machine.{Member, Move, ToCoordinator, ToFederate, Announce, Advance, Lose, with_member, federate_records_of, sent_to, stepped, outcome_of, after_moves}
use Rattle.protocol_laws.proofs.Eligibility.{lawful_is_wired}
use Rattle.protocol_laws.proofs.SafeGrants.{widest_rule_is_safe}
use Rattle.protocol_laws.proofs.Safety.{none_refused}
use Rattle.node.specs.declared.event.Event.{Event}
use Rattle.node.specs.Core.{Made}
use Rattle.node.specs.Step.{Station, Answer, Silent, Says, Declines, step_of}
use Rattle.node_cores.specs.FederateCore as of_federate
use Rattle.node_cores.specs.FederateCore.{FederateNode, federate_core}
use Rattle.node_cores.specs.CoordinatorCore.{CoordinatorNode, coordinator_core}
use Rattle.link_laws.specs.Link.{Link, Act, Offers, replaced}
use Rattle.world_stations.specs.declared.step.Step.{Step}
use Rattle.world_stations.specs.declared.step.Step.TheVariants.{Forget}
use Rattle.world_stations.specs.declared.outcome.Outcome.TheVariants as outcome
use Rattle.world_stations.specs.World.{outcome_of as told_by, Applied, unchanged, after_coordinator, after_federate, forgotten, does}
use Rattle.world_stations.specs.Kept.{is_forget_of}
use Rattle.world_stations.specs.Federation.{Federation, IsHarmless}
use Rattle.world_stations.proofs.Course.{acted, Comes, IsHarmlessAnswer, announces, advances, quiet, takes, notes, says}
use Rattle.world_stations.proofs.Course.{declines, cannot, IsCourse}
use Rattle.world_stations.proofs.Shown.{ups_of, with_firsts, nowhere, happened_at_coordinator, happened_at_federate, lost as loses_all, happened, at_other}
use Rattle.world_stations.proofs.Site.{node_with, IsSite, keeps, loses, quiet_second, lost_second}
use Rattle.world_stations.proofs.Moves.{done_of, refused_of, nothing_of, coordinator_answers, federate_answers, announces_freely, advances_freely, rule_of, coordinator_makes, coordinator_accepts_listed, moved_to, announce_move, advance_move}
use Rattle.world_stations.proofs.Runs.{IsRun, IsMoved, quiet_coordinator, takes_coordinator, coordinator_refuses}
use Rattle.world_stations.proofs.Members.{handed_at, never_handed, own_ends, accepts_as, announces_as, advances_as, kept_takes, kept_says, unmoved, forgets_all, kept_refuses}

-- the members after moves of a federation's machine
abbrev pub members_after : Draft → List Behaviour → List Input → List Move → ℕ → Member
members_after d programs inputs moves = after_moves (network_of d programs inputs) (λ k. rule_of d programs inputs) moves

-- a step goes on beside the machine
pub record Goes (d : Draft) (programs : List Behaviour) (inputs : List Input) (made : Applied CoordinatorNode FederateNode) (step : Step) (moves : List Move) : Type 0 where
  pub links : ℕ → Link
  pub moved : List Move
  pub run : IsRun d programs inputs made.world links (members_after d programs inputs moved)
  pub harmless : IsHarmless made.outcome
  pub lost : (j : ℕ) → is_forget_of j step ≡ false → (members_after d programs inputs moved j).lost ≡ (members_after d programs inputs moves j).lost

harmless_told : (answer : Answer) → IsHarmlessAnswer answer → IsHarmless (told_by answer)
harmless_told Silent h = tt
harmless_told (Says frames) h = tt
harmless_told (Declines number frames) h = h

-- after one move
by_move : (d : Draft) (programs : List Behaviour) (inputs : List Input) (made : Applied CoordinatorNode FederateNode) (links : ℕ → Link) (step : Step) (moves : List Move) (move : Move) → IsHarmless made.outcome → IsMoved d programs inputs made.world links (members_after d programs inputs moves) move → Goes d programs inputs made step moves
by_move d programs inputs made links step moves move harmless m =
    let is = moved_to (network_of d programs inputs) (rule_of d programs inputs) moves move m.after m.is_made in
    let P : (ℕ → Member) → Type 0 = λ x. IsRun d programs inputs made.world links x in
    let Q : (ℕ → Member) → Type 0 = λ x. (j : ℕ) → is_forget_of j step ≡ false → (x j).lost ≡ (members_after d programs inputs moves j).lost in
    record { links = links; moved = move ∷ moves; run = subst P (sym is) m.run; harmless = harmless; lost = subst Q (sym is) (λ j other. m.lost j) }

-- without a move
by_none : (d : Draft) (programs : List Behaviour) (inputs : List Input) (made : Applied CoordinatorNode FederateNode) (links : ℕ → Link) (step : Step) (moves : List Move) → IsHarmless made.outcome → IsRun d programs inputs made.world links (members_after d programs inputs moves) → Goes d programs inputs made step moves
by_none d programs inputs made links step moves harmless run = record { links = links; moved = moves; run = run; harmless = harmless; lost = λ j other. refl }

-- no move is refused
pub refuses_no : (d : Draft) (programs : List Behaviour) (inputs : List Input) (moves : List Move) (move : Move) (refusal : Refusal) → IsLawfulWith (network_of d programs inputs) (least_of d) → outcome_of (network_of d programs inputs) (rule_of d programs inputs) (members_after d programs inputs moves) move ≡ Refused refusal → ⊥
refuses_no d programs inputs moves move refusal lawful e =
    let n = network_of d programs inputs in
    let safe = widest_rule_is_safe n (least_of d) (lawful_is_wired n lawful.lawful) in
    none_refused n (least_of d) (λ k. rule_of d programs inputs) moves move refusal lawful.lawful lawful.facts (λ k. safe) e

-- the coordinator's station does something
goes_at_coordinator : (d : Draft) (programs : List Behaviour) (inputs : List Input) (w : Federation) (links : ℕ → Link) (moves : List Move) (step : Step) (e : Event) (place : ℕ) (c : IsCourse coordinator_core true w.coordinator e (ups_of links) place (step_of coordinator_core true w.coordinator e))
    → IsLawfulWith (network_of d programs inputs) (least_of d) → Comes w.coordinator (ups_of links) place e → IsRun d programs inputs w links (members_after d programs inputs moves) → Goes d programs inputs (after_coordinator w (step_of coordinator_core true w.coordinator e)) step moves
goes_at_coordinator d programs inputs w links moves step e place c lawful comes run =
    let made = step_of coordinator_core true w.coordinator e in
    let members = members_after d programs inputs moves in
    let after : ℕ → Link = with_firsts links (λ p. acted (links p).first (ups_of links p) (c.acts p)) in
    let wired = lawful_is_wired (network_of d programs inputs) lawful.lawful in
    elim c.kind [
      | quiet node harmless acts ↦ by_none d programs inputs (after_coordinator w made) after step moves (harmless_told made.answer harmless) (quiet_coordinator d programs inputs w links members e place c node acts run)
      | takes q m handed node harmless acts ↦ by_move d programs inputs (after_coordinator w made) after step moves (ToCoordinator q) (harmless_told made.answer harmless) (takes_coordinator d programs inputs w links members e place q m c wired comes handed node acts run)
      | notes q handed acts ↦
          absurd (coordinator_answers (network_of d programs inputs) (rule_of d programs inputs) (federate_records_of members) q handed.signal
          (nothing_of (coordinator_makes (network_of d programs inputs) w.coordinator.node) _ (sym (coordinator_accepts_listed d programs inputs w.coordinator.node (federate_records_of members) q handed.signal run.draft run.federate_records) ∙ handed.node)))
      | says m speaks node harmless acts ↦ absurd (elim speaks [ announces is does ↦ cc | advances is does ↦ cc ])
      | declines q refusal handed acts ↦ absurd (refuses_no d programs inputs moves (ToCoordinator q) refusal lawful (coordinator_refuses d programs inputs w links members e place q refusal comes handed run))
      | cannot refusal speaks acts ↦ absurd (elim speaks [ announces is does ↦ cc | advances is does ↦ cc ])
    ]

-- a lost federate does something
lost_goes : (d : Draft) (programs : List Behaviour) (inputs : List Input) (w : Federation) (links : ℕ → Link) (moves : List Move) (step : Step) (j : ℕ) (s : Station FederateNode) (e : Event) (place : ℕ) (m : Made FederateNode) (c : IsCourse federate_core false s e (λ p. (links j).first.sent) place (step_of federate_core false s e))
    → j < federate_count d → slice_get w.federates j ≡ Some s → IsHarmlessAnswer (step_of federate_core false s e).answer → c.acts 0 ≡ Offers (sent_to 0 m.sent) ∷ [] → 1 < (links j).second.end.incarnation → (members_after d programs inputs moves j).lost ≡ true → IsRun d programs inputs w links (members_after d programs inputs moves)
    → Goes d programs inputs (after_federate w j (step_of federate_core false s e)) step moves
lost_goes d programs inputs w links moves step j s e place m c below there harmless acts later lost run =
    let made = step_of federate_core false s e in
    let members = members_after d programs inputs moves in
    let site = run.site j below s there in
    let A : List Act → Type 0 = λ x. IsSite d programs inputs j (record { first = (links j).first; second = acted (links j).second (links j).first.sent x }) (members j) made.station.node in
    let after = subst A (sym acts) (lost_second d programs inputs j (links j) (members j) s.node made.station.node (Offers (sent_to 0 m.sent) ∷ []) (tt, tt) later lost site) in
    by_none d programs inputs (after_federate w j made) _ step moves (harmless_told made.answer harmless) (unmoved d programs inputs w links members j s e place c below there after run)

-- a federate's station does something
goes_at_federate : (d : Draft) (programs : List Behaviour) (inputs : List Input) (w : Federation) (links : ℕ → Link) (moves : List Move) (step : Step) (j : ℕ) (s : Station FederateNode) (e : Event) (place : ℕ) (c : IsCourse federate_core false s e (λ p. (links j).first.sent) place (step_of federate_core false s e))
    → IsLawfulWith (network_of d programs inputs) (least_of d) → j < federate_count d → slice_get w.federates j ≡ Some s → Comes s (λ p. (links j).first.sent) place e → IsRun d programs inputs w links (members_after d programs inputs moves)
    → Goes d programs inputs (after_federate w j (step_of federate_core false s e)) step moves
goes_at_federate d programs inputs w links moves step j s e place c lawful below there comes run =
    let n = network_of d programs inputs in
    let rule = rule_of d programs inputs in
    let made = step_of federate_core false s e in
    let members = members_after d programs inputs moves in
    let site = run.site j below s there in
    let ends = own_ends d programs inputs w links members j s below there run in
    let node = node_with d programs inputs j (members j).federate in
    elim c.kind [
      | quiet node harmless acts ↦
          let found : slice_get s.ends 0 ≡ Some (links j).second.end = ap (λ (x : List Image). slice_get x 0) ends in
          let still = quiet_second d programs inputs j (links j) (members j) s.node (c.acts 0) (acts 0 (links j).second.end found) site in
          let N : FederateNode → Type 0 = λ x. IsSite d programs inputs j (record { first = (links j).first; second = acted (links j).second (links j).first.sent (c.acts 0) }) (members j) x in
          by_none d programs inputs (after_federate w j made) _ step moves (harmless_told made.answer harmless) (unmoved d programs inputs w links members j s e place c below there (subst N (sym node) still) run)
      | takes q m handed node harmless acts ↦
          elim site.own [
            | keeps is opened not_lost node_is queue frames ↦
                by_move d programs inputs (after_federate w j made) _ step moves (ToFederate j) (harmless_told made.answer harmless)
                (kept_takes d programs inputs w links members j s e place q m c below there comes handed node (acts 0) is not_lost node_is queue frames run)
            | loses later lost ↦ absurd (never_handed d programs inputs j (links j) (members j) s.node place handed.incarnation handed.number handed.signal q site later (handed_at w (links j) s e place q (Done m) ends comes handed))
          ]
      | notes q handed acts ↦
          elim site.own [
            | keeps is opened not_lost node_is queue frames ↦
                absurd (federate_answers n j (members j).federate handed.signal (nothing_of (of_federate.made_by (node_with d programs inputs j (members j).federate)) _ (accepts_as d programs inputs j (members j) s.node q handed.signal Nothing node_is handed.node)))
            | loses later lost ↦ absurd (never_handed d programs inputs j (links j) (members j) s.node place handed.incarnation handed.number handed.signal q site later (handed_at w (links j) s e place q Nothing ends comes handed))
          ]
      | says m speaks node_after harmless acts ↦
          elim site.own [
            | keeps is opened not_lost node_is queue frames ↦
                elim speaks [
                  | announces is_event does ↦
                      let done = done_of (of_federate.made_by (node_with d programs inputs j (members j).federate)) (federate_announces (members j).federate) m (announces_as d programs inputs j (members j) s.node (Done m) node_is does) in
                      by_move d programs inputs (after_federate w j made) _ step moves (Announce j) (harmless_told made.answer harmless)
                      (kept_says d programs inputs w links members j s e place m done.0 (Announce j) c below there node_after (acts 0) done.2
                      (announce_move n rule members j not_lost ∙ ap (with_made (λ made. with_member members j (stepped (members j) (members j).down made))) done.1) is opened not_lost queue frames run)
                  | advances is_event does ↦
                      let done = done_of (of_federate.made_by (node_with d programs inputs j (members j).federate)) (federate_advances n j (members j).federate) m (advances_as d programs inputs j (members j) s.node (Done m) node_is does) in
                      by_move d programs inputs (after_federate w j made) _ step moves (Advance j) (harmless_told made.answer harmless)
                      (kept_says d programs inputs w links members j s e place m done.0 (Advance j) c below there node_after (acts 0) done.2
                      (advance_move n rule members j not_lost ∙ ap (with_made (λ made. with_member members j (stepped (members j) (members j).down made))) done.1) is opened not_lost queue frames run)
                ]
            | loses later lost ↦ lost_goes d programs inputs w links moves step j s e place m c below there harmless (acts 0) later lost run
          ]
      | declines q refusal handed acts ↦
          elim site.own [
            | keeps is opened not_lost node_is queue frames ↦ absurd (refuses_no d programs inputs moves (ToFederate j) refusal lawful (kept_refuses d programs inputs w links members j s e place q refusal below there comes handed is not_lost node_is queue run))
            | loses later lost ↦ absurd (never_handed d programs inputs j (links j) (members j) s.node place handed.incarnation handed.number handed.signal q site later (handed_at w (links j) s e place q (Refused refusal) ends comes handed))
          ]
      | cannot refusal speaks acts ↦
          absurd (elim speaks [
            | announces is_event does ↦ announces_freely s.node.federate refusal (refused_of (of_federate.made_by s.node) (federate_announces s.node.federate) refusal does)
            | advances is_event does ↦ advances_freely (of_federate.network_at s.node) s.node.number s.node.federate (first_tag s.node.federate.undone) refusal (refused_of (of_federate.made_by s.node) (federate_advances (of_federate.network_at s.node) s.node.number s.node.federate) refusal does)
          ])
    ]

-- a federate forgets all
goes_lost : (d : Draft) (programs : List Behaviour) (inputs : List Input) (w : Federation) (links : ℕ → Link) (moves : List Move) (step : Step) (j : ℕ) (s : Station FederateNode) (made : Applied CoordinatorNode FederateNode) → j < federate_count d → slice_get w.federates j ≡ Some s → step ≡ Forget j
    → made ≡ record { world = record w { federates = set w.federates j (forgotten federate_core s) }; outcome = outcome.Done } → IsRun d programs inputs w links (members_after d programs inputs moves) → Goes d programs inputs made step moves
goes_lost d programs inputs w links moves step j s made below there is_step is run =
    let members = members_after d programs inputs moves in
    let all = forgets_all d programs inputs w links members j s below there run in
    let moved = moved_to (network_of d programs inputs) (rule_of d programs inputs) moves (Lose j) (with_member members j (record (members j) { lost = true })) refl in
    let P : (ℕ → Member) → Type 0 = λ x. IsRun d programs inputs (record w { federates = set w.federates j (forgotten federate_core s) }) (with_one links j (record { first = (links j).first; second = replaced (links j).second })) x in
    let Q : (ℕ → Member) → Type 0 = λ x. (k : ℕ) → is_forget_of k step ≡ false → (x k).lost ≡ (members_after d programs inputs moves k).lost in
    let G : Applied CoordinatorNode FederateNode → Type 0 = λ x. Goes d programs inputs x step moves in
    subst G (sym is)
    (record {
      links = with_one links j (record { first = (links j).first; second = replaced (links j).second });
      moved = Lose j ∷ moves;
      run = subst P (sym moved) all;
      harmless = tt;
      lost = subst Q (sym moved)
          (λ k other. (
          let S : Step → Type 0 = λ x. is_forget_of k x ≡ false in
          let apart = eqb-false j k (subst S is_step other) in
          ap (λ (m : Member). m.lost) (at_other members j k (record (members j) { lost = true }) (λ e. apart (sym e)))));
    })

-- each step goes on
pub goes : (d : Draft) (programs : List Behaviour) (inputs : List Input) (w : Federation) (links : ℕ → Link) (moves : List Move) (step : Step) → IsLawfulWith (network_of d programs inputs) (least_of d) → IsRun d programs inputs w links (members_after d programs inputs moves) → Goes d programs inputs (does coordinator_core federate_core w step) step moves
goes d programs inputs w links moves step lawful run =
    let made = does coordinator_core federate_core w step in
    let held = (λ (j : ℕ) (l : j < federate_count d). (let at = run.shown.each j l in (run.site j l at.station at.there).held)) in
    let G : Applied CoordinatorNode FederateNode → Type 0 = λ x. Goes d programs inputs x step moves in
    elim (happened coordinator_core federate_core w (federate_count d) links step run.shown held) [
      | nowhere is ↦ subst G (sym is) (by_none d programs inputs (unchanged w) links step moves tt run)
      | happened_at_coordinator e place comes c brings is ↦ subst G (sym is) (goes_at_coordinator d programs inputs w links moves step e place c lawful comes run)
      | happened_at_federate j s e place below there comes c brings is ↦ subst G (sym is) (goes_at_federate d programs inputs w links moves step j s e place c lawful below there comes run)
      | loses_all j s below there is_step is ↦ goes_lost d programs inputs w links moves step j s made below there is_step is run
    ]
