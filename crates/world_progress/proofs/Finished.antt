-- A stuck world's coordinator says that all is finished.
use Rattle.std.proofs.Common.{◌≡◌, ℕ, ◌<◌, Bool, true, false, List, [], ◌∷◌, length, refl, sym, ap, subst, ◌∙◌, arith, Option, IfSome, IsTrue, if◌then◌else◌}
use Rattle.std.specs.List.{list_any}
use Rattle.tag.specs.LogicalTime.{forever, place}
use Rattle.tag.proofs.Order.{equal_places, forever_is_logical, place_of_forever}
use Rattle.network.specs.Tables.{IsLawfulWith}
use Rattle.link.specs.Image.{Image}
use Rattle.plan.specs.declared.draft.Draft.{Draft}
use Rattle.plan.specs.declared.input.Input.{Input}
use Rattle.plan.specs.Federation.{federate_count}
use Rattle.plan.specs.Least.{least_of}
use Rattle.reactor_program.specs.Behaviour.{Behaviour}
use Rattle.plan_network.specs.Network.{network_of}
use Rattle.protocol.specs.Outcome as machine
use Rattle.protocol.specs.Federate.{federate_announces, federate_advances}
use Rattle.protocol.specs.FederateRecord.{FederateRecord}
use Rattle.protocol.specs.FederateRecords.{federate_record_at, is_finished}
use Rattle.protocol.specs.Machine.{federate_records_of}
use Rattle.protocol_laws.specs.Runs as runs
use Rattle.protocol_laws.proofs.Eligibility.{lawful_is_wired}
use Rattle.protocol_laws.proofs.SafeGrants.{widest_rule_is_safe, widest_rule_is_full}
use Rattle.protocol_laws.proofs.ListedFederateRecords.{finished_is}
use Rattle.protocol_laws.proofs.Safety.{moves_sound}
use Rattle.protocol_laws.proofs.StillUndone.{first_place}
use Rattle.protocol_laws.proofs.Stuck.{stuck_next, stuck_quiet}
use Rattle.node.specs.declared.event.Event.TheVariants as event
use Rattle.node.specs.Mail.{all_posted, lacks_room}
use Rattle.node.specs.Core.{Made, LacksRoom, Moves, ending_of}
use Rattle.node.specs.Step.{Station, acts, unsent}
use Rattle.node_cores.specs.FederateCore as of_federate
use Rattle.node_cores.specs.FederateCore.{FederateNode, federate_core}
use Rattle.node_cores.specs.CoordinatorCore.{wiring_in, coordinator_core}
use Rattle.world_stations.specs.declared.dir.Dir.{Dir}
use Rattle.world_stations.specs.declared.dir.Dir.TheVariants.{Up, Down}
use Rattle.world_stations.specs.declared.step.Step.{Step}
use Rattle.world_stations.specs.declared.outcome.Outcome.TheVariants as outcome
use Rattle.world_stations.specs.World.{outcome_of, federate_of}
use Rattle.world_stations.specs.Taken.{sender}
use Rattle.world_stations.specs.Kept.{is_forget}
use Rattle.world_stations.specs.Federation.{Federation, IsStuck, world_after}
use Rattle.world_stations.proofs.Site.{node_with}
use Rattle.world_stations.proofs.Moves.{rule_of, nothing_of}
use Rattle.world_stations.proofs.Steps.{members_after}
use Rattle.world_stations.proofs.Worlds.{listed_so}
use Rattle.world_stations.proofs.Emptied.{shows_at_the_ends}
use Rattle.world_progress.proofs.Reached.{Reached}
use Rattle.world_progress.proofs.Facing.{side_out, queue_of, direction, last_size, own}
use Rattle.world_progress.proofs.Halting.{event_of_federate, reached_steps}

-- a station that says nothing had nothing to say
silent_is : (s : Station FederateNode) (o : machine.Outcome (Made FederateNode)) → outcome_of (acts s (ending_of (unsent s) o)).answer ≡ outcome.Nothing → o ≡ machine.Nothing
silent_is s (machine.Refused refusal) e = cc
silent_is s machine.Nothing e = refl
silent_is s (machine.Done made) e = absurd (by_room (lacks_room s.ends made.sent) e)
  where
    by_room : (b : Bool) → outcome_of (acts s (if b then LacksRoom else Moves made.after (all_posted (unsent s) made.sent))).answer ≡ outcome.Nothing → ⊥
    by_room true e = cc
    by_room false e = cc

none_of : {X : Type 0} (xs : List X) → length xs ≡ 0 → xs ≡ []
none_of [] e = refl
none_of (x ∷ xs) e = absurd (omega arith)

-- in a stuck world every federate of the machine is stuck
stuck_at : (d : Draft) (programs : List Behaviour) (inputs : List Input) (w : Federation) (s : Reached d programs inputs w) → IsLawfulWith (network_of d programs inputs) (least_of d) → IsStuck w → (j : ℕ) → j < federate_count d → runs.IsStuck (network_of d programs inputs) j (members_after d programs inputs s.moves j)
stuck_at d programs inputs w s lawful stuck j below =
    let at = s.run.shown.each j below in
    let size = s.run.shown.federates in
    let mine = own d programs inputs w s j below at.station at.there in
    let announced = silent_is at.station (federate_core.announce at.station.node) (sym (event_of_federate w j at.station event.Announce at.there (omega arith)) ∙ stuck.announced j) in
    let advanced = silent_is at.station (federate_core.advance at.station.node) (sym (event_of_federate w j at.station event.Advance at.there (omega arith)) ∙ stuck.advanced j) in
    let A : FederateNode → Type 0 = λ v. of_federate.announces v ≡ machine.Nothing in
    let B : FederateNode → Type 0 = λ v. of_federate.advances v ≡ machine.Nothing in
    record {
      up = none_of (members_after d programs inputs s.moves j).up (emptied (Up j) below);
      down = none_of (members_after d programs inputs s.moves j).down (emptied (Down j) below);
      announce = nothing_of (of_federate.made_by (node_with d programs inputs j (members_after d programs inputs s.moves j).federate)) (federate_announces (members_after d programs inputs s.moves j).federate) (subst A mine.node announced);
      advance = nothing_of (of_federate.made_by (node_with d programs inputs j (members_after d programs inputs s.moves j).federate)) (federate_advances (network_of d programs inputs) j (members_after d programs inputs s.moves j).federate) (subst B mine.node advanced);
    }
  where
    emptied : (dir : Dir) → federate_of dir < federate_count d → length (queue_of dir (members_after d programs inputs s.moves)) ≡ 0
    emptied dir there =
        let forgot : list_any is_forget (world_after d programs inputs s.steps).steps ≡ false = ap (list_any is_forget) (listed_so d programs inputs s.steps) ∙ s.unforgot in
        let S : Federation → Type 0 = λ x. IsStuck x in
        let K : Federation → Type 0 = λ x. IfSome (sender x dir) (λ e. e.kept ≡ []) in
        let keeps = subst K (sym s.is) ((shows_at_the_ends d programs inputs s.steps lawful forgot).0 (subst S s.is stuck).settled dir) in
        let at = direction d programs inputs w s dir there in
        let I : Option Image → Type 0 = λ o. IfSome o (λ e. e.kept ≡ []) in
        let none : length (side_out dir s.links).end.kept ≡ 0 = ap length (subst I at.sending keeps) in
        let last = last_size d programs inputs w s dir there in
        let within = at.linked.out.acknowledged_taken in
        omega arith

pub stuck_is_finished : (d : Draft) (programs : List Behaviour) (inputs : List Input) (steps : List Step) → IsLawfulWith (network_of d programs inputs) (least_of d) → IsStuck (world_after d programs inputs steps) → coordinator_core.finished (world_after d programs inputs steps).coordinator.node ≡ true
stuck_is_finished d programs inputs steps lawful stuck =
    let n = network_of d programs inputs in
    let w = world_after d programs inputs steps in
    let none : list_any is_forget steps ≡ false = ap (list_any is_forget) (sym (listed_so d programs inputs steps)) ∙ stuck.kept in
    let s = reached_steps d programs inputs lawful steps none in
    let rules = (λ (k : ℕ). rule_of d programs inputs) in
    let wired = lawful_is_wired n lawful.lawful in
    let safe = widest_rule_is_safe n (least_of d) wired in
    let full = widest_rule_is_full n (least_of d) wired in
    let all = stuck_at d programs inputs (world_after d programs inputs steps) s lawful stuck in
    let sound = moves_sound n (least_of d) rules s.moves lawful.lawful lawful.facts (λ k. safe) in
    let quiet = stuck_quiet n (least_of d) rules lawful.lawful lawful.least (λ k. safe) (λ k. full) s.moves all in
    let each : (j : ℕ) → j < federate_count d → IsTrue (members_after d programs inputs s.moves j).federate_record.announced × ((members_after d programs inputs s.moves j).federate_record.next ≡ forever) =
    λ j l. (
    let next = stuck_next n j (members_after d programs inputs s.moves j) (sound.kept j) (all j l) in
    let last : place (members_after d programs inputs s.moves j).federate_record.next ≡ place forever = next.1 ∙ ap first_place (quiet j l).undone ∙ sym place_of_forever in
    (next.0, equal_places (members_after d programs inputs s.moves j).federate_record.next forever (sound.kept j).next_tag forever_is_logical last)) in
    let D : Draft → Type 0 = λ x. is_finished (wiring_in x) (federate_record_at w.coordinator.node.federate_records) ≡ true in
    let S : (ℕ → FederateRecord) → Type 0 = λ x. is_finished (wiring_in d) x ≡ true in
    subst D (sym s.run.draft) (subst S (sym s.run.federate_records) ((finished_is (wiring_in d) (federate_records_of (members_after d programs inputs s.moves))).1 each))
