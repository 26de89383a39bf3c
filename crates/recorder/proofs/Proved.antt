-- What a list of steps that agrees with the journals, and gives the reported rows, proves.
use Rattle.std.proofs.Common.{◌≡◌, ◌∙◌, ℕ, ◌<◌, Bool, true, false, List, [], ◌∷◌, ◌++◌, length, refl, sym, ap, subst, arith, Option, None, Some, append-nil, append_assoc}
use Rattle.std.specs.Prelude.{slice_get, ◌||◌}
use Rattle.std.specs.List.{list_any}
use Rattle.std.proofs.lemmas.Bool.Decides.{nat_tests}
use Rattle.network.specs.Undivided.{Row, whole, part}
use Rattle.network_laws.specs.Settled.{BeginsWith}
use Rattle.protocol_laws.specs.Rows.{HasEveryRow}
use Rattle.plan.specs.External.{AreInputsOf}
use Rattle.plan.specs.Federation.{federate_count}
use Rattle.plan.specs.Legal.{IsLegal}
use Rattle.reactor_programs.specs.Programs.{AreProgramsOf}
use Rattle.plan_network.specs.Network.{network_of}
use Rattle.plan_network.proofs.LawfulNetwork.{gives_lawful_with}
use Rattle.node.specs.declared.event.Event.{Event}
use Rattle.node.specs.declared.node_id.NodeId.{NodeId}
use Rattle.node.specs.declared.node_id.NodeId.TheVariants.{Coordinator, Federate}
use Rattle.node.specs.Core.{Core}
use Rattle.node.specs.Step.{Station, step_of}
use Rattle.desk.specs.Replay as replayed
use Rattle.node_cores.specs.FederateCore.{FederateNode, federate_core}
use Rattle.node_cores.specs.CoordinatorCore.{coordinator_core}
use Rattle.world_stations.specs.declared.step.Step.{Step}
use Rattle.world_stations.specs.declared.step.Step.TheVariants.{Deliver, Resend, Reconnect, Announce, Advance, Forget}
use Rattle.world_stations.specs.World.{Occurrence, occurrence_of, at_federate, at_node, happens}
use Rattle.world_stations.specs.Kept.{is_forget}
use Rattle.world_stations.specs.Federation.{Federation, initial_world, step_in}
use Rattle.world_stations.proofs.Worlds.{stands, listed_so, one_more}
use Rattle.world_stations.proofs.Rows.{rows_begin, all_kept, finished_rows}
use Rattle.recorder_search.specs.Motion.{after_all}
use Rattle.recorder_search.specs.Journals.{event_at, events_at}
use Rattle.world.specs.World.{WorldView, stations_of, with_step, with_steps}
use Rattle.recorder_reports.specs.Reports.{AreComplete}
use Rattle.recorder.specs.Placing.{world_motion}
use Rattle.recorder.specs.Audited.{Claim, world_of, AgreesWith, HasReportedRows, IsProvedBy}

-- steps, made one after the other, are appended
pub after_world : (w : WorldView) (steps : List Step) → after_all world_motion w steps ≡ with_steps w steps
after_world w [] = ap (λ (s : List Step). record w { steps = s }) (sym (append-nil w.steps))
after_world w (step ∷ steps) = after_world (with_step w step) steps ∙ ap (λ (s : List Step). record w { steps = s }) (append_assoc w.steps (step ∷ []) steps)

replays_both : {View Row : Type 0} (core : Core View Row) (is_coordinator : Bool) (s : Station View) (xs ys : List Event) →
    replayed.after_all core is_coordinator s (xs ++ ys) ≡ replayed.after_all core is_coordinator (replayed.after_all core is_coordinator s xs) ys
replays_both core is_coordinator s [] ys = refl
replays_both core is_coordinator s (x ∷ xs) ys = replays_both core is_coordinator (step_of core is_coordinator s x).station xs ys

happens_at : (w : Federation) (o : Option Occurrence) → (happens coordinator_core federate_core w o).world.coordinator ≡ replayed.after_all coordinator_core true w.coordinator (event_at Coordinator o)
happens_at w None = refl
happens_at w (Some o) = at_node_so o.node
  where
    at_one : (j : ℕ) (found : Option (Station FederateNode)) → (at_federate federate_core w j o.event found).world.coordinator ≡ w.coordinator
    at_one j None = refl
    at_one j (Some s) = refl

    at_node_so : (node : NodeId) → (at_node coordinator_core federate_core w node o.event).world.coordinator ≡ replayed.after_all coordinator_core true w.coordinator (event_at Coordinator (Some (record { node = node; event = o.event })))
    at_node_so Coordinator = refl
    at_node_so (Federate j) =
        let elsewhere : event_at Coordinator (Some (record { node = Federate j; event = o.event })) ≡ [] = grind (arith, nat_tests) in
        at_one j (slice_get w.federates j) ∙ ap (λ (es : List Event). replayed.after_all coordinator_core true w.coordinator es) (sym elsewhere)

step_at_coordinator : (w : Federation) (step : Step) → is_forget step ≡ false → (step_in w step).world.coordinator ≡ replayed.after_all coordinator_core true w.coordinator (event_at Coordinator (occurrence_of w step))
step_at_coordinator w (Deliver dir k) is = happens_at w (occurrence_of w (Deliver dir k))
step_at_coordinator w (Resend dir) is = happens_at w (occurrence_of w (Resend dir))
step_at_coordinator w (Reconnect dir) is = happens_at w (occurrence_of w (Reconnect dir))
step_at_coordinator w (Announce j) is = happens_at w (occurrence_of w (Announce j))
step_at_coordinator w (Advance j) is = happens_at w (occurrence_of w (Advance j))
step_at_coordinator w (Forget j) is = cc

neither : (a b : Bool) → (a || b) ≡ false → (a ≡ false) × (b ≡ false)
neither false false e = (refl, refl)
neither false true e = cc
neither true b e = cc

-- the coordinator's station is the replay of its events
pub coordinator_replays : (w : WorldView) (steps : List Step) → list_any is_forget steps ≡ false →
    (stations_of (after_all world_motion w steps)).coordinator ≡ replayed.after_all coordinator_core true (stations_of w).coordinator (events_at world_motion Coordinator w steps)
coordinator_replays w [] none = refl
coordinator_replays w (step ∷ steps) none =
    let both = neither (is_forget step) (list_any is_forget steps) none in
    let one = ap (λ (v : Federation). v.coordinator) (one_more w.draft w.programs w.inputs w.steps step) ∙ step_at_coordinator (stations_of w) step both.0 in
    coordinator_replays (with_step w step) steps both.1
    ∙ ap (λ s. replayed.after_all coordinator_core true s (events_at world_motion Coordinator (with_step w step) steps)) one
    ∙ sym (replays_both coordinator_core true (stations_of w).coordinator (event_at Coordinator (occurrence_of (stations_of w) step)) (events_at world_motion Coordinator (with_step w step) steps))

-- where steps agree with a claim's journals, the coordinator's station after them is the replay of its journal
pub coordinator_there : (c : Claim) (steps : List Step) → AgreesWith c steps →
    (stations_of (world_of c steps)).coordinator ≡ replayed.after_all coordinator_core true (initial_world c.draft c.programs c.inputs).coordinator c.coordinator
coordinator_there c steps agrees =
    ap (λ v. (stations_of v).coordinator) (sym (after_world (world_of c []) steps)) ∙ coordinator_replays (world_of c []) steps agrees.none_forgets
    ∙ ap (replayed.after_all coordinator_core true (initial_world c.draft c.programs c.inputs).coordinator) (agrees.events Coordinator)

module _ (c : Claim) (legal : IsLegal c.draft) (are : AreProgramsOf c.draft c.programs) (given : AreInputsOf c.draft c.inputs) where
  -- there are as many federates as the plan has
  pub sized : (steps : List Step) → length (stations_of (world_of c steps)).federates ≡ federate_count c.draft
  sized steps = (stands c.draft c.programs c.inputs steps (gives_lawful_with c.draft c.programs c.inputs legal are given)).stands.run.shown.federates

  -- the reports are proved by these steps
  pub proved : (steps : List Step) → AreComplete (federate_count c.draft) c.reports → AgreesWith c steps →
      ((j : ℕ) → j < federate_count c.draft → HasReportedRows (world_of c steps) c.reports j) → IsProvedBy c steps
  proved steps complete agrees rows =
      let lawful = gives_lawful_with c.draft c.programs c.inputs legal are given in
      let none : list_any is_forget (stations_of (world_of c steps)).steps ≡ false = ap (list_any is_forget) (listed_so c.draft c.programs c.inputs steps) ∙ agrees.none_forgets in
      record {
        complete = complete;
        agrees = agrees;
        rows = rows;
        prefix = λ j below.
            let P : List Row → Type 0 = λ x. (turns : ℕ) × BeginsWith (part j (whole (network_of c.draft c.programs c.inputs) turns)) x in
            subst P (sym (rows j below)) (rows_begin c.draft c.programs c.inputs steps j lawful below (all_kept c.draft c.programs c.inputs steps none j));
        whole_run = λ finished j below.
            let there = coordinator_there c steps agrees in
            let P : List Row → Type 0 = λ x. HasEveryRow (network_of c.draft c.programs c.inputs) j x in
            subst P (sym (rows j below))
            (finished_rows c.draft c.programs c.inputs steps j lawful (record { kept = none; finished = ap (λ s. coordinator_core.finished s.node) there ∙ finished }) below);
      }
