-- What holds of every world, by the laws of a federation's worlds.
use Rattle.std.proofs.Common.{◌≡◌, List, sym, subst}
use Rattle.plan.specs.Federation.{federate_count}
use Rattle.plan_network.proofs.LawfulNetwork.{gives_lawful_with}
use Rattle.node_cores.specs.FederateCore.{federate_core}
use Rattle.node_cores.specs.CoordinatorCore.{coordinator_core}
use Rattle.world_stations.specs.declared.limits.TheConstants.{LINK_ROOM}
use Rattle.world_stations.specs.declared.step.Step.{Step}
use Rattle.world_stations.specs.declared.outcome.Outcome.{Outcome}
use Rattle.world_stations.specs.Federation.{initial_coordinator, initial_member, step_in, IsHarmless}
use Rattle.world_stations.proofs.InOrder.{taken_in_order}
use Rattle.world_stations.proofs.Late.{nothing_late}
use Rattle.world_stations.proofs.Rows.{rows_begin, stuck_rows, finished_rows}
use Rattle.world_stations.proofs.Worlds.{refusals_are_harmless}
use Rattle.world.specs.Invariant.{IsFederation}
use Rattle.world.specs.World.{WorldView, stations_of, with_steps}
use Rattle.world.specs.Faithful.{IsFaithful, AreHarmless}

pub faithful : (w : WorldView) → IsFederation w → IsFaithful w
faithful w fit =
    let lawful = gives_lawful_with w.draft w.programs w.inputs fit.legal fit.programs_fit fit.inputs_fit in
    record {
      nothing_late = λ j. nothing_late w.draft w.programs w.inputs w.steps j lawful;
      prefix = λ j below kept. rows_begin w.draft w.programs w.inputs w.steps j lawful below kept;
      stuck = λ stuck j below. stuck_rows w.draft w.programs w.inputs w.steps j lawful stuck below;
      finished = λ finished j below. finished_rows w.draft w.programs w.inputs w.steps j lawful finished below;
      in_order = taken_in_order coordinator_core federate_core (initial_coordinator w.draft) (federate_count w.draft) (initial_member w.draft w.programs w.inputs) LINK_ROOM w.steps;
    }

pub harmless : (w : WorldView) → IsFederation w → AreHarmless w
harmless w fit before after step is = refusals_are_harmless w.draft w.programs w.inputs before step (gives_lawful_with w.draft w.programs w.inputs fit.legal fit.programs_fit fit.inputs_fit)

-- nor is the next step refused otherwise
pub harmless_next : (w : WorldView) (step : Step) (o : Outcome) → IsFederation w → o ≡ (step_in (stations_of w) step).outcome → IsHarmless o
harmless_next w step o fit told =
    subst IsHarmless (sym told)
    (refusals_are_harmless w.draft w.programs w.inputs w.steps step (gives_lawful_with w.draft w.programs w.inputs fit.legal fit.programs_fit fit.inputs_fit))

-- through steps the plan stays, with its programs and inputs
pub still_fit : (w later : WorldView) (steps : List Step) → IsFederation w → later ≡ with_steps w steps → IsFederation later
still_fit w later steps fit is = subst IsFederation (sym is) (record { legal = fit.legal; programs_fit = fit.programs_fit; inputs_fit = fit.inputs_fit })
