use Rattle.std.proofs.Common.{◌∙◌, ap, length}
use Rattle.std.proofs.lemmas.List.FromFn.{length-map-range_with_len}
use Rattle.plan.specs.Federation.{federate_count}
use Rattle.node.specs.Step.{Station}
use Rattle.node_cores.specs.CoordinatorCore.{CoordinatorNode}
use Rattle.desk.specs.Replay.{Desk}
use Rattle.world_stations.specs.Initial.{new_end}
use Rattle.fedrun_run.proofs.desks.coordinator_desk.Goals as goal

pub returns-in-Ok-clause-ends : goal.returns-in-Ok-clause-ends
returns-in-Ok-clause-ends c =
    ap (λ (d : Desk CoordinatorNode). length d.station.ends) c.new.ensures
    ∙ (ap (λ (s : Station CoordinatorNode). length s.ends) c.in-Ok.ensures ∙ length-map-range_with_len new_end 0 (federate_count c.args.plan.now))
