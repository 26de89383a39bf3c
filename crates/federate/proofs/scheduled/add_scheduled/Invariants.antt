use Rattle.std.proofs.Common.{◌≡◌, ◌++◌, map, filter, take}
use Rattle.tag.specs.LogicalTime.{is_at_most}
use Rattle.plan.specs.Federation.{stop_of}
use Rattle.protocol.specs.Federate.{scheduled_at}
use Rattle.federate.proofs.scheduled.add_scheduled.Given as goal

abbrev pub invariant-loop-scheduling : goal.invariant-loop-scheduling
invariant-loop-scheduling l =
    l.scheduled.items ≡
    l.initial.scheduled.items ++ filter (λ e. is_at_most e.tag (stop_of l.plan)) (map (scheduled_at l.tag) (take l.scheduling-index l.schedulings))
