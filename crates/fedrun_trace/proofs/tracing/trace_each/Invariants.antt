use Rattle.world.specs.World.{stations_of}
use Rattle.fedrun_trace.specs.Steps.{steps_text}
use Rattle.fedrun_trace.proofs.Following.{Traces}
use Rattle.fedrun_trace.proofs.tracing.trace_each.Given as goal

-- the steps so far are made, and their events written
abbrev pub invariant-loop-place : goal.invariant-loop-place
invariant-loop-place g l =
    Traces l.plan l.made l.place (steps_text l.plan l.made 1 (stations_of l.initial.world) l.made) l.world
    (g.W.Write.contents l.initial.out) (g.W.Write.contents l.out)
