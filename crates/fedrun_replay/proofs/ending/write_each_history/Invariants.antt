use Rattle.std.specs.Io.KnownBytes.{Appends}
use Rattle.files_text.specs.PlanText.{printed_each}
use Rattle.fedrun_replay.specs.Replayed.{history}
use Rattle.fedrun_replay.proofs.ending.write_each_history.Given as goal

abbrev pub invariant-loop-federate : goal.invariant-loop-federate
invariant-loop-federate g l =
    Appends (g.W.Write.contents l.initial.out) (g.W.Write.contents l.out) (printed_each (history l.format l.world) l.federate)
