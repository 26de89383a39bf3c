use Rattle.std.specs.Io.KnownBytes.{Appends}
use Rattle.files_text.specs.PlanText.{printed_each}
use Rattle.fedrun_trace.specs.Traced.{federate_heading}
use Rattle.fedrun_trace.proofs.tracing.write_federates.Given as goal

-- the tracks so far are written
abbrev pub invariant-loop-federate : goal.invariant-loop-federate
invariant-loop-federate g l =
    Appends (g.W.Write.contents l.initial.out) (g.W.Write.contents l.out) (printed_each (federate_heading l.plan) l.federate)
