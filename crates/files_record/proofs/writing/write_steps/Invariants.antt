use Rattle.std.proofs.Common.{take}
use Rattle.std.specs.Io.KnownBytes.{Appends}
use Rattle.files_record.specs.StepText.{printed_steps}
use Rattle.files_record.proofs.writing.write_steps.Given as goal

-- the steps so far are written
abbrev pub invariant-loop-step : goal.invariant-loop-step
invariant-loop-step g l =
    Appends (g.W.Write.contents l.initial.out) (g.W.Write.contents l.out) (printed_steps l.plan (take l.step-index l.steps))
