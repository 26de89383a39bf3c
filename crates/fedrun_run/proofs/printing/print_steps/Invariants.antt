use Rattle.std.proofs.Common.{take}
use Rattle.std.specs.Io.KnownBytes.{Appends}
use Rattle.files_record.specs.StepText.{printed_steps}
use Rattle.fedrun_run.proofs.printing.print_steps.Given as goal

-- the steps so far are printed
abbrev pub invariant-loop-place : goal.invariant-loop-place
invariant-loop-place g l =
    Appends (g.O.Write.contents l.initial.out) (g.O.Write.contents l.out) (printed_steps l.plan (take l.place l.steps.steps))
