use Rattle.std.specs.Io.KnownBytes.{Appends}
use Rattle.files_text.specs.Formats.{formatted_rows}
use Rattle.files_text.specs.PlanText.{printed_each}
use Rattle.recorder_reports.specs.Reports.{reported_rows}
use Rattle.fedrun_run.proofs.printing.print_reports.Given as goal

-- the rows of the federates so far are printed
abbrev pub invariant-loop-federate : goal.invariant-loop-federate
invariant-loop-federate g l =
    Appends (g.O.Write.contents l.initial.out) (g.O.Write.contents l.out)
    (printed_each (λ j. formatted_rows l.format l.plan.federates (reported_rows l.reports j)) l.federate)
