-- A report as it is printed.
use Rattle.std.specs.Prelude.{ℕ, List, ◌++◌, flat_map}
use Rattle.fedrun_lint_findings.specs.Printed.{printed_refusal, printed_oddity}
use Rattle.fedrun_lint_schedule.specs.Printed.{printed_schedule_refusal}
use Rattle.fedrun_lint.specs.declared.full_report.FullReport.{FullReport}
use Rattle.fedrun_lint.specs.declared.report.Report.{Report}

-- a report on files of these names: the faults of both, and what is odd
abbrev pub printed_report : List ℕ → List ℕ → Report → List ℕ
printed_report federation inputs report =
    printed_refusal federation report.federation
    ++ (printed_refusal inputs report.inputs ++ flat_map (printed_oddity federation inputs) report.odd.items)

-- the same, and the faults of a schedule of this name
abbrev pub printed_full_report : List ℕ → List ℕ → List ℕ → FullReport → List ℕ
printed_full_report federation inputs schedule report =
    printed_report federation inputs report.files ++ printed_schedule_refusal schedule report.schedule
