-- The lines of a schedule's faults as they are printed.
use Rattle.std.specs.Prelude.{ℕ, List, [], ◌++◌, codes, flat_map, Option, None, Some, if◌then◌else◌, string_bytes}
use Rattle.std.specs.Fmt.{decimal}
use Rattle.files_script.specs.Faults.{printed_fault}
use Rattle.files_script.specs.declared.fault.ScriptFault.{ScriptFault}
use Rattle.files_script.specs.declared.fault.ScriptFault.TheVariants.{OverLimit, ScheduleLine, Memory}
use Rattle.fedrun_lint_findings.specs.Printed.{printed_cut}
use Rattle.fedrun_lint_schedule.specs.declared.refusal.ScheduleFinding.{ScheduleFinding}
use Rattle.fedrun_lint_schedule.specs.declared.refusal.ScheduleRefusal.{ScheduleRefusal}

-- the line at which a fault stands: a bad line by its number; what is of the whole file is told of its first line
abbrev pub line_of : ScriptFault → ℕ
line_of OverLimit = 1
line_of (ScheduleLine number) = number
line_of Memory = 1

-- the line of a fault in the schedule of this name
abbrev pub printed_schedule_finding : List ℕ → ScheduleFinding → List ℕ
printed_schedule_finding file f =
    file ++ (codes ":" ++ (decimal (line_of f.fault) ++ (codes ": wrong: " ++ (printed_fault f.fault ++ (codes ": "
    ++ (string_bytes f.what ++ (f.advice.now ++ codes "\n")))))))

-- the lines of a schedule of this name, if it is refused
abbrev pub printed_schedule_refusal : List ℕ → Option ScheduleRefusal → List ℕ
printed_schedule_refusal file None = []
printed_schedule_refusal file (Some r) =
    printed_schedule_finding file r.first
    ++ (flat_map (printed_schedule_finding file) r.more.items ++ (if r.is_cut then printed_cut file else []))
