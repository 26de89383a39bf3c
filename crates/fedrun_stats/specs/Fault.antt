-- How it is printed that what was measured isn't saved, and the exit status that goes with it.
use Rattle.std.specs.Prelude.{ℕ, List, ◌++◌, codes}
use Rattle.files_saving.specs.Fault.{text_of}
use Rattle.fedrun_stats.specs.declared.fault.StatsFault.{StatsFault}

-- it is what stops the program after loading
abbrev pub stats_status : StatsFault → ℕ
stats_status fault = 3

-- as that of a report is printed
abbrev pub printed_stats_fault : StatsFault → List ℕ
printed_stats_fault fault = codes "120 Unsaved " ++ (fault.name.now ++ (codes ": " ++ text_of fault.why))
