-- The exit status that goes with each fault.
use Rattle.std.specs.Prelude.{ℕ, List, ◌++◌, codes, string_bytes}
use Rattle.fedrun_words.specs.Faults as every
use Rattle.fedrun_words.specs.declared.fault.Fault.{Fault}
use Rattle.files_saving.specs.Fault.{text_of}
use Rattle.fedrun_expand.specs.declared.fault.ExpandFailure.{ExpandFailure}
use Rattle.fedrun_expand.specs.declared.fault.ExpandFailure.TheVariants.{Unexpanded, Unsaved}

-- the exit status where a source isn't expanded, or what it becomes isn't saved
abbrev pub expand_status : ExpandFailure → ℕ
expand_status (Unexpanded why) = 1
expand_status (Unsaved name fault) = 3

-- how that is printed
abbrev pub printed_expand_fault : ExpandFailure → List ℕ
printed_expand_fault (Unexpanded why) = string_bytes why
printed_expand_fault (Unsaved name fault) = string_bytes name ++ (codes ": " ++ text_of fault)

-- the exit status of a fault
abbrev pub status_of : Fault ExpandFailure → ℕ
status_of = every.status_of expand_status
