-- The fault of a source in which something is wrong.
use Rattle.std.specs.Prelude.{ℕ, List, codes}
use Rattle.fedrun_lint_source.specs.declared.fault.NotTaken.{NotTaken}

-- its exit status
abbrev pub not_taken_status : NotTaken → ℕ
not_taken_status fault = 1

-- how it is printed
abbrev pub not_taken_text : NotTaken → List ℕ
not_taken_text fault = codes "not taken"
