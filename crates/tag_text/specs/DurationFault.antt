-- The faults of a duration's text.
use Rattle.std.specs.Prelude.{ℕ, List, ◌++◌, codes}
use Rattle.std.specs.Fmt.{decimal}
use Rattle.tag_text.specs.declared.duration.DurationFault.{DurationFault}
use Rattle.tag_text.specs.declared.duration.DurationFault.TheVariants.{BadDuration, TooLong}

-- by which each is printed
abbrev pub fault_number : DurationFault → ℕ
fault_number BadDuration = 1
fault_number TooLong = 2

-- its name
abbrev pub fault_name : DurationFault → List ℕ
fault_name BadDuration = codes "BadDuration"
fault_name TooLong = codes "TooLong"

-- what is printed of it: number and name
abbrev pub fault_text : DurationFault → List ℕ
fault_text fault = decimal (fault_number fault) ++ (codes " " ++ fault_name fault)
