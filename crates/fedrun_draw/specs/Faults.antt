-- How a fault of drawing is printed.
use Rattle.std.specs.Prelude.{ℕ, List, ◌++◌, codes}
use Rattle.std.specs.Fmt.{decimal}
use Rattle.files_text.specs.Memory.{memory_text}
use Rattle.fedrun_draw.specs.declared.fault.TheConstants.{MOST_STEPS, MOST_FRAMES}
use Rattle.fedrun_draw.specs.declared.fault.DrawFault.{DrawFault}
use Rattle.fedrun_draw.specs.declared.fault.DrawFault.TheVariants.{TooManySteps, TooManyFrames, Memory, CannotWrite}

-- how many there are, and how many are drawn
abbrev pub printed_fault : DrawFault → List ℕ
printed_fault (TooManySteps count) = decimal count ++ (codes " steps: a picture has at most " ++ decimal MOST_STEPS)
printed_fault (TooManyFrames count) = decimal count ++ (codes " frames: a picture has at most " ++ decimal MOST_FRAMES)
printed_fault Memory = memory_text
printed_fault CannotWrite = codes "cannot write"
