-- How it is printed that a run gives no desks, and why desks aren't gathered.
use Rattle.std.specs.Prelude.{◌≡◌, ◌⊎◌, ℕ, List, codes}
use Rattle.desk.specs.Fault.{memory_text}
use Rattle.wires.specs.declared.run_fault.RunFault.{RunFault}
use Rattle.wires.specs.declared.run_fault.RunFault.TheVariants.{NotFinished, Memory}
use Rattle.wires.specs.declared.run_fault.Cause.TheVariants.{SharesDisagree}

-- what is printed of it: a run that isn't finished has no number, whatever the cause, and its out of memory is printed
-- as a desk's
abbrev pub text_of : RunFault → List ℕ
text_of (NotFinished cause) = codes "not finished"
text_of Memory = memory_text

-- why desks aren't gathered: a node's workers don't agree with its journal, there are workers of another count of
-- federates, or there is no memory
abbrev pub IsFaultOfGathering : RunFault → Type 0
IsFaultOfGathering fault = (fault ≡ NotFinished SharesDisagree) ⊎ (fault ≡ Memory)
