-- The faults of a program that has `whole` and `check` alone: the exit status that goes with each, and how it is
-- printed.
use Rattle.std.specs.Prelude.{ℕ, List, Option}
use Rattle.fedrun_words.specs.Faults as every
use Rattle.fedrun_words.specs.Usage.{usage_status, usage_text}
use Rattle.fedrun_words.specs.declared.fault.Fault.{Fault}
use Rattle.fedrun_words.specs.declared.more.NoSuchCommand.{NoSuchCommand}

-- the exit status of a fault
abbrev pub status_of : Fault NoSuchCommand → ℕ
status_of = every.status_of (λ which. usage_status)

-- how a fault is printed, but for the program's own messages
abbrev pub printed_fault : Fault NoSuchCommand → Option (List ℕ)
printed_fault = every.printed_fault (λ which. usage_text)
