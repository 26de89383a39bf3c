-- When a schedule is refused, and with which fault first.
use Rattle.std.specs.Prelude.{◌≡◌, ◌≢◌, ℕ, ◌≤◌, List, length, Option, None, Some}
use Rattle.plan.specs.declared.draft.Draft.{Draft}
use Rattle.files_script.specs.Scripts.{lines_of, first_bad, IsFaultOf}
use Rattle.files_script.specs.declared.fault.ScriptFault.{ScriptFault}
use Rattle.files_script.specs.declared.fault.ScriptFault.TheVariants.{Memory}
use Rattle.files_script.specs.declared.script.TheConstants.{MOST_BYTES}
use Rattle.fedrun_lint_schedule.specs.declared.refusal.ScheduleRefusal.{ScheduleRefusal}

-- the file is a schedule of the federation: it isn't too long, and no line of it is bad
pub record IsScheduleFile (d : Draft) (bytes : List ℕ) : Type 0 where
  pub few : length bytes ≤ MOST_BYTES
  pub good : first_bad d 1 (lines_of bytes) ≡ None

-- the file is none, and the first fault of its refusal is what reading it answers
pub record IsRefused (d : Draft) (bytes : List ℕ) (refusal : ScheduleRefusal) : Type 0 where
  pub first : IsFaultOf d bytes refusal.first.fault
  pub not_memory : refusal.first.fault ≢ Memory
  pub none : ¬ IsScheduleFile d bytes

-- a file is refused exactly where it is no schedule of the federation
abbrev pub AgreesOnSchedule : Draft → List ℕ → Option ScheduleRefusal → Type 0
AgreesOnSchedule d bytes None = IsScheduleFile d bytes
AgreesOnSchedule d bytes (Some refusal) = IsRefused d bytes refusal

-- there is a refusal, and its first fault is this one
abbrev pub IsFirst : ScriptFault → Option ScheduleRefusal → Type 0
IsFirst fault None = ⊥
IsFirst fault (Some refusal) = refusal.first.fault ≡ fault
