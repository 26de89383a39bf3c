-- What a report says of a schedule beside a federation file.
use Rattle.std.specs.Prelude.{◌≡◌, ℕ, List, Option, None, Some, ⊤}
use Rattle.plan.specs.declared.draft.Draft.{Draft}
use Rattle.reactor_program.specs.Behaviour.{Behaviour}
use Rattle.loadfed.specs.Loaded.{IsFederationFile}
use Rattle.files_script.specs.declared.fault.ScriptFault.TheVariants.{OverLimit}
use Rattle.fedrun_lint_schedule.specs.declared.refusal.ScheduleRefusal.{ScheduleRefusal}
use Rattle.fedrun_lint_schedule.specs.Refused.{IsScheduleFile, AgreesOnSchedule, IsFirst}
use Rattle.fedrun_lint.specs.Answered.{GivenFile}

-- beside a file that is a federation, a schedule is refused exactly where it is none of that federation; beside another
-- it isn't known of which, and nothing is said here
abbrev pub AgreesBeside : List ℕ → List ℕ → Option ScheduleRefusal → Type 0
AgreesBeside schedule federation refused =
    (d : Draft) (programs : List Behaviour) → IsFederationFile federation d programs
    → AgreesOnSchedule d schedule refused

-- the same of two files, of which one that is too long has no bytes here: of a schedule that is its fault, and beside a
-- federation file it isn't known of which federation the schedule is
abbrev pub IsScheduleReport : Option (List ℕ) → Option (List ℕ) → Option ScheduleRefusal → Type 0
IsScheduleReport None federation refused = IsFirst OverLimit refused
IsScheduleReport (Some schedule) None refused = ⊤
IsScheduleReport (Some schedule) (Some federation) refused = AgreesBeside schedule federation refused

-- the same where there is a schedule; where there is none, nothing is wrong in it
abbrev pub IsReportOnSchedule : Option GivenFile → Option (List ℕ) → Option ScheduleRefusal → Type 0
IsReportOnSchedule None federation refused = refused ≡ None
IsReportOnSchedule (Some file) federation refused = IsScheduleReport file.bytes federation refused

-- the one file is a federation, and the other a schedule of it
pub record IsScheduleOf (schedule federation : List ℕ) : Type 0 where
  pub draft : Draft
  pub programs : List Behaviour
  pub taken : IsFederationFile federation draft programs
  pub scheduled : IsScheduleFile draft schedule

-- the same of two files, of which one that is too long has no bytes here
abbrev pub IsRightBeside : Option (List ℕ) → Option (List ℕ) → Type 0
IsRightBeside None federation = ⊥
IsRightBeside (Some schedule) None = ⊥
IsRightBeside (Some schedule) (Some federation) = IsScheduleOf schedule federation

-- nothing is wrong in a schedule, if there is one
abbrev pub IsRightSchedule : Option GivenFile → Option (List ℕ) → Type 0
IsRightSchedule None federation = ⊤
IsRightSchedule (Some file) federation = IsRightBeside file.bytes federation
