-- A report on a schedule agrees with the reader of schedules, and with the two files beside it.
use Rattle.std.proofs.Common.{◌≡◌, ℕ, List, Option, None, Some, Result, Ok, Err, refl, subst, inl, inr}
use Rattle.std.specs.Prelude.{◌≢◌, ◌⊎◌, IfOk, IsSome, MatchOption}
use Rattle.plan.specs.declared.draft.Draft.{Draft}
use Rattle.reactor_program.specs.Behaviour.{Behaviour}
use Rattle.loadfed.specs.declared.fault.LoadFault.{LoadFault}
use Rattle.loadfed.specs.declared.fault.LoadFault.TheVariants.{OverLimit, Memory}
use Rattle.loadfed.specs.Loaded.{IsFederationFile}
use Rattle.loadfed.proofs.Accepted.{one_federation_draft}
use Rattle.files_script.specs.declared.fault.ScriptFault.{ScriptFault}
use Rattle.files_script.specs.declared.fault.ScriptFault.TheVariants as script_fault
use Rattle.fedrun_lint_findings.specs.declared.refusal.Refusal.{Refusal}
use Rattle.fedrun_lint_schedule.specs.declared.refusal.ScheduleRefusal.{ScheduleRefusal}
use Rattle.fedrun_lint_schedule.specs.Refused.{AgreesOnSchedule, IsFirst}
use Rattle.fedrun_lint.specs.declared.report.Report.{Report}
use Rattle.fedrun_lint.specs.declared.full_report.FullReport.{FullReport}
use Rattle.fedrun_lint.specs.Reports.{IsReportOfTaken, IsReportOfRefused}
use Rattle.fedrun_lint.specs.Answered.{GivenFile, IsReportOn, AreTaken, AreRight}
use Rattle.fedrun_lint.specs.Schedules.{AgreesBeside, IsScheduleReport, IsReportOnSchedule, IsRightBeside, IsRightSchedule}
use Rattle.fedrun_lint.specs.Full.{IsFullReport, AreAllRight}
use Rattle.fedrun_lint.proofs.Agreement.{refused_first, wrong_where_refused}

-- a schedule beside a file that is this federation is beside no other
pub beside_taken : {E : Type 0} (schedule federation : List ℕ) (d : Draft) (programs : List Behaviour) (r : Result (Option ScheduleRefusal) E)
    → IsFederationFile federation d programs → IfOk r (AgreesOnSchedule d schedule) → IfOk r (AgreesBeside schedule federation)
beside_taken schedule federation d programs (Ok refused) file agrees = λ e others other.
    subst (λ (x : Draft). AgreesOnSchedule x schedule refused) (one_federation_draft federation d e programs others file other) agrees
beside_taken schedule federation d programs (Err e) file agrees = tt

-- beside a file that is no federation nothing is said of a schedule
pub beside_refused : {E : Type 0} (schedule federation : List ℕ) (fault : LoadFault) (r : Result (Option ScheduleRefusal) E) → fault ≢ Memory
    → ((d : Draft) (programs : List Behaviour) → IsFederationFile federation d programs → fault ≡ Memory) → IfOk r (AgreesBeside schedule federation)
beside_refused schedule federation fault (Ok refused) other only = λ d programs file. absurd (other (only d programs file))
beside_refused schedule federation fault (Err e) other only = tt

first_refused : (fault : ScriptFault) (refused : Option ScheduleRefusal) → IsFirst fault refused → IsSome refused
first_refused fault None first = absurd first
first_refused fault (Some r) first = refl

-- what is refused beside a federation file isn't right
wrong_beside : (schedule federation : Option (List ℕ)) (refused : Option ScheduleRefusal) → IsScheduleReport schedule federation refused → IsSome refused → IsRightBeside schedule federation → ⊥
wrong_beside None federation refused is some right = right
wrong_beside (Some schedule) None refused is some right = right
wrong_beside (Some schedule) (Some federation) (Some r) is some right =
    let refusal = is right.draft right.programs right.taken in
    refusal.none right.scheduled
wrong_beside (Some schedule) (Some federation) None is some right = cc

wrong_schedule : (schedule : Option GivenFile) (federation : Option (List ℕ)) (refused : Option ScheduleRefusal) → IsReportOnSchedule schedule federation refused → IsSome refused
    → IsRightSchedule schedule federation → ⊥
wrong_schedule None federation (Some r) is some right = cc
wrong_schedule None federation None is some right = cc
wrong_schedule (Some file) federation refused is some right = wrong_beside file.bytes federation refused is some right

-- a schedule beside two files in which nothing is wrong is refused, or right
either_beside : (schedule federation inputs : Option (List ℕ)) (refused : Option ScheduleRefusal) → IsScheduleReport schedule federation refused → AreRight federation inputs
    → IsSome refused ⊎ IsRightBeside schedule federation
either_beside None federation inputs refused is right = inl (first_refused script_fault.OverLimit refused is)
either_beside (Some schedule) None inputs refused is right = absurd right
either_beside (Some schedule) (Some federation) None refused is right = absurd right
either_beside (Some schedule) (Some federation) (Some inputs) (Some r) is right = inl refl
either_beside (Some schedule) (Some federation) (Some inputs) None is right =
    inr (record { draft = right.draft; programs = right.programs; taken = right.taken; scheduled = is right.draft right.programs right.taken })

either_schedule : (schedule : Option GivenFile) (federation inputs : Option (List ℕ)) (refused : Option ScheduleRefusal) → IsReportOnSchedule schedule federation refused
    → AreRight federation inputs → IsSome refused ⊎ IsRightSchedule schedule federation
either_schedule None federation inputs refused is right = inr tt
either_schedule (Some file) federation inputs refused is right = either_beside file.bytes federation inputs refused is right

-- of two files one is refused, or nothing is wrong in them
either_of_both : (federation inputs : List ℕ) (refused more : Option Refusal) → MatchOption refused (IsReportOfTaken federation inputs more) (IsReportOfRefused federation inputs more)
    → (IsSome refused ⊎ IsSome more) ⊎ AreTaken federation inputs
either_of_both federation inputs (Some r) more is = inl (inl refl)
either_of_both federation inputs None (Some r) is = inl (inr refl)
either_of_both federation inputs None None is = inr (record { draft = is.draft; programs = is.programs; taken = is.taken; recorded = is.agrees })

either_files : (federation inputs : Option (List ℕ)) (report : Report) → IsReportOn federation inputs report → (IsSome report.federation ⊎ IsSome report.inputs) ⊎ AreRight federation inputs
either_files None inputs report is = inl (inl (refused_first OverLimit report.federation is.0))
either_files (Some federation) None report is = inl (inr (refused_first OverLimit report.inputs is.1))
either_files (Some federation) (Some inputs) report is = either_of_both federation inputs report.federation report.inputs is

-- of two that aren't both right one is refused
second_refused : {A B X Y : Type 0} → X → B ⊎ Y → (X × Y → ⊥) → A ⊎ B
second_refused x (inl b) wrong = inr b
second_refused x (inr y) wrong = absurd (wrong (x, y))

one_refused : {A B X Y : Type 0} → A ⊎ X → (X → B ⊎ Y) → (X × Y → ⊥) → A ⊎ B
one_refused (inl a) later wrong = inl a
one_refused (inr x) later wrong = second_refused x (later x) wrong

-- what is refused isn't right
pub wrong_where_any_refused : (federation inputs : Option (List ℕ)) (schedule : Option GivenFile) (report : FullReport) → IsFullReport federation inputs schedule report
    → (IsSome report.files.federation ⊎ IsSome report.files.inputs) ⊎ IsSome report.schedule → AreAllRight federation inputs schedule → ⊥
wrong_where_any_refused federation inputs schedule report is (inl some) right = wrong_where_refused federation inputs report.files is.files_are some right.0
wrong_where_any_refused federation inputs schedule report is (inr some) right = wrong_schedule schedule federation report.schedule is.schedule_is some right.1

-- and what isn't right is refused
pub any_refused_where_wrong : (federation inputs : Option (List ℕ)) (schedule : Option GivenFile) (report : FullReport) → IsFullReport federation inputs schedule report
    → (AreAllRight federation inputs schedule → ⊥) → (IsSome report.files.federation ⊎ IsSome report.files.inputs) ⊎ IsSome report.schedule
any_refused_where_wrong federation inputs schedule report is wrong =
    one_refused (either_files federation inputs report.files is.files_are)
    (λ right. either_schedule schedule federation inputs report.schedule is.schedule_is right)
    wrong
