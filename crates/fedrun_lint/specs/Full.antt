-- What is printed of two named files, and of a schedule beside them if there is one, and whether something is wrong in
-- them.
use Rattle.std.specs.Prelude.{ℕ, Bool, IsTrue, ◌↔◌, List, [], Option, None, Some}
use Rattle.std.specs.Io.KnownBytes.{Appends}
use Rattle.fedrun_words.specs.Pieces.{AppendsPrefix}
use Rattle.fedrun_lint.specs.Answered.{GivenFile, IsReportOn, AreRight}
use Rattle.fedrun_lint.specs.Schedules.{IsReportOnSchedule, IsRightSchedule}
use Rattle.fedrun_lint.specs.Printed.{printed_full_report}
use Rattle.fedrun_lint.specs.declared.full_report.FullReport.{FullReport}

-- a report on two files and on a schedule; a file that is too long has no bytes here
pub record IsFullReport (federation inputs : Option (List ℕ)) (schedule : Option GivenFile)
    (report : FullReport) : Type 0 where
  pub files_are : IsReportOn federation inputs report.files
  pub schedule_is : IsReportOnSchedule schedule federation report.schedule

-- nothing is wrong in the files
abbrev pub AreAllRight : Option (List ℕ) → Option (List ℕ) → Option GivenFile → Type 0
AreAllRight federation inputs schedule = AreRight federation inputs × IsRightSchedule schedule federation

-- the name of a file, if there is one
abbrev pub name_of : Option GivenFile → List ℕ
name_of None = []
name_of (Some file) = file.name

-- the text of a report on files of these names
abbrev pub text_of : GivenFile → GivenFile → Option GivenFile → FullReport → List ℕ
text_of federation inputs schedule report = printed_full_report federation.name inputs.name (name_of schedule) report

-- a report on the files was printed, and something is said to be wrong exactly where it is
pub record PrintsFullReport (federation inputs : GivenFile) (schedule : Option GivenFile) (is_wrong : Bool)
    (before after : Option (List ℕ)) : Type 0 where
  pub report : FullReport
  pub report_is : IsFullReport federation.bytes inputs.bytes schedule report
  pub printed : Appends before after (text_of federation inputs schedule report)
  pub wrong : IsTrue is_wrong ↔ (¬ AreAllRight federation.bytes inputs.bytes schedule)

-- of a report on the files a prefix was printed
pub record BeginsFullReport (federation inputs : GivenFile) (schedule : Option GivenFile)
    (before after : Option (List ℕ)) : Type 0 where
  pub report : FullReport
  pub report_is : IsFullReport federation.bytes inputs.bytes schedule report
  pub begun : AppendsPrefix before after (text_of federation inputs schedule report)
