-- What a writer gained of a report on all files.
use Rattle.std.proofs.Common.{◌≡◌, ℕ, Bool, true, List, Option, ap, subst, ◌∙◌}
use Rattle.std.specs.Prelude.{◌⊎◌, ◌↔◌, IsTrue, IsSome}
use Rattle.fedrun_words.specs.Pieces.{AppendsPrinted}
use Rattle.fedrun_lint.specs.declared.full_report.FullReport.{FullReport}
use Rattle.fedrun_lint.specs.declared.full_report.FullReportLines.{FullReportLines}
use Rattle.fedrun_lint.specs.Printed.{printed_full_report}
use Rattle.fedrun_lint.specs.Answered.{GivenFile}
use Rattle.fedrun_lint.specs.Full.{IsFullReport, name_of, text_of, PrintsFullReport, BeginsFullReport}
use Rattle.fedrun_lint.proofs.Schedules.{wrong_where_any_refused, any_refused_where_wrong}

module _ (federation inputs : GivenFile) (schedule : Option GivenFile) (lines : FullReportLines) (report : FullReport) (is_whole : Bool) (before after : Option (List ℕ))
    (report_is : lines.report.now ≡ report) (federation_is : lines.federation.now ≡ federation.name) (inputs_are : lines.inputs.now ≡ inputs.name)
    (schedule_is : lines.schedule.now ≡ name_of schedule)
    (is : IsFullReport federation.bytes inputs.bytes schedule report)
    (printed : AppendsPrinted is_whole before after (printed_full_report lines.federation.now lines.inputs.now lines.schedule.now lines.report.now)) where
  text_is : printed_full_report lines.federation.now lines.inputs.now lines.schedule.now lines.report.now ≡ text_of federation inputs schedule report
  text_is =
      ap (λ (x : List ℕ). printed_full_report x lines.inputs.now lines.schedule.now lines.report.now) federation_is
      ∙ ap (λ (x : List ℕ). printed_full_report federation.name x lines.schedule.now lines.report.now) inputs_are
      ∙ ap (λ (x : List ℕ). printed_full_report federation.name inputs.name x lines.report.now) schedule_is
      ∙ ap (λ (x : FullReport). printed_full_report federation.name inputs.name (name_of schedule) x) report_is

  gained : AppendsPrinted is_whole before after (text_of federation inputs schedule report)
  gained = subst (λ (text : List ℕ). AppendsPrinted is_whole before after text) text_is printed

  -- a report of which a prefix was printed
  pub begun_full_report : BeginsFullReport federation inputs schedule before after
  begun_full_report = record { report = report; report_is = is; begun = gained.begun }

  -- a report that was printed whole
  pub whole_full_report : (is_wrong : Bool) → is_whole ≡ true → IsTrue is_wrong ↔ ((IsSome report.files.federation ⊎ IsSome report.files.inputs) ⊎ IsSome report.schedule)
      → PrintsFullReport federation inputs schedule is_wrong before after
  whole_full_report is_wrong all says =
      record {
        report = report;
        report_is = is;
        printed = gained.whole all;
        wrong = (
          (λ said. wrong_where_any_refused federation.bytes inputs.bytes schedule report is (says.0 said)),
          (λ wrong. says.1 (any_refused_where_wrong federation.bytes inputs.bytes schedule report is wrong)),
        );
      }
