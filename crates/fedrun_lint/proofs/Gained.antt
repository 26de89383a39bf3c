-- What a writer gained of a report on two files.
use Rattle.std.proofs.Common.{◌≡◌, ℕ, Bool, true, List, Option, ap, subst, ◌∙◌}
use Rattle.std.specs.Prelude.{◌⊎◌, ◌↔◌, IsTrue, IsSome}
use Rattle.fedrun_words.specs.Pieces.{AppendsPrinted}
use Rattle.fedrun_lint.specs.declared.report.Report.{Report}
use Rattle.fedrun_lint.specs.declared.report.ReportLines.{ReportLines}
use Rattle.fedrun_lint.specs.Printed.{printed_report}
use Rattle.fedrun_lint.specs.Answered.{GivenFile, IsReportOn, PrintsReport}
use Rattle.fedrun_lint.proofs.Agreement.{wrong_where_refused, refused_where_wrong}

module _ (federation inputs : GivenFile) (lines : ReportLines) (report : Report) (is_whole : Bool) (before after : Option (List ℕ))
    (report_is : lines.report.now ≡ report) (federation_is : lines.federation.now ≡ federation.name) (inputs_are : lines.inputs.now ≡ inputs.name)
    (is : IsReportOn federation.bytes inputs.bytes report)
    (printed : AppendsPrinted is_whole before after (printed_report lines.federation.now lines.inputs.now lines.report.now)) where
  text_is : printed_report lines.federation.now lines.inputs.now lines.report.now ≡ printed_report federation.name inputs.name report
  text_is =
      ap (λ (x : List ℕ). printed_report x lines.inputs.now lines.report.now) federation_is
      ∙ ap (λ (x : List ℕ). printed_report federation.name x lines.report.now) inputs_are
      ∙ ap (λ (x : Report). printed_report federation.name inputs.name x) report_is

  gained : AppendsPrinted is_whole before after (printed_report federation.name inputs.name report)
  gained = subst (λ (text : List ℕ). AppendsPrinted is_whole before after text) text_is printed

  -- a report that was printed whole
  pub whole_report : (is_wrong : Bool) → is_whole ≡ true → IsTrue is_wrong ↔ (IsSome report.federation ⊎ IsSome report.inputs) → PrintsReport federation inputs is_wrong before after
  whole_report is_wrong all says =
      record {
        report = report;
        report_is = is;
        printed = gained.whole all;
        wrong = (
          (λ said. wrong_where_refused federation.bytes inputs.bytes report is (says.0 said)),
          (λ wrong. says.1 (refused_where_wrong federation.bytes inputs.bytes report is wrong)),
        );
      }
