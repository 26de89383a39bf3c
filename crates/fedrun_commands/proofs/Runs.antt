-- What a run printed stays printed where a writer keeps its bytes.
use Rattle.std.proofs.Common.{ℕ, List, Option}
use Rattle.std.specs.Io.KnownBytes.{Keeps}
use Rattle.std.proofs.KnownBytes.{Appends-kept}
use Rattle.plan.specs.declared.draft.Draft.{Draft}
use Rattle.plan.specs.declared.input.Input.{Input}
use Rattle.reactor_program.specs.Behaviour.{Behaviour}
use Rattle.fedrun_run.specs.declared.output.RunOutput.{RunOutput}
use Rattle.node.specs.declared.event.Event.{Event}
use Rattle.recorder_reports.specs.declared.report.Report.{Report}
use Rattle.fedrun_run.specs.Printed.{PrintsReports, PrintsAudited}

-- of reports
pub reports_kept :
    (output : RunOutput) (d : Draft) (programs : List Behaviour) (inputs : List Input) (reports : List Report) (coordinator : List Event) (before mid after : Option (List ℕ)) →
    PrintsReports output d programs inputs reports coordinator before mid → Keeps mid after → PrintsReports output d programs inputs reports coordinator before after
reports_kept output d programs inputs reports coordinator before mid after prints kept = record {
  steps = prints.steps;
  proved = prints.proved;
  finished = prints.finished;
  prefix = prints.prefix;
  whole_part = prints.whole_part;
  printed = Appends-kept before mid after _ prints.printed kept;
}

-- of a run
pub audited_kept :
    (output : RunOutput) (d : Draft) (programs : List Behaviour) (inputs : List Input) (before mid after : Option (List ℕ)) →
    PrintsAudited output d programs inputs before mid → Keeps mid after → PrintsAudited output d programs inputs before after
audited_kept output d programs inputs before mid after audited kept = record {
  left = audited.left;
  reports = audited.reports;
  coordinator = audited.coordinator;
  reported = audited.reported;
  prints = reports_kept output d programs inputs audited.reports audited.coordinator before mid after audited.prints kept;
}
