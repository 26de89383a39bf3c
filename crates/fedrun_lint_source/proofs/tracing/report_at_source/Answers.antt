use Rattle.fedrun_lint_source.proofs.Moved.{moved}
use Rattle.fedrun_lint_source.proofs.tracing.report_at_source.Goals as goal

pub returns : goal.returns
returns c =
    moved c.args.text.now c.args.inputs.now c.in_ok-report.report.federation c.move_refusal.new.refusal c.in_ok-report.report.inputs c.move_refusal.ensures c.in_ok-report.ensures
