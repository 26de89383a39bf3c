use Rattle.std.proofs.Common.{◌∙◌, sym}
use Rattle.recorder_reports.proofs.Pushed.{one_journal_more, pushed_journal}
use Rattle.recorder_reports.proofs.journals.all_journals.Goals as goal

pub loop-federate-preserved : goal.loop-federate-preserved
loop-federate-preserved c =
    pushed_journal c.push-in-loop-federate.new.self.items c.loop-federate.journals.items c.journal_at.result (λ j. j.now) _ _ c.in_ok-push-2.ensures.items c.loop-federate.invariant c.journal_at.ensures
    ∙ sym (one_journal_more c.loop-federate.federate c.args.reports.now c.args.coordinator.now)
