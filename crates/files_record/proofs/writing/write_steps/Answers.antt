use Rattle.files_record.proofs.Lines.{step_more}
use Rattle.files_record.proofs.writing.write_steps.Goals as goal

pub loop-step-preserved : goal.loop-step-preserved
loop-step-preserved g c =
    step_more c.args.plan.now c.args.steps.now c.loop-step.step-index _
    (g.W.Write.contents c.args.out.now) (g.W.Write.contents c.loop-step.out) (g.W.Write.contents c.write_step.new.out)
    c.loop-step-test.true c.loop-step.invariant c.in_ok-write_step.ensures
