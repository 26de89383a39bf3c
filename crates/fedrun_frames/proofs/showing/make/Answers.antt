use Rattle.fedrun_frames.proofs.Telling.{account_is}
use Rattle.fedrun_frames.proofs.showing.make.Goals as goal

pub returns-clause-account : goal.returns-clause-account
returns-clause-account c =
    account_is c.args.world.now c.apply.new.self c.args.made c.line.result c.step-step.result c.brought_by-brought.result c.in_ok-outcome.outcome
    c.in_ok-row.row c.in_ok-before.before.items c.line.ensures c.step-step.ensures c.brought_by-brought.ensures c.in_ok-outcome.ensures.outcome
    c.in_ok-row.ensures c.in_ok-outcome.ensures.done c.in_ok-before.ensures
