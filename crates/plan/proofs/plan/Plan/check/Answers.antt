use Rattle.plan.proofs.Plans.{accepts_from}
use Rattle.plan.proofs.plan.Plan.check.Goals as goal

pub returns-clause-accepts : goal.returns-clause-accepts
returns-clause-accepts c = accepts_from c.args.draft c.planned.result c.planned.ensures.fault
