use Rattle.loadfed.proofs.Planned.{plan_told}
use Rattle.loadfed.proofs.federation.plan_of.Goals as goal

pub returns-in-Err-clause-refused : goal.returns-in-Err-clause-refused
returns-in-Err-clause-refused c =
    rw c.of_plan.ensures (plan_told c.args.draft c.in-Err.fault c.in-Err.ensures.fault c.in-Err.ensures.accepts)
