use Rattle.fedrun_run.proofs.node_reports.gathered.Goals as goal

pub returns-in-Ok-clause-shares : goal.returns-in-Ok-clause-shares
returns-in-Ok-clause-shares g c = rw c.in-Ok.is c.gather.ensures.shares
