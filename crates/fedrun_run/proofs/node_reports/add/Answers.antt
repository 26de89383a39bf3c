use Rattle.fedrun_run.proofs.ByNumber.{only_memory}
use Rattle.fedrun_run.proofs.node_reports.add.Goals as goal

pub returns-in-Err-clause-memory : goal.returns-in-Err-clause-memory
returns-in-Err-clause-memory c = only_memory c.args.reports.now c.args.report c.in-Err.refused.fault c.requires.first c.in-Err.ensures.refused
