use Rattle.files_reports.proofs.taking.take_report.Goals as goal

pub returns-in-Ok-clause-taken : goal.returns-in-Ok-clause-taken
returns-in-Ok-clause-taken c = (c.in-Ok-Federate.report, rw c.in-Ok-Federate.field-0-is at c.in-Ok-Federate.ensures.found, c.in-Ok.ensures.taken)

pub returns-in-Ok-Federate-clause-fault : goal.returns-in-Ok-Federate-clause-fault
returns-in-Ok-Federate-clause-fault c = (c.in-Ok-Federate.report, rw c.in-Ok-Federate.field-0-is at c.in-Ok-Federate.ensures.found, c.in-Err-add.ensures.refused)
