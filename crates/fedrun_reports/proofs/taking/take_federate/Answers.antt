use Rattle.std.proofs.Common.{rules, subst}
use Rattle.files_logs.specs.Reading.{IsNamed}
use Rattle.recorder_reports.specs.Reports.{IsRefusedFor}
use Rattle.fedrun_reports.specs.Files.{by_log}
use Rattle.fedrun_reports.proofs.taking.take_federate.Goals as goal

pub returns-in-Err-federate_log-clause-fault : goal.returns-in-Err-federate_log-clause-fault
returns-in-Err-federate_log-clause-fault c =
    let named : IsNamed c.args.bytes.now = search rules in
    (named, c.in-Err-federate_log.ensures.fault)

pub returns-in-Ok-add-clause-taken : goal.returns-in-Ok-add-clause-taken
returns-in-Ok-add-clause-taken c =
    (c.in-Ok-report_by.report, by_log c.in-Ok-federate_log.log c.in-Ok-federate_log.ensures.read c.in-Ok-report_by.ensures, c.in-Ok-add.ensures.taken)

pub returns-in-Err-add-clause-fault : goal.returns-in-Err-add-clause-fault
returns-in-Err-add-clause-fault c =
    let named : IsNamed c.args.bytes.now = search rules in (
      named,
      (
        c.in-Ok-federate_log.log,
        c.in-Ok-federate_log.ensures.read,
        subst (λ r. IsRefusedFor c.args.collector.now r c.in-Err-add.fault) c.in-Ok-report_by.ensures c.in-Err-add.ensures.refused,
      ),
    )
