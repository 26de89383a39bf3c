use Rattle.std.proofs.Common.{◌≡◌, rules, subst}
use Rattle.std.proofs.lemmas.Result.{on_ok_weaker}
use Rattle.files_logs.specs.declared.log_head.LogHead.{LogHead}
use Rattle.fedrun_hosts.specs.EndedLogs.{EndsLog, Begins}
use Rattle.fedrun_hosts.specs.declared.logged.Begun.TheVariants.{GoesOn}
use Rattle.fedrun_hosts.proofs.Named.{ends_opened}
use Rattle.fedrun_hosts.proofs.coordinate.coordinate_logging.Goals as goal

pub returns-in-Ok-GoesOn : goal.returns-in-Ok-GoesOn
returns-in-Ok-GoesOn g c =
    let known = g.V.Device.is_known in
    let Holds = g.L.LogDisk.holds c.args.logs.now in
    let name = c.args.node.now.report.now in
    let before = g.D.Disk.contents c.args.disk.now in
    let after = g.D.Disk.contents c.go_on.new.disk in
    let begun = g.D.Disk.contents c.begin.new.disk in
    let is : c.in-Ok-GoesOn.field-0 ≡ GoesOn c.in-Ok-GoesOn.opened = search rules in
    let begins = subst (λ b. Begins known Holds g.V.Device.synced c.head_of-head.result name before begun b) is c.in-Ok-GoesOn.ensures in
    on_ok_weaker c.go_on.result
    (λ ended. record {
      log = ended.log;
      ends = subst (λ (h : LogHead). EndsLog known Holds h name before after ended.log) c.head_of-head.ensures
          (ends_opened known Holds g.V.Device.synced c.head_of-head.result name c.in-Ok-GoesOn.opened before begun after ended.log begins ended.ends);
      finished = ended.finished;
    })
    c.go_on.ensures
