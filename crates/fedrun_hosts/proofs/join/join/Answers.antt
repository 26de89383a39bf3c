use Rattle.std.proofs.lemmas.Result.{on_ok_weaker}
use Rattle.fedrun_hosts.proofs.Saved.{joined_by_report, joined_by_log}
use Rattle.fedrun_hosts.proofs.join.join.Goals as goal

pub returns-in-Some-log : goal.returns-in-Some-log
returns-in-Some-log g c =
    let loaded = c.in-Ok.loaded in
    let before = g.D.Disk.contents c.args.disk.now in
    let after = g.D.Disk.contents c.join_logging.new.disk in
    on_ok_weaker c.join_logging.result
    (joined_by_log (g.F.Files.contents c.args.files.now) g.V.Device.is_known (g.L.LogDisk.holds c.args.logs.now) c.args.node.now loaded.sources loaded.digests before after c.in-Ok.ensures.sources c.in-Ok.ensures.digests c.args.name.now c.in-Some.number
    c.in-Some.ensures.named c.in-Some-log.kept_by c.in-Some-log.is)
    c.join_logging.ensures

pub returns : goal.returns
returns g c =
    let loaded = c.in-Ok.loaded in
    let before = g.D.Disk.contents c.args.disk.now in
    let after = g.D.Disk.contents c.join_reporting.new.disk in
    on_ok_weaker c.join_reporting.result
    (joined_by_report (g.F.Files.contents c.args.files.now) g.V.Device.is_known (g.L.LogDisk.holds c.args.logs.now) c.args.node.now loaded.sources loaded.digests before after c.in-Ok.ensures.sources c.in-Ok.ensures.digests c.args.name.now c.in-Some.number
    c.in-Some.ensures.named c.in-None.is)
    c.join_reporting.ensures
