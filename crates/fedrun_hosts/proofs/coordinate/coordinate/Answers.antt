use Rattle.std.proofs.lemmas.Result.{on_ok_weaker}
use Rattle.fedrun_hosts.proofs.Saved.{coordinated_by_report, coordinated_by_log}
use Rattle.fedrun_hosts.proofs.coordinate.coordinate.Goals as goal

pub returns-in-Some : goal.returns-in-Some
returns-in-Some g c =
    let loaded = c.in-Ok.loaded in
    let before = g.D.Disk.contents c.args.disk.now in
    let after = g.D.Disk.contents c.coordinate_logging.new.disk in
    on_ok_weaker c.coordinate_logging.result
    (coordinated_by_log (g.F.Files.contents c.args.files.now) g.V.Device.is_known (g.L.LogDisk.holds c.args.logs.now) c.args.node.now loaded.sources loaded.digests before after c.in-Ok.ensures.sources c.in-Ok.ensures.digests c.in-Some.kept_by c.in-Some.is)
    c.coordinate_logging.ensures

pub returns : goal.returns
returns g c =
    let loaded = c.in-Ok.loaded in
    let before = g.D.Disk.contents c.args.disk.now in
    let after = g.D.Disk.contents c.coordinate_reporting.new.disk in
    on_ok_weaker c.coordinate_reporting.result
    (coordinated_by_report (g.F.Files.contents c.args.files.now) g.V.Device.is_known (g.L.LogDisk.holds c.args.logs.now) c.args.node.now loaded.sources loaded.digests before after c.in-Ok.ensures.sources c.in-Ok.ensures.digests c.in-None.is)
    c.coordinate_reporting.ensures
