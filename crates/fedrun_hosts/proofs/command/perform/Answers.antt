use Rattle.fedrun_hosts.proofs.Joined.{ended_by_join}
use Rattle.fedrun_hosts.proofs.command.perform.Goals as goal

pub returns-in-Ok-Join : goal.returns-in-Ok-Join
returns-in-Ok-Join g c =
    ended_by_join (g.F.Files.contents c.args.files.now) g.V.Device.is_known (g.L.LogDisk.holds c.args.logs.now) c.in-Ok-Join.node c.in-Ok-Join.name.now (g.D.Disk.contents c.args.disk.now) (g.D.Disk.contents c.join.new.disk) c.join.result
    c.join.ensures
