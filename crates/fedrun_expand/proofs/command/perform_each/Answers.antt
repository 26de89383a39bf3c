use Rattle.fedrun_expand.proofs.Files.{some_saved}
use Rattle.fedrun_expand.proofs.command.perform_each.Goals as goal

pub returns-in-Ok-clause-saved : goal.returns-in-Ok-clause-saved
returns-in-Ok-clause-saved g c =
    some_saved c.save_federations.result (g.F.Files.contents c.args.files.now) c.in-Ok.request.source.now c.as_slice.result.now c.in-Ok.each (g.D.Disk.contents c.args.disk.now)
    (g.D.Disk.contents c.save_federations.new.disk) c.save_federations.ensures.saved
