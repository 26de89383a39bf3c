use Rattle.std.specs.Prelude.{string_bytes}
use Rattle.fedrun_expand.proofs.Files.{one_saved}
use Rattle.fedrun_expand.proofs.saving.save_one.Goals as goal

pub returns-in-Ok-clause-saved : goal.returns-in-Ok-clause-saved
returns-in-Ok-clause-saved g c =
    one_saved c.save_new.result c.args.source.now c.args.given.now c.args.each c.args.k (string_bytes c.in-Ok.file.name) c.in-Ok.file.text.items (g.D.Disk.contents c.args.disk.now)
    (g.D.Disk.contents c.save_new.new.disk) c.in-Ok.ensures c.save_new.ensures.saved
