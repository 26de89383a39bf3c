use Rattle.fedrun_expand.proofs.Files.{file_saved}
use Rattle.fedrun_expand.proofs.saving.save_federations.Goals as goal

pub returns-in-Ok-clause-saved : goal.returns-in-Ok-clause-saved
returns-in-Ok-clause-saved g c =
    file_saved c.save_expansions.result (g.F.Files.contents c.args.files.now c.args.source.now) c.in-Ok.bytes.items c.as_slice.result.now c.args.given.now c.args.each
    (g.D.Disk.contents c.args.disk.now) (g.D.Disk.contents c.save_expansions.new.disk) c.in-Ok.ensures.ok c.as_slice.ensures.value c.save_expansions.ensures.saved
