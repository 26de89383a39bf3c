use Rattle.fedrun_expand.proofs.Outcome.{file_printed}
use Rattle.fedrun_expand.proofs.printing.print_federation.Goals as goal

pub returns-in-Ok-clause-ok : goal.returns-in-Ok-clause-ok
returns-in-Ok-clause-ok g c =
    file_printed c.print_expansion.result (g.F.Files.contents c.args.files.now c.args.source.now) c.in-Ok.bytes.items c.as_slice.result.now c.args.given.now (g.O.Write.contents c.args.out.now)
    (g.O.Write.contents c.print_expansion.new.out) c.in-Ok.ensures.ok c.as_slice.ensures.value c.print_expansion.ensures.ok
