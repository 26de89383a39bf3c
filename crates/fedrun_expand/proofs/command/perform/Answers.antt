use Rattle.fedrun_expand.proofs.Outcome.{some_printed}
use Rattle.fedrun_expand.proofs.command.perform.Goals as goal

pub returns-in-Ok-clause-ok : goal.returns-in-Ok-clause-ok
returns-in-Ok-clause-ok g c =
    some_printed c.print_federation.result (g.F.Files.contents c.args.files.now) c.in-Ok.request.source.now c.as_slice.result.now (g.O.Write.contents c.args.out.now) (g.O.Write.contents c.print_federation.new.out)
    c.print_federation.ensures.ok
