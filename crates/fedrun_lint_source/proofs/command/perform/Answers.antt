use Rattle.fedrun_lint_source.proofs.Outcome.{some_right}
use Rattle.fedrun_lint_source.proofs.command.perform.Goals as goal

pub returns-in-Ok : goal.returns-in-Ok
returns-in-Ok g c =
    some_right c.lint_source.result (g.F.Files.contents c.args.files.now) c.in-Ok.request.federation.now c.in-Ok.request.inputs.now (g.O.Write.contents c.args.out.now)
    (g.O.Write.contents c.lint_source.new.out) c.lint_source.ensures
