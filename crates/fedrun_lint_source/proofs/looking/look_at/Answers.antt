use Rattle.fedrun_lint_source.proofs.Outcome.{right_source}
use Rattle.fedrun_lint_source.proofs.looking.look_at.Goals as goal

pub returns-in-Ok : goal.returns-in-Ok
returns-in-Ok g c =
    right_source c.look_at_federation.result c.args.names.now.federation.now c.args.source.now c.in-Ok.federation.text.items c.args.names.now.inputs.now c.args.inputs.now
    (g.O.Write.contents c.args.out.now) (g.O.Write.contents c.look_at_federation.new.out) c.in-Ok.ensures.ok c.look_at_federation.ensures
