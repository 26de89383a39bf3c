use Rattle.toml.specs.View.{table_view}
use Rattle.expand_federation.proofs.Taken.{made_of}
use Rattle.expand_federation.proofs.expanding.check_meaning.Goals as goal

pub returns : goal.returns
returns c =
    made_of c.check_bodies.result c.args.source.now c.args.given.now c.args.text.now (table_view c.in_ok-before.before) (table_view c.in_ok-filled.filled) (table_view c.in_ok-after.after)
    c.in_ok-before.ensures.ok c.in_ok-check_expansion.ensures c.in_ok-after.ensures.ok c.check_bodies.ensures
