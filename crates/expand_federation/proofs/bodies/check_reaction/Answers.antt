use Rattle.toml.specs.View.{table_view}
use Rattle.loadfed_tables.specs.Sections.{members_of}
use Rattle.expand_federation.proofs.Documents.{reaction_of}
use Rattle.expand_federation.proofs.bodies.check_reaction.Goals as goal

pub returns-then-is_same : goal.returns-then-is_same
returns-then-is_same c =
    reaction_of c.args.names.now (table_view c.args.before.now) (table_view c.args.after.now) (members_of c.new.result) (members_of c.new-2.result) c.in_ok-lines.lines c.as_slice.result.now
    c.in_ok-texts.texts c.in_ok-expected.expected c.new.ensures c.new-2.ensures c.as_slice.ensures (c.is_same.ensures.0 c.if-is_same.true) c.in_ok-check_rest.ensures c.in_ok-lines.ensures.ok
    c.in_ok-texts.ensures.ok c.in_ok-expected.ensures
