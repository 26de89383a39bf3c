use Rattle.toml.specs.View.{table_view}
use Rattle.loadfed_tables.specs.Sections.{members_of}
use Rattle.expand_federation.proofs.Documents.{federate_of}
use Rattle.expand_federation.proofs.bodies.check_federate.Goals as goal

pub returns : goal.returns
returns c =
    federate_of c.check_reactions.result c.in_ok-names.names (table_view c.args.before.now) (table_view c.args.after.now) (members_of c.new.result) c.new.ensures c.in_ok-check_rest.ensures
    c.in_ok-names.ensures c.in_ok-check_states.ensures c.check_reactions.ensures
