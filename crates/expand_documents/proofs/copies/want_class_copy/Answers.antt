use Rattle.toml.specs.View.{view, table_view}
use Rattle.expand_documents.specs.Entries.{members_of_entries}
use Rattle.expand_documents.proofs.Found.{class_copy}
use Rattle.expand_documents.proofs.copies.want_class_copy.Goals as goal

pub returns : goal.returns
returns c =
    class_copy c.args.parameters.now (table_view c.args.of.own.now) (table_view c.args.of.class.now) (members_of_entries c.args.of.settings.now) c.args.of.defaults.now c.args.range.now c.args.k
    (view c.args.made.now) c.in_ok-names.names.items c.as_slice.result.now c.as_slice-2.result.now (table_view c.in_ok-members.members.now) c.in_ok-names.ensures c.in_ok-members.ensures
    c.as_slice.ensures.value c.as_slice-2.ensures.value c.in_ok-want_name.ensures c.in_ok-want_rest.ensures
