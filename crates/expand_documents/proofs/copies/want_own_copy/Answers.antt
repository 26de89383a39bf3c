use Rattle.std.proofs.Common.{map}
use Rattle.toml.specs.View.{view, table_view}
use Rattle.expand_documents.proofs.Found.{own_copy}
use Rattle.expand_documents.proofs.copies.want_own_copy.Goals as goal

pub returns : goal.returns
returns c =
    own_copy c.args.parameters.now (table_view c.args.entry.now) (map (λ k. k.now) c.args.keys.now) c.args.range.now c.args.k (view c.args.made.now)
    c.in_ok-names.names.items c.as_slice.result.now (table_view c.in_ok-members.members.now) c.in_ok-names.ensures c.in_ok-members.ensures c.as_slice.ensures.value
    c.in_ok-want_rest.ensures
