use Rattle.toml.specs.View.{view, table_view}
use Rattle.expand_documents.specs.Documents.{AreConnectionsOf}
use Rattle.expand_documents.proofs.CopyLists.{parted}
use Rattle.expand_documents.proofs.documents.behind_connections.Goals as goal

pub returns : goal.returns
returns c =
    parted (AreConnectionsOf c.args.parameters.now (view c.args.value.now)) c.args.made.now c.in-Some.own.now c.in-Some.rest.now c.copy_count.result c.in-Some.ensures.cases
    (table_view c.in_ok-entry.entry.now, c.in_ok-range.range, c.in_ok-entry.ensures, c.in_ok-range.ensures, c.in_ok-want_own_copies.ensures)
