use Rattle.std.proofs.Common.{map}
use Rattle.toml.specs.View.{view}
use Rattle.expand_documents.specs.Documents.{AreConnectionsOf}
use Rattle.expand_documents.proofs.CopyLists.{one_entry_made}
use Rattle.expand_documents.proofs.documents.want_each_connection.Goals as goal

pub loop-entry-preserved : goal.loop-entry-preserved
loop-entry-preserved c =
    one_entry_made (AreConnectionsOf c.args.parameters.now) c.args.entries.now c.loop-entry.entry-index c.entry-item.result (map view c.args.made.now) (map view c.loop-entry.rest.now)
    (map view c.in_ok-rest.rest.now) c.loop-entry-test.true c.entry-item.is c.loop-entry.invariant c.in_ok-rest.ensures
