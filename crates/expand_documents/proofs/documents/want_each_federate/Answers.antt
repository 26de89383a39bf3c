use Rattle.std.proofs.Common.{map}
use Rattle.toml.specs.View.{view}
use Rattle.expand_documents.specs.Documents.{AreFederatesOf}
use Rattle.expand_documents.proofs.CopyLists.{one_entry_made}
use Rattle.expand_documents.proofs.documents.want_each_federate.Goals as goal

pub loop-entry-preserved : goal.loop-entry-preserved
loop-entry-preserved c =
    one_entry_made (AreFederatesOf c.args.parameters.now (map view c.args.classes.now)) c.args.entries.now c.loop-entry.entry-index c.entry-item.result (map view c.args.made.now) (map view c.loop-entry.rest.now)
    (map view c.in_ok-rest.rest.now) c.loop-entry-test.true c.entry-item.is c.loop-entry.invariant c.in_ok-rest.ensures
