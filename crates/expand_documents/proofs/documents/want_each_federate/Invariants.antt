use Rattle.std.proofs.Common.{map}
use Rattle.toml.specs.View.{view}
use Rattle.expand_documents.specs.Documents.{AreFederatesOf}
use Rattle.expand_documents.proofs.CopyLists.{IsMadeUpTo}
use Rattle.expand_documents.proofs.documents.want_each_federate.Given as goal

abbrev pub invariant-loop-entry : goal.invariant-loop-entry
invariant-loop-entry l = IsMadeUpTo (AreFederatesOf l.parameters (map view l.classes)) l.entries l.entry-index (map view l.made) (map view l.rest)
