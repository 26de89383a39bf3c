use Rattle.std.proofs.Common.{take}
use Rattle.expand_documents.specs.Entries.{members_of_entries}
use Rattle.expand_documents.specs.Naming.{AreNamed, IsNumberGiven}
use Rattle.expand_documents.proofs.naming.numbers.Given as goal

abbrev pub invariant-loop-entry : goal.invariant-loop-entry
invariant-loop-entry l = AreNamed (IsNumberGiven l.given) (members_of_entries (take l.entry-index l.entries)) l.names.items
