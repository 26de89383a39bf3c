use Rattle.std.proofs.Common.{length}
use Rattle.expand_federation.proofs.tables.+are_same_entries.Given as goal

abbrev pub decreases-are_same_entries : goal.decreases-are_same_entries
decreases-are_same_entries l = length l.entries.now
