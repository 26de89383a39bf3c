use Rattle.std.proofs.Common.{length}
use Rattle.expand_documents.proofs.naming.+value_given.Given as goal

abbrev pub decreases-value_given : goal.decreases-value_given
decreases-value_given l = length l.given.now
