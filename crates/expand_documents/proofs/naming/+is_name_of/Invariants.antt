use Rattle.std.proofs.Common.{length}
use Rattle.expand_documents.proofs.naming.+is_name_of.Given as goal

abbrev pub decreases-is_name_of : goal.decreases-is_name_of
decreases-is_name_of l = length l.names.now
