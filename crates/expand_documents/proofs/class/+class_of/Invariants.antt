use Rattle.std.proofs.Common.{length}
use Rattle.expand_documents.proofs.class.+class_of.Given as goal

abbrev pub decreases-class_of : goal.decreases-class_of
decreases-class_of l = length l.classes.now
