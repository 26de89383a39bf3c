-- What is gained of a fault's line.
use Rattle.std.proofs.Common.{Option, None, Some, IfSome}

-- what holds of each value holds of the one that is there
pub if_there : {A : Type 0} {P Q : A → Type 0} (found : Option A) → ((value : A) → P value → Q value) → IfSome found P → IfSome found Q
if_there None more given = given
if_there (Some value) more given = more value given
