use Rattle.protocol_laws.proofs.Consistency as consistency
use Rattle.protocol_laws.proofs.histories_are_consistent.Goals as goal

pub returns : goal.returns
returns c = consistency.histories_are_consistent
