use Rattle.wires_greeting.proofs.Letting.{goes_on}
use Rattle.wires_greeting.proofs.laws.goes_on_by_proof.Goals as goal

pub returns : goal.returns
returns c = goes_on
