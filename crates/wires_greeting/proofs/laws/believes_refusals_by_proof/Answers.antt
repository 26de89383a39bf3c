use Rattle.wires_greeting.proofs.Letting.{believes}
use Rattle.wires_greeting.proofs.laws.believes_refusals_by_proof.Goals as goal

pub returns : goal.returns
returns c = believes
