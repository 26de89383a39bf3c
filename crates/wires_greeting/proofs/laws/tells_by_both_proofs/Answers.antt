use Rattle.wires_greeting.proofs.Letting.{tells}
use Rattle.wires_greeting.proofs.laws.tells_by_both_proofs.Goals as goal

pub returns : goal.returns
returns c = tells
