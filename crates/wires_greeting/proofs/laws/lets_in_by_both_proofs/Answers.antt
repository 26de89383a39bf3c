use Rattle.wires_greeting.proofs.Letting.{lets_in}
use Rattle.wires_greeting.proofs.laws.lets_in_by_both_proofs.Goals as goal

pub returns : goal.returns
returns c = lets_in
