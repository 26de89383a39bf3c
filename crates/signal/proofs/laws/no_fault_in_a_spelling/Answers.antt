use Rattle.signal.proofs.Framing.{begins}
use Rattle.signal.proofs.laws.no_fault_in_a_spelling.Goals as goal

pub returns : goal.returns
returns c = λ bytes rest frames h. let front = begins bytes rest frames h in (front.faultless, front.whole)
