use Rattle.wires_greeting.proofs.Saying.{sides, coordinators, federates}
use Rattle.wires_greeting.proofs.laws.proofs_tell_what_was_said.Goals as goal

pub returns : goal.returns
returns c = record { sides = sides; coordinator = coordinators; federate = federates }
