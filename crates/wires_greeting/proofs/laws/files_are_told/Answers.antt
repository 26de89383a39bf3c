use Rattle.wires_greeting.proofs.Saying.{files_told}
use Rattle.wires_greeting.proofs.laws.files_are_told.Goals as goal

pub returns : goal.returns
returns c = files_told
