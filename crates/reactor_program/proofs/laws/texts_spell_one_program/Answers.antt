use Rattle.reactor_program.proofs.OneReading.{one_program}
use Rattle.reactor_program.proofs.laws.texts_spell_one_program.Goals as goal

pub returns : goal.returns
returns c = one_program
