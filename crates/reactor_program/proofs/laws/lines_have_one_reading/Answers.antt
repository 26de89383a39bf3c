use Rattle.reactor_program.proofs.OneReading.{one_reading}
use Rattle.reactor_program.proofs.laws.lines_have_one_reading.Goals as goal

pub returns : goal.returns
returns c = one_reading
