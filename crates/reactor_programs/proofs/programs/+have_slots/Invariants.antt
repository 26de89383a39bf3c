use Rattle.std.proofs.Common.{length}
use Rattle.reactor_programs.proofs.programs.+have_slots.Given as goal

abbrev pub decreases-have_slots : goal.decreases-have_slots
decreases-have_slots l = length l.federates.now
