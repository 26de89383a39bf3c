-- What a program keeps is said of its fields; here it is said of its value.
use Rattle.std.proofs.Common.{subst}
use Rattle.reactor_program.specs.Behaviour.{IsWellFormed}
use Rattle.reactor_program.proofs.program.Program.invariant.Goals as goal

pub returns : goal.returns
returns c = subst IsWellFormed c.self.view_is c.self.invariant
