use Rattle.std.proofs.Common.{take}
use Rattle.std.specs.List.{AllZip}
use Rattle.reactor_program.specs.Spelled.{SpellsLineOf}
use Rattle.reactor_program.proofs.reading.body.Given as goal

abbrev pub invariant-loop-place : goal.invariant-loop-place
invariant-loop-place l = AllZip (SpellsLineOf l.slots l.states) l.lines.items (take l.place l.texts)
