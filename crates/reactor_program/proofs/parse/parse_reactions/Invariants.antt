use Rattle.std.proofs.Common.{take}
use Rattle.std.specs.List.{AllZip}
use Rattle.reactor_program.specs.Spelled.{SpellsReaction}
use Rattle.reactor_program.proofs.parse.parse_reactions.Given as goal

abbrev pub invariant-loop-place : goal.invariant-loop-place
invariant-loop-place l = AllZip (SpellsReaction l.slots l.states) l.reactions.items (take l.place l.drafts)
