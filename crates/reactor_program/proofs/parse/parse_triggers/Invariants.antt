use Rattle.std.proofs.Common.{◌≡◌, Some, take}
use Rattle.std.specs.List.{AllZip}
use Rattle.reactor_program.specs.Resolution.{trigger_slot}
use Rattle.reactor_program.proofs.parse.parse_triggers.Given as goal

abbrev pub invariant-loop-text : goal.invariant-loop-text
invariant-loop-text l = AllZip (λ slot text. trigger_slot l.slots text ≡ Some slot) l.triggers.items (take l.text-index l.texts)
