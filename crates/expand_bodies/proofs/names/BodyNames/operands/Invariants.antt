use Rattle.std.proofs.Common.{◌≡◌, ◌++◌, map, take}
use Rattle.expand_bodies.specs.Reading.{states_named, constant_named}
use Rattle.expand_bodies.proofs.names.BodyNames.operands.Given as goal

abbrev pub invariant-loop-number : goal.invariant-loop-number
invariant-loop-number l = l.operands.items ≡ states_named 0 (take l.number l.self.states)

abbrev pub invariant-loop-constant : goal.invariant-loop-constant
invariant-loop-constant l =
    l.operands.items ≡ states_named 0 l.self.states ++ map constant_named (take l.constant-index l.self.constants.items)
