-- The tokens that were read stand in front of what is left, which gets shorter.
use Rattle.std.proofs.Common.{length}
use Rattle.expand_expressions.proofs.Tokens.{AreInFront}
use Rattle.expand_expressions.proofs.token.tokens.Given as goal

abbrev pub decreases-loop-rest : goal.decreases-loop-rest
decreases-loop-rest l = length l.rest

abbrev pub invariant-loop-rest : goal.invariant-loop-rest
invariant-loop-rest l = AreInFront l.known.operands.now l.known.readable.now l.text l.rest l.tokens.items
