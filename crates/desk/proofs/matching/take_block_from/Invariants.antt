use Rattle.std.proofs.Common.{◌≡◌}
use Rattle.desk.proofs.matching.take_block_from.Given as goal

-- no share has changed so far
abbrev pub invariant-loop-position : goal.invariant-loop-position
invariant-loop-position l = l.shares ≡ l.initial.shares
