use Rattle.std.proofs.Common.{◌≡◌, ◌++◌}
use Rattle.expand_expressions.specs.Division.{all_taken_off}
use Rattle.expand_expressions.proofs.division.take_all_off.Given as goal

abbrev pub invariant-loop-bit : goal.invariant-loop-bit
invariant-loop-bit l =
    l.lines.items ++ all_taken_off l.free l.is_quotient l.size l.bit ≡ l.initial.lines.items ++ all_taken_off l.free l.is_quotient l.size 63
