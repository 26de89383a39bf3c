-- Each call within another may go one less deep; what was read so far is spelled by the tokens that were taken.
use Rattle.std.proofs.Common.{◌+◌, ◌*◌, ◌≤◌}
use Rattle.expand_expressions.specs.Grammar.{Spells}
use Rattle.expand_expressions.proofs.reading.Reader.+reading.Given as goal

abbrev pub decreases-formula : goal.decreases-formula
decreases-formula l = 4 * l.depth + 2

abbrev pub decreases-part : goal.decreases-part
decreases-part l = 4 * l.depth + 1

abbrev pub decreases-operand : goal.decreases-operand
decreases-operand l = 4 * l.depth

abbrev pub decreases-negative : goal.decreases-negative
decreases-negative l = 4 * l.depth + 1

abbrev pub decreases-call : goal.decreases-call
decreases-call l = 4 * l.depth + 3

abbrev pub decreases-enclosed : goal.decreases-enclosed
decreases-enclosed l = 4 * l.depth + 3

abbrev pub invariant-formula-operators : goal.invariant-formula-operators
invariant-formula-operators l = (l.loosest ≤ l.level) × Spells l.level l.fn.self.rest.now l.formula l.self.rest.now
