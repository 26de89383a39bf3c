use Rattle.std.proofs.Common.{ℕ, ◌<◌, get_or}
use Rattle.tag.specs.LogicalTime.{IsFinite}
use Rattle.plan.specs.declared.input.Input.{Input}
use Rattle.plan.proofs.input.know_tags.Given as goal

abbrev pub invariant-loop-input : goal.invariant-loop-input
invariant-loop-input l = (k : ℕ) (i : Input) → k < l.input-index → IsFinite (get_or l.inputs k i).tag
