use Rattle.std.proofs.Common.{◌≡◌}
use Rattle.fedrun_run.proofs.watching.look.Given as goal

-- the audit is about the same federation
abbrev pub invariant-loop-number : goal.invariant-loop-number
invariant-loop-number g l = l.audit ≡ l.fn.audit
