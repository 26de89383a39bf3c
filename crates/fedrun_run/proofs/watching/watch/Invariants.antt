use Rattle.std.proofs.Common.{◌≡◌}
use Rattle.fedrun_run.proofs.watching.watch.Given as goal

-- the audit is about the same federation
abbrev pub invariant-loop : goal.invariant-loop
invariant-loop g l = l.audit ≡ l.fn.audit
