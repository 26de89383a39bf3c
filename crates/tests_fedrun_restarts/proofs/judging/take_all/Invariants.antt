use Rattle.std.proofs.Common.{◌≡◌}
use Rattle.tests_fedrun_restarts.proofs.judging.take_all.Given as goal

-- a report changes nothing of how many federates there are
abbrev pub invariant-loop-bytes : goal.invariant-loop-bytes
invariant-loop-bytes l = l.collector.count ≡ l.fn.collector.count
