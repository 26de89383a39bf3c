use Rattle.std.proofs.Common.{take}
use Rattle.wires_hosts.specs.Standing.{IsLeast}
use Rattle.wires_hosts.specs.Overview.{completed_by}
use Rattle.wires_hosts.proofs.overview.least_in.Given as goal

-- the least of the federates so far
abbrev pub invariant-loop-of : goal.invariant-loop-of
invariant-loop-of l = IsLeast (completed_by (take l.of-index l.seen)) l.least
