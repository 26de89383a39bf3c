use Rattle.std.proofs.Common.{◌≡◌, take}
use Rattle.wires_hosts.specs.Awaited.{awaited_of}
use Rattle.wires_hosts.specs.Overview.{are_there}
use Rattle.wires_hosts.proofs.overview.awaited_in.Given as goal

-- who is awaited of the federates so far
abbrev pub invariant-loop-of : goal.invariant-loop-of
invariant-loop-of l = l.awaited ≡ awaited_of (are_there (take l.of-index l.seen))
