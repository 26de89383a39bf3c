use Rattle.std.proofs.Common.{◌≡◌, ◌++◌, take}
use Rattle.coordinator.specs.Sending.{grants_in}
use Rattle.coordinator.proofs.sending.push_grants.Given as goal

-- the TAGs to the federates so far are added
abbrev pub invariant-loop-federate : goal.invariant-loop-federate
invariant-loop-federate l = l.posts.items ≡ l.fn.posts.items ++ grants_in l.table (take l.federate-index l.federates)
