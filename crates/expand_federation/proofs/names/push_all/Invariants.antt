use Rattle.std.proofs.Common.{◌≡◌, ◌++◌, take}
use Rattle.expand_federation.proofs.names.push_all.Given as goal

abbrev pub invariant-loop-name : goal.invariant-loop-name
invariant-loop-name l = l.names.items ≡ l.initial.names.items ++ take l.name-index l.name-items
