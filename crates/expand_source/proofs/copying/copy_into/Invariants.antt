use Rattle.std.proofs.Common.{◌≡◌, ◌++◌, take}
use Rattle.expand_source.proofs.copying.copy_into.Given as goal

abbrev pub invariant-loop-name : goal.invariant-loop-name
invariant-loop-name l = l.names.items ≡ l.initial.names.items ++ take l.name-index l.more
