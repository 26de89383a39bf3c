use Rattle.std.proofs.Common.{◌≡◌, ◌+◌, ◌++◌, take}
use Rattle.reactor.proofs.rows.append.Given as goal

abbrev pub invariant-loop-entry : goal.invariant-loop-entry
invariant-loop-entry l = record {
  items : l.to.items ≡ l.initial.to.items ++ take l.entry-index l.entries;
  len : l.to.len ≡ l.initial.to.len + l.entry-index;
  capacity : l.to.cap ≡ l.initial.to.cap;
}
