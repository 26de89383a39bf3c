use Rattle.std.proofs.Common.{◌≡◌, take}
use Rattle.wires_greeting.proofs.same.is_same.Given as goal

-- there is a difference so far exactly where the bytes so far differ
abbrev pub invariant-loop-i : goal.invariant-loop-i
invariant-loop-i l = record {
  same : l.difference ≡ 0 → take l.i l.proof ≡ take l.i l.other;
  none : take l.i l.proof ≡ take l.i l.other → l.difference ≡ 0;
}
