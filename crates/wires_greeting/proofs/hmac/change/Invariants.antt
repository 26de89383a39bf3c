use Rattle.std.proofs.Common.{◌≡◌, ℕ, ◌<◌, ◌≤◌, length, get_or, bit_xor}
use Rattle.wires_greeting.proofs.hmac.change.Given as goal

-- the bytes so far are changed, and the others are as they were
abbrev pub invariant-loop-byte : goal.invariant-loop-byte
invariant-loop-byte l = record {
  long : length l.block ≡ length l.fn.block;
  changed : (k : ℕ) → k < l.byte-index → get_or l.block k 0 ≡ bit_xor (get_or l.fn.block k 0) l.pad;
  unchanged : (k : ℕ) → l.byte-index ≤ k → get_or l.block k 0 ≡ get_or l.fn.block k 0;
}
