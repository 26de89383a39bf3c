use Rattle.std.proofs.Common.{◌≡◌, ℕ, ◌+◌, ◌*◌, Some, length, slice_get}
use Rattle.whole.specs.declared.nexts.Next.{Next}
use Rattle.whole.specs.Next.{IsFirstAmong}
use Rattle.whole.proofs.nexts.firsts_of.Given as goal

abbrev pub invariant-loop-block : goal.invariant-loop-block
invariant-loop-block l =
    (length l.firsts.items ≡ l.block) × ((block : ℕ) (first : Next) → slice_get l.firsts.items block ≡ Some first → IsFirstAmong l.nexts (block * 8) (block * 8 + 8) first)
