use Rattle.std.proofs.Common.{ℕ, ◌<◌, ◌≤◌, length, get_or, map, []}
use Rattle.recorder_search.proofs.reading.first_unread.Given as goal

-- the journals before this place are used up
abbrev pub invariant-loop-place : goal.invariant-loop-place
invariant-loop-place l = (k : ℕ) → k < l.place → length (get_or (map (λ j. j.now) l.journals) k []) ≤ get_or l.read k 0
