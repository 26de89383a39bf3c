use Rattle.std.proofs.Common.{ℕ, ◌<◌, [], map, get_or}
use Rattle.network_laws.specs.Settled.{BeginsWith}
use Rattle.recorder.proofs.known.are_prefixes.Given as goal

-- the journals so far begin so
abbrev pub invariant-loop-place : goal.invariant-loop-place
invariant-loop-place l = (k : ℕ) → k < l.place → BeginsWith (get_or (map (λ j. j.now) l.journals) k []) (get_or l.known k [])
