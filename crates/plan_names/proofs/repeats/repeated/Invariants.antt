use Rattle.std.proofs.Common.{◌≡◌, ◌<◌, ℕ, map, get_or, []}
use Rattle.plan_names.proofs.repeats.repeated.Given as goal

abbrev pub invariant-loop-place : goal.invariant-loop-place
invariant-loop-place l =
    (j k : ℕ) → j < k → k < l.place
    → get_or (map (λ n. n.now) l.names) j [] ≡ get_or (map (λ n. n.now) l.names) k [] → ⊥
