-- The total of a path, which is how much later what leaves its first federate arrives at its last; and permitted
-- delays.
use Rattle.std.specs.Prelude.{◌≡◌, ℕ, ◌^◌, ◌<◌, List, [], ◌∷◌}
use Rattle.std.specs.List.{fold}
use Rattle.tag.specs.LogicalTime.{LogicalTime, origin, sum_of, delay_of}

-- from the first connection on; of no connection it is none at all
abbrev pub total_of : List LogicalTime → LogicalTime
total_of [] = origin
total_of (d ∷ ds) = fold sum_of d ds

-- the delay of an `after` or of a scheduling, whose time is below 2^62
abbrev pub IsAfterDelay : LogicalTime → Type 0
IsAfterDelay delay = (time : ℕ) × (time < 2 ^ 62) × (delay ≡ delay_of time)

-- a delay that a connection may have: none, or that of an `after`. A scheduling has the latter alone
pub data IsConnectionDelay : LogicalTime → Type 0 where
  no_delay : IsConnectionDelay origin
  some_delay : {delay : LogicalTime} → IsAfterDelay delay → IsConnectionDelay delay
