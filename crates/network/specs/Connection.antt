-- Connections, and the walks and paths that they make. Reactors, ports and slots go by number.
use Rattle.std.specs.Prelude.{◌≡◌, ℕ, List, [], ◌∷◌, Contains, IsTrue, map}
use Rattle.std.specs.List.{fold}
use Rattle.tag.specs.LogicalTime.{LogicalTime, sum_of, is_at_most}
use Rattle.tag.specs.Total as delays

-- from an output port of one reactor to a slot (an input port) of another, or of the same
pub record Connection : Type 0 where
  pub source : ℕ
  pub port : ℕ
  pub target : ℕ
  pub slot : ℕ
  pub delay : LogicalTime

-- these connections lead from i to j, each from where the one before ends; none at all lead from i to i
abbrev pub IsWalk : List Connection → ℕ → List Connection → ℕ → Type 0
IsWalk connections i [] j = i ≡ j
IsWalk connections i (c ∷ rest) j = Contains connections c × (c.source ≡ i) × IsWalk connections c.target rest j

-- a path from i to j: at least one connection
abbrev pub IsPath : List Connection → ℕ → List Connection → ℕ → Type 0
IsPath connections i [] j = ⊥
IsPath connections i (c ∷ rest) j = IsWalk connections i (c ∷ rest) j

-- the delays of connections, one after the other
abbrev pub delays_of : List Connection → List LogicalTime
delays_of path = map (λ c. c.delay) path

-- a delay, then those of further connections, from the first on
abbrev pub then_along : LogicalTime → List Connection → LogicalTime
then_along delay path = fold sum_of delay (delays_of path)

-- the total of a path: that of its delays
abbrev pub total_of : List Connection → LogicalTime
total_of path = delays.total_of (delays_of path)

-- a delay that some path from i to j has as its total, and no path has less
pub record IsLeastDelay (connections : List Connection) (i j : ℕ) (delay : LogicalTime) : Type 0 where
  pub attained : (path : List Connection) × IsPath connections i path j × (total_of path ≡ delay)
  pub least : (path : List Connection) → IsPath connections i path j → IsTrue (is_at_most delay (total_of path))

-- there is no path from i to j
abbrev pub IsUnreachable : List Connection → ℕ → ℕ → Type 0
IsUnreachable connections i j = (path : List Connection) → IsPath connections i path j → ⊥
