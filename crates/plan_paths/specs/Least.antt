-- Least delays: how much later, at the least, what leaves one federate can arrive at another.
use Rattle.std.specs.Prelude.{◌≡◌, ℕ, zero, suc, ◌<◌, ◌≤◌, nat_eq, if◌then◌else◌, List, [], ◌∷◌, length, slice_index_or}
use Rattle.std.specs.Prelude.{Option, None, Some}
use Rattle.std.specs.Option.{option_map}
use Rattle.tag.specs.LogicalTime.{LogicalTime, lesser, sum_of}
use Rattle.network.specs.Connection.{Connection, IsPath, total_of}

-- the lesser of those that are there
abbrev pub lesser_of : Option LogicalTime → Option LogicalTime → Option LogicalTime
lesser_of None other = other
lesser_of (Some d) None = Some d
lesser_of (Some d) (Some e) = Some (lesser e d)

-- the least total of a path from i with this last connection: of it alone, or of a path to its source and then it,
-- where `least` gives the least total of a path from i to each federate
abbrev pub least_ending : (ℕ → Option LogicalTime) → ℕ → Connection → Option LogicalTime
least_ending least i last =
    lesser_of (if nat_eq last.source i then Some last.delay else None)
    (option_map (λ d. sum_of d last.delay) (least last.source))

-- the least of these over all last connections that lead to j
abbrev pub least_into : (ℕ → Option LogicalTime) → ℕ → ℕ → List Connection → Option LogicalTime
least_into least i j [] = None
least_into least i j (c ∷ rest) =
    lesser_of (if nat_eq c.target j then least_ending least i c else None) (least_into least i j rest)

-- the least total of a path from i to j of at most this many connections; none where there is no such path
abbrev pub least_within : List Connection → ℕ → ℕ → ℕ → Option LogicalTime
least_within connections zero i j = None
least_within connections (suc most) i j = least_into (least_within connections most i) i j connections

-- some path from i to j of at most this many connections has this total
pub record IsTotalWithin (connections : List Connection) (most i j : ℕ) (delay : LogicalTime) : Type 0 where
  pub path : List Connection
  pub is_path : IsPath connections i path j
  pub total : total_of path ≡ delay
  pub few : length path ≤ most

-- the least delays from i to each of this many federates
pub record IsLeastRow (connections : List Connection) (count i : ℕ) (row : List (Option LogicalTime)) : Type 0 where
  pub len : length row ≡ count
  pub delays : (j : ℕ) → j < count → slice_index_or row j None ≡ least_within connections count i j

-- the least delays from each of this many federates to each of them
pub record IsLeastTable (connections : List Connection) (count : ℕ)
    (table : List (List (Option LogicalTime))) : Type 0 where
  pub len : length table ≡ count
  pub rows : (i : ℕ) → i < count → IsLeastRow connections count i (slice_index_or table i [])
