-- Which federate may be granted which tag: so that no message can still come to it at or below that tag. Three rules
-- stand here. The coordinator goes by `grant_widest`; `grant_next` and `grant_chosen` are for laws and examples alone.
use Rattle.std.specs.Prelude.{◌≡◌, ℕ, zero, suc, ◌^◌, ◌⊎◌, Bool, true, ◌&&◌, ◌||◌, nat_eq, nat_lt, IsTrue}
use Rattle.std.specs.Prelude.{if◌then◌else◌, List, [], ◌∷◌, Contains, Option, None, Some}
use Rattle.std.specs.List.{list_all}
use Rattle.tag.specs.LogicalTime.{LogicalTime, IsLogicalTime, IsFinite, origin, forever, is_before, is_at_most, sum_of}
use Rattle.tag.specs.LogicalTime.{successor_of, predecessor_of, lesser, greater, is_past}
use Rattle.network.specs.Connection.{Connection, IsLeastDelay}
use Rattle.network.specs.Network.{Network}
use Rattle.network.specs.Tables.{Table}
use Rattle.protocol.specs.FederateRecord.{FederateRecord}

-- which tag to grant a federate, if any, where all stand so
abbrev pub Rule : Type 0
Rule = (ℕ → FederateRecord) → ℕ → Option LogicalTime

-- the first tag at which a federate's next turn may be, as far as its LTCs tell
abbrev pub after_completed : Option LogicalTime → LogicalTime
after_completed None = origin
after_completed (Some tag) = successor_of tag

-- nothing that a federate does from its next tag on arrives at or below the tag, over any path
abbrev pub ByPaths : Network → (ℕ → FederateRecord) → ℕ → LogicalTime → Type 0
ByPaths n federate_records j tag =
    (i : ℕ) (delay : LogicalTime) → IsLeastDelay n.connections i j delay
    → IsTrue (is_before tag (sum_of (federate_records i).next delay))

-- nothing that comes after the last LTC of a federate with a direct connection arrives at or below the tag
abbrev pub ByConnections : Network → (ℕ → FederateRecord) → ℕ → LogicalTime → Type 0
ByConnections n federate_records j tag =
    (c : Connection) → Contains n.connections c → c.target ≡ j
    → IsTrue (is_before tag (sum_of (after_completed (federate_records c.source).completed) c.delay))

-- a federate that gets a TAG: it has announced, its next tag isn't granted yet and isn't later than stop, and is safe.
-- How far the TAG reaches, the rule says
pub record IsEligible (n : Network) (federate_records : ℕ → FederateRecord) (j : ℕ) : Type 0 where
  pub announced : IsTrue (federate_records j).announced
  pub not_granted : IsTrue (is_past (federate_records j).granted (federate_records j).next)
  pub in_time : IsTrue (is_at_most (federate_records j).next n.stop)
  pub safe : ByPaths n federate_records j (federate_records j).next
      ⊎ ByConnections n federate_records j (federate_records j).next

-- the test holds of all numbers below this one
abbrev pub all_below : ℕ → (ℕ → Bool) → Bool
all_below zero test = true
all_below (suc count) test = test count && all_below count test

-- the tag is before what arrives this delay after the next tag, if there is a path
abbrev pub is_before_arrival : LogicalTime → LogicalTime → Option LogicalTime → Bool
is_before_arrival tag next None = true
is_before_arrival tag next (Some delay) = is_before tag (sum_of next delay)

-- by the table: nothing arrives at or below the tag over any path
abbrev pub passes_paths : Network → Table → (ℕ → FederateRecord) → ℕ → LogicalTime → Bool
passes_paths n table federate_records j tag =
    all_below n.reactors (λ i. is_before_arrival tag (federate_records i).next (table i j))

-- over this connection, if it leads to the federate, nothing that comes after its sender's last LTC arrives at or below
-- the tag
abbrev pub passes_connection : (ℕ → FederateRecord) → ℕ → LogicalTime → Connection → Bool
passes_connection federate_records j tag c =
    if nat_eq c.target j then is_before tag
    (sum_of (after_completed (federate_records c.source).completed) c.delay) else true

-- by the LTCs: nothing arrives at or below the tag over any direct connection
abbrev pub passes_connections : Network → (ℕ → FederateRecord) → ℕ → LogicalTime → Bool
passes_connections n federate_records j tag = list_all (passes_connection federate_records j tag) n.connections

-- a federate that gets a TAG, by the table
abbrev pub is_eligible : Network → Table → (ℕ → FederateRecord) → ℕ → Bool
is_eligible n table federate_records j =
    (federate_records j).announced && is_past (federate_records j).granted (federate_records j).next
    && is_at_most (federate_records j).next n.stop &&
    (passes_paths n table federate_records j (federate_records j).next
    || passes_connections n federate_records j (federate_records j).next)

-- each eligible federate gets its next tag. This rule is for laws and examples alone
abbrev pub grant_next : Network → Table → Rule
grant_next n table federate_records j =
    if is_eligible n table federate_records j then Some (federate_records j).next else None

-- the lesser of a tag and of what arrives this delay after the next tag, if there is a path
abbrev pub lesser_arrival : LogicalTime → Option LogicalTime → LogicalTime → LogicalTime
lesser_arrival next None other = other
lesser_arrival next (Some delay) other = lesser (sum_of next delay) other

-- the least arrival over any path, from the first `count` federates, or FOREVER where there is none
abbrev pub bound_by_paths : Table → (ℕ → FederateRecord) → ℕ → ℕ → LogicalTime
bound_by_paths table federate_records j zero = forever
bound_by_paths table federate_records j (suc count) =
    lesser_arrival (federate_records count).next (table count j) (bound_by_paths table federate_records j count)

-- the least arrival over direct connections, as far as LTCs tell, or FOREVER where there is none
abbrev pub bound_by_connections : (ℕ → FederateRecord) → ℕ → List Connection → LogicalTime
bound_by_connections federate_records j [] = forever
bound_by_connections federate_records j (c ∷ rest) =
    if nat_eq c.target j
    then lesser (sum_of (after_completed (federate_records c.source).completed) c.delay)
    (bound_by_connections federate_records j rest)
    else bound_by_connections federate_records j rest

-- before this tag nothing can still arrive
abbrev pub bound_of : Network → Table → (ℕ → FederateRecord) → ℕ → LogicalTime
bound_of n table federate_records j =
    greater (bound_by_paths table federate_records j n.reactors) (bound_by_connections federate_records j n.connections)

-- the rule of the coordinator: each eligible federate gets as much as is safe
abbrev pub grant_widest : Network → Table → Rule
grant_widest n table federate_records j =
    if is_eligible n table federate_records j
    then Some (lesser (predecessor_of (bound_of n table federate_records j)) n.stop) else None

-- a tag that may be granted: a finite one, later than the last TAG, up to stop, that nothing can arrive at or below any
-- more
pub record IsSafe (n : Network) (table : Table) (federate_records : ℕ → FederateRecord) (j : ℕ)
    (tag : LogicalTime) : Type 0 where
  pub finite : IsFinite tag
  pub later : IsTrue (is_past (federate_records j).granted tag)
  pub in_time : IsTrue (is_at_most tag n.stop)
  pub safe : IsTrue (passes_paths n table federate_records j tag || passes_connections n federate_records j tag)

-- a rule that grants such tags alone; to whom, and whether they announced, doesn't matter
abbrev pub IsSafeRule : Network → Table → Rule → Type 0
IsSafeRule n table rule =
    (federate_records : ℕ → FederateRecord) → ((i : ℕ) → IsLogicalTime (federate_records i).next)
    → (j : ℕ) (tag : LogicalTime) → rule federate_records j ≡ Some tag → IsSafe n table federate_records j tag

-- whether a tag may be granted, as a test
abbrev pub is_safe : Network → Table → (ℕ → FederateRecord) → ℕ → LogicalTime → Bool
is_safe n table federate_records j tag =
    (nat_lt tag.time (2 ^ 62) && nat_lt tag.microstep (2 ^ 32)) && is_past (federate_records j).granted tag
    && is_at_most tag n.stop &&
    (passes_paths n table federate_records j tag || passes_connections n federate_records j tag)

-- this tag, if it is safe
abbrev pub if_safe : Network → Table → (ℕ → FederateRecord) → ℕ → Option LogicalTime → Option LogicalTime
if_safe n table federate_records j None = None
if_safe n table federate_records j (Some tag) = if is_safe n table federate_records j tag then Some tag else None

-- a free choice: for each federate any tag, which it gets if that is safe. This rule is for laws alone
abbrev pub grant_chosen : Network → Table → (ℕ → Option LogicalTime) → Rule
grant_chosen n table choice federate_records j = if_safe n table federate_records j (choice j)
