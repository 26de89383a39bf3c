-- Whom a federate hears from, and whom it reaches.
use Rattle.std.specs.Prelude.{ℕ, zero, suc, Bool, false, ◌&&◌, ◌||◌, nat_eq, if◌then◌else◌, List, [], ◌∷◌, ◌++◌, filter}
use Rattle.std.specs.Prelude.{Option, None, Some}
use Rattle.tag.specs.LogicalTime.{LogicalTime}
use Rattle.network.specs.Connection.{Connection}
use Rattle.network.specs.Tables.{Table}
use Rattle.grants.specs.declared.routes.Upstream.{Upstream}
use Rattle.grants.specs.Wiring.{Wiring, least_by}
use Rattle.grants.specs.Looks.{has_path}

-- a federate from which a path leads here, if one does
abbrev pub upstream_at : ℕ → Option LogicalTime → List Upstream
upstream_at i None = []
upstream_at i (Some delay) = record { federate = i; delay = delay } ∷ []

-- of the first `count` federates those from which a path leads to j, with the least delays
abbrev pub upstream_of : Table → ℕ → ℕ → List Upstream
upstream_of table j zero = []
upstream_of table j (suc count) = upstream_of table j count ++ upstream_at count (table count j)

-- the connections that end at j
abbrev pub incoming_of : List Connection → ℕ → List Connection
incoming_of connections j = filter (λ c. nat_eq c.target j) connections

-- of the first `count` numbers those that pass a test
abbrev pub listed_below : ℕ → (ℕ → Bool) → List ℕ
listed_below zero test = []
listed_below (suc count) test = listed_below count test ++ (if test count then count ∷ [] else [])

-- a change of federate i's next tag may make it eligible, or a federate to which a path leads from it
abbrev pub may_change : Wiring → ℕ → ℕ → Bool
may_change w i j = nat_eq j i || has_path w i j

-- those federates
abbrev pub affected_by : Wiring → ℕ → List ℕ
affected_by w i = listed_below w.federates (may_change w i)

-- one of these connections leads from i to j
abbrev pub leads : List Connection → ℕ → ℕ → Bool
leads [] i j = false
leads (c ∷ rest) i j = (nat_eq c.source i && nat_eq c.target j) || leads rest i j

-- the connections that begin at i
abbrev pub outgoing_of : List Connection → ℕ → List Connection
outgoing_of connections i = filter (λ c. nat_eq c.source i) connections

-- the federates to which a connection leads from i: what i completed bears on whether they are eligible, and on nobody
-- else
abbrev pub connected_to : Wiring → ℕ → List ℕ
connected_to w i = listed_below w.federates (leads w.connections i)

-- one federate's routes
pub record Routed : Type 0 where
  pub upstream : List Upstream
  pub incoming : List Connection
  pub targets : List ℕ
  pub affected : List ℕ

abbrev pub routed : Wiring → ℕ → Routed
routed w j =
    record {
      upstream = upstream_of (least_by w) j w.federates;
      incoming = incoming_of w.connections j;
      targets = connected_to w j;
      affected = affected_by w j;
    }

-- those of the first `count` federates
abbrev pub routed_below : Wiring → ℕ → List Routed
routed_below w zero = []
routed_below w (suc count) = routed_below w count ++ routed w count ∷ []
