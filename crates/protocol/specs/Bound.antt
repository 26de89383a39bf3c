-- Before which tag nothing can still arrive at a federate, and how far it may be granted.
use Rattle.std.specs.Prelude.{◌≡◌, ℕ, ◌⊎◌, Contains, IsTrue}
use Rattle.tag.specs.LogicalTime.{LogicalTime, forever, is_before, is_at_most, sum_of, predecessor_of, lesser, greater}
use Rattle.tag.specs.LogicalTime.{is_past}
use Rattle.network.specs.Connection.{Connection, IsLeastDelay}
use Rattle.network.specs.Network.{Network}
use Rattle.protocol.specs.FederateRecord.{FederateRecord}
use Rattle.protocol.specs.Grant.{after_completed}

-- what a federate i does from its next tag on arrives at j not before this, over a path with this least delay
pub record IsArrivalByPath (n : Network) (federate_records : ℕ → FederateRecord) (j : ℕ)
    (tag : LogicalTime) : Type 0 where
  pub from : ℕ
  pub delay : LogicalTime
  pub least : IsLeastDelay n.connections from j delay
  pub arrives : tag ≡ sum_of (federate_records from).next delay

-- what comes after the last LTC of a federate with a direct connection to j arrives there not before this
pub record IsArrivalByConnection (n : Network) (federate_records : ℕ → FederateRecord) (j : ℕ)
    (tag : LogicalTime) : Type 0 where
  pub connection : Connection
  pub there : Contains n.connections connection
  pub target : connection.target ≡ j
  pub arrives : tag ≡ sum_of (after_completed (federate_records connection.source).completed) connection.delay

-- the least of these, or FOREVER where there are none
pub record IsFirst (IsArrival : LogicalTime → Type 0) (bound : LogicalTime) : Type 0 where
  pub least : (tag : LogicalTime) → IsArrival tag → IsTrue (is_at_most bound tag)
  pub attained : (bound ≡ forever) ⊎ IsArrival bound

-- before the bound nothing can still arrive at j: the first arrival over all paths, or that over direct connections,
-- whichever is later
pub record IsBound (n : Network) (federate_records : ℕ → FederateRecord) (j : ℕ) (bound : LogicalTime) : Type 0 where
  pub by_paths : LogicalTime
  pub by_connections : LogicalTime
  pub first_by_paths : IsFirst (IsArrivalByPath n federate_records j) by_paths
  pub first_by_connections : IsFirst (IsArrivalByConnection n federate_records j) by_connections
  pub later : bound ≡ greater by_paths by_connections

-- the greatest tag that may be granted to j: the last one before the bound, and not later than stop
pub record IsWidest (n : Network) (federate_records : ℕ → FederateRecord) (j : ℕ) (tag : LogicalTime) : Type 0 where
  pub bound : LogicalTime
  pub is_bound : IsBound n federate_records j bound
  pub last : tag ≡ lesser (predecessor_of bound) n.stop

-- federate j is eligible by this bound: it is as `IsEligible` says, but that its next tag is before the bound stands in
-- place of `safe`
pub record IsWithin (n : Network) (federate_records : ℕ → FederateRecord) (j : ℕ) (bound : LogicalTime) : Type 0 where
  pub announced : IsTrue (federate_records j).announced
  pub not_granted : IsTrue (is_past (federate_records j).granted (federate_records j).next)
  pub in_time : IsTrue (is_at_most (federate_records j).next n.stop)
  pub before : IsTrue (is_before (federate_records j).next bound)
