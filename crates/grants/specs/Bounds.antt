-- Arrivals along a list of routes.
use Rattle.std.specs.Prelude.{ℕ, List}
use Rattle.std.specs.List.{fold}
use Rattle.tag.specs.LogicalTime.{LogicalTime, forever, lesser, sum_of}
use Rattle.network.specs.Connection.{Connection}
use Rattle.protocol.specs.FederateRecord.{FederateRecord}
use Rattle.protocol.specs.Grant.{after_completed}
use Rattle.grants.specs.declared.routes.Upstream.{Upstream}

-- the first arrival from these federates' next tags on, or FOREVER where there are none
abbrev pub first_upstream : (ℕ → FederateRecord) → List Upstream → LogicalTime
first_upstream federate_records upstream =
    fold (λ first u. lesser (sum_of (federate_records u.federate).next u.delay) first) forever upstream

-- the first arrival over these connections after their senders' last LTCs, or FOREVER where there are none
abbrev pub first_incoming : (ℕ → FederateRecord) → List Connection → LogicalTime
first_incoming federate_records incoming =
    fold (λ first c. lesser (sum_of (after_completed (federate_records c.source).completed) c.delay) first)
    forever incoming
