-- The connections by which a federate sends, and what goes out over them.
use Rattle.std.specs.Prelude.{ℕ, ◌+◌, ℤ, nat_eq, if◌then◌else◌, List, [], ◌∷◌, ◌++◌, Option}
use Rattle.std.specs.List.{flat_map}
use Rattle.tag.specs.LogicalTime.{LogicalTime}
use Rattle.network.specs.Connection.{Connection}
use Rattle.network.specs.Network.{Network}
use Rattle.signal.specs.declared.signal.Signal.{Signal}
use Rattle.protocol.specs.Federate.{message_over}
use Rattle.federate.specs.declared.outlet.Outlet.{Outlet}

-- a connection of this number, if it begins at the federate
abbrev pub outlet_if : ℕ → ℕ → Connection → List Outlet
outlet_if federate number c = if nat_eq c.source federate then record { number = number; connection = c } ∷ [] else []

-- the connections that begin at the federate; the first of them all has this number
abbrev pub outlets_from : ℕ → ℕ → List Connection → List Outlet
outlets_from federate number [] = []
outlets_from federate number (c ∷ rest) = outlet_if federate number c ++ outlets_from federate (number + 1) rest

-- the messages of a turn with these outputs
abbrev pub messages_by : Network → LogicalTime → (ℕ → Option ℤ) → List Outlet → List Signal
messages_by n tag outputs outlets =
    flat_map (λ o. message_over n tag o.number o.connection (outputs o.connection.port)) outlets
