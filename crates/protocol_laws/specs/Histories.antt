-- What the federates of the machine have run so far, and how far that is settled.
use Rattle.std.specs.Prelude.{ℕ, List, IsTrue}
use Rattle.tag.specs.LogicalTime.{LogicalTime, is_before}
use Rattle.network.specs.Connection.{Connection, IsWalk, then_along}
use Rattle.network.specs.Network.{Network}
use Rattle.network_laws.specs.History.{Turn, history_of}
use Rattle.network_laws.specs.Consistent.{IsConsistent}
use Rattle.protocol.specs.Grant.{Rule}
use Rattle.protocol.specs.Machine.{Member, Move, after_moves}
use Rattle.protocol_laws.specs.Chains.{IsPending}

-- the turns that each federate took, lost ones included
abbrev pub histories_of : (ℕ → Member) → ℕ → List Turn
histories_of members j = history_of (members j).federate.rows

-- no chain from what is pending leads to this federate at or before the tag
abbrev pub IsSettled : Network → (ℕ → Member) → ℕ → LogicalTime → Type 0
IsSettled n members j tag =
    (k : ℕ) (s : LogicalTime) (path : List Connection) → IsPending n members k s → IsWalk n.connections k path j
    → IsTrue (is_before tag (then_along s path))

-- after any moves the histories are consistent
abbrev pub StaysConsistent : Network → (ℕ → Rule) → Type 0
StaysConsistent n rules =
    (moves : List Move) → IsConsistent n (histories_of (after_moves n rules moves))
    (IsSettled n (after_moves n rules moves))
