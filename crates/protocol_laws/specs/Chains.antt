-- Chains of what is pending: from an event on, over connections, hop by hop.
use Rattle.std.specs.Prelude.{◌≡◌, ℕ, ℤ, List, Contains, IsTrue, Some, slice_get}
use Rattle.tag.specs.LogicalTime.{LogicalTime, is_past}
use Rattle.network.specs.Connection.{Connection, IsWalk, then_along}
use Rattle.network.specs.Network.{Network}
use Rattle.signal.specs.declared.signal.Signal.TheVariants.{Msg}
use Rattle.network.specs.Undone.{PendingEvent}
use Rattle.protocol.specs.Grant.{Rule}
use Rattle.protocol.specs.Machine.{Member, Move, after_moves}

-- pending for reactor k at a tag: an event that is undone there, or a message for it on its way down to it, or up from
-- its sender
pub data IsPending (n : Network) (members : ℕ → Member) (k : ℕ) (tag : LogicalTime) : Type 0 where
  undone : (e : PendingEvent) → Contains (members k).federate.undone e → e.tag ≡ tag → IsPending n members k tag
  down : (number : ℕ) (value : ℤ) → Contains (members k).down (Msg number tag value) → IsPending n members k tag
  up : (i number : ℕ) (c : Connection) (value : ℤ) → Contains (members i).up (Msg number tag value)
      → slice_get n.connections number ≡ Some c → c.target ≡ k → IsPending n members k tag

-- no chain from what is pending leads to a tag at or below what its last federate has completed
abbrev pub CompletesNothingEarly : Network → (ℕ → Rule) → Type 0
CompletesNothingEarly n rules =
    (moves : List Move) (k j : ℕ) (tag : LogicalTime) (path : List Connection)
    → IsPending n (after_moves n rules moves) k tag → IsWalk n.connections k path j →
    IsTrue (is_past (after_moves n rules moves j).federate.completed (then_along tag path))
