use Rattle.std.proofs.Common.{◌≡◌, ℕ, ◌+◌, List, Vec, Global, length, drop, slice_get, Some}
use Rattle.std.specs.Vec.Iter.{into_iter_items, into_iter_len}
use Rattle.desk.specs.Replay.{Desk}
use Rattle.desk.specs.Shares.{Agree}
use Rattle.node_journal.specs.declared.slip.Slip.{Slip}
use Rattle.wires.proofs.nodes.desks_of.Given as goal

-- the desks of the federates so far agree with the shares of their own workers, and both lists have gone on by as many
abbrev pub invariant-loop-federate : goal.invariant-loop-federate
invariant-loop-federate g l = record {
  federates : length l.desks.items + into_iter_len l.federate-iterator.a ≡ length l.fn.federates.items;
  shares : length l.desks.items + into_iter_len l.federate-iterator.b ≡ length l.fn.shares.items;
  rest : into_iter_items l.federate-iterator.b ≡ drop (length l.desks.items) l.fn.shares.items;
  agree : (k : ℕ) (desk : Desk g.row.M.Denot) (own : Vec (List Slip) Global) → slice_get l.desks.items k ≡ Some desk →
      slice_get l.fn.shares.items k ≡ Some own → Agree desk.journal own.items;
}
