use Rattle.std.proofs.Common.{◌≡◌}
use Rattle.reactor_agenda.specs.Invariant.{held_in}
use Rattle.reactor_agenda.specs.Present.{set_entries, AreInPlace}
use Rattle.reactor_agenda.proofs.Putting.{Ordered}
use Rattle.reactor_agenda.proofs.Writing.{entries_at}
use Rattle.reactor_agenda.proofs.present.add_rest.Given as goal

abbrev pub invariant-loop-key : goal.invariant-loop-key
invariant-loop-key l = record {
  ordered : Ordered (held_in l.key-iterator);
  in_place : AreInPlace l.entries.items;
  entries : set_entries (entries_at l.tag (held_in l.key-iterator)) l.entries.items ≡
      set_entries (entries_at l.tag (held_in l.rest.entries)) l.initial.entries.items;
}
