use Rattle.std.proofs.Common.{◌≡◌, ◌+◌, ◌≤◌, length, take}
use Rattle.std.specs.Vec.{vec_len, vec_capacity}
use Rattle.network.specs.Undone.{put_all}
use Rattle.reactor_agenda.specs.Agenda.{in_time}
use Rattle.reactor_agenda.specs.Invariant.{undo_all, IsFit}
use Rattle.std.specs.List.{AllByRecursion}
use Rattle.reactor_agenda.proofs.puts.put_in_time.Given as goal

abbrev pub invariant-loop-event : goal.invariant-loop-event
invariant-loop-event l = record {
  put : l.puts ≡ put_all (in_time l.stop (take l.event-index l.events)) l.initial.puts;
  undos : undo_all l.undos.items l.puts ≡ l.initial.puts;
  fit : AllByRecursion (IsFit l.stop) l.initial.puts → AllByRecursion (IsFit l.stop) l.puts;
  room : vec_len l.undos + length l.events ≤ vec_capacity l.undos + l.event-index;
}
