use Rattle.std.proofs.Common.{◌≡◌, length}
use Rattle.reactor_agenda.specs.Invariant.{undo_all}
use Rattle.reactor_agenda.proofs.puts.undo_each.Given as goal

abbrev pub invariant-loop-undo : goal.invariant-loop-undo
invariant-loop-undo l = undo_all l.undos.items l.puts ≡ undo_all l.initial.undos.items l.initial.puts

abbrev pub decreases-loop-undo : goal.decreases-loop-undo
decreases-loop-undo l = length l.undos.items
