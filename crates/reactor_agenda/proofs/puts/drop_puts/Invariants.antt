use Rattle.std.proofs.Common.{◌≡◌, length}
use Rattle.network.specs.Undone.{drop_up_to}
use Rattle.reactor_agenda.proofs.puts.drop_puts.Given as goal

abbrev pub invariant-loop-tag : goal.invariant-loop-tag
invariant-loop-tag l = drop_up_to l.tag l.puts ≡ drop_up_to l.tag l.initial.puts

abbrev pub decreases-loop-tag : goal.decreases-loop-tag
decreases-loop-tag l = length l.puts
