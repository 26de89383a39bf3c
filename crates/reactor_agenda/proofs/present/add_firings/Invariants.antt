use Rattle.std.proofs.Common.{◌≡◌, take}
use Rattle.reactor_agenda.specs.Invariant.{all_firings}
use Rattle.reactor_agenda.specs.Present.{set_entries}
use Rattle.reactor_agenda.proofs.Writing.{entries_at}
use Rattle.reactor_agenda.proofs.present.add_firings.Given as goal

abbrev pub invariant-loop-timer : goal.invariant-loop-timer
invariant-loop-timer l = l.entries.items ≡ set_entries (entries_at l.tag (all_firings (take l.timer-index l.timers))) l.initial.entries.items
