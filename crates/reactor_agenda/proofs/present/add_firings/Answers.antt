use Rattle.std.proofs.Common.{take}
use Rattle.reactor_agenda.specs.Invariant.{all_firings}
use Rattle.reactor_agenda.proofs.Writing.{entries_at, firings_more, in_place_by}
use Rattle.reactor_agenda.proofs.present.add_firings.Goals as goal

pub loop-timer-preserved : goal.loop-timer-preserved
loop-timer-preserved c =
    firings_more c.args.tag c.args.timers.now c.loop-timer.timer-index _ c.args.entries.now.items c.loop-timer.entries.items c.add_firing.new.entries.items
    c.loop-timer-test.true c.loop-timer.invariant c.in_ok-add_firing.ensures

pub add_firing-requires-clause-in_place : goal.add_firing-requires-clause-in_place
add_firing-requires-clause-in_place c =
    in_place_by (entries_at c.args.tag (all_firings (take c.loop-timer.timer-index c.args.timers.now))) c.args.entries.now.items c.loop-timer.entries.items
    c.loop-timer.invariant c.requires.in_place
