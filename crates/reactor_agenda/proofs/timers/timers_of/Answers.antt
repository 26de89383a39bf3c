use Rattle.std.proofs.Common.{◌∙◌, sym, ap, ◌++◌, ◌∷◌, [], ◌+◌, take}
use Rattle.reactor_agenda.specs.Invariant.{timers_from}
use Rattle.reactor_agenda.proofs.TimerLists.{timers_more}
use Rattle.reactor_agenda.proofs.timers.timers_of.Goals as goal

pub loop-place-preserved : goal.loop-place-preserved
loop-place-preserved c =
    c.in_ok-push.ensures.items
    ∙ ap (λ ts. ts ++ record {
      slot = c.first_timer-first.result + c.loop-place.place;
      next = c.timer-item.result.offset;
      period = c.timer-item.result.period;
      left = c.firing_count.result;
    } ∷ []) c.loop-place.invariant
    ∙ ap (λ n. timers_from c.nanoseconds-stop.result c.first_timer-first.result (take c.loop-place.place c.args.slots.now.timers) ++ record {
      slot = c.first_timer-first.result + c.loop-place.place;
      next = c.timer-item.result.offset;
      period = c.timer-item.result.period;
      left = n;
    } ∷ []) c.firing_count.ensures
    ∙ sym (timers_more c.nanoseconds-stop.result c.first_timer-first.result c.args.slots.now.timers c.loop-place.place c.timer-item.result
    (rw (← c.as_slice-timer-items.ensures) c.loop-place-test.true) (rw (← c.as_slice-timer-items.ensures) c.timer-item.is))
