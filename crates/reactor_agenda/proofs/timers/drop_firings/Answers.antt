use Rattle.std.proofs.Common.{arith, length-set}
use Rattle.reactor_agenda.proofs.TimerLists.{dropped_more, rest_stays, timers_set}
use Rattle.reactor_agenda.proofs.timers.drop_firings.Goals as goal

pub loop-place-preserved : goal.loop-place-preserved
loop-place-preserved c = record {
  timers = timers_set c.loop-place.timers c.loop-place.place c.later_than.result c.loop-place.invariant.timers c.later_than.ensures.timer;
  len = simp length-set c.loop-place.invariant.len;
  rest = rest_stays c.loop-place.timers c.args.timers.now c.loop-place.place c.later_than.result (omega arith) c.loop-place.invariant.len c.loop-place.invariant.rest;
  done = dropped_more c.args.tag c.loop-place.timers c.args.timers.now c.loop-place.place c.later_than.result _ (omega arith) c.loop-place.invariant.len
      c.later_than.ensures.firings c.loop-place.invariant.rest c.loop-place.invariant.done;
}
