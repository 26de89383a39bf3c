use Rattle.std.proofs.Common.{◌∙◌, ap, sym, arith}
use Rattle.network.specs.Undone.{put}
use Rattle.reactor_agenda.proofs.Putting.{put_more}
use Rattle.reactor_agenda.proofs.puts.put_in_time.Goals as goal

pub loop-event-preserved : goal.loop-event-preserved
loop-event-preserved c = record {
  put = c.in-Ok.ensures.put ∙ ap (put c.event-item.result) c.loop-event.invariant.put
      ∙ sym (put_more c.args.stop c.args.events.now c.loop-event.event-index c.event-item.result c.args.puts.now c.loop-event-test.true c.event-item.is
      (sym c.is_in_time.ensures ∙ c.if-not-is_in_time.false));
  undos = c.in-Ok.ensures.noted ∙ c.loop-event.invariant.undos;
  fit = λ old. c.in-Ok.ensures.fit c.args.stop (sym c.is_in_time.ensures ∙ c.if-not-is_in_time.false) (c.loop-event.invariant.fit old);
  room = omega arith;
}
