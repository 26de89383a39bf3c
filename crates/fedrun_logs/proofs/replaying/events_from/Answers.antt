use Rattle.std.proofs.Common.{◌<◌, length, arith}
use Rattle.fedrun_logs.proofs.Handed.{one_more}
use Rattle.fedrun_logs.proofs.replaying.events_from.Goals as goal

pub loop-next-preserved : goal.loop-next-preserved
loop-next-preserved c =
    let there : c.loop-next.next < length c.args.journal.now = omega arith in
    record {
      events = one_more c.loop-next.events.items c.push.new.self.items c.args.journal.now c.event.result c.args.place c.loop-next.next c.loop-next.invariant.events c.loop-next.invariant.begun there
          c.event.ensures c.in_ok-push.ensures.items;
      begun = omega arith;
    }
