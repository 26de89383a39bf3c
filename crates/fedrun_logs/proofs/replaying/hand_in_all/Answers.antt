use Rattle.node_journal.specs.Numbered.{events_of}
use Rattle.fedrun_logs.proofs.Handed.{part_in, within}
use Rattle.fedrun_logs.proofs.replaying.hand_in_all.Goals as goal

pub loop-place-preserved : goal.loop-place-preserved
loop-place-preserved g c =
    record {
      events = part_in (events_of c.args.share.now) (events_of c.loop-place.share) (events_of c.hand_in.new.share) c.args.journal.now c.in_ok-events.events c.events-in-loop-place.result.now c.loop-place.place
          c.loop-place.invariant.events c.in_ok-hand_in.ensures c.in_ok-events.ensures.events c.events-in-loop-place.ensures;
      within = within c.args.journal.now c.in_ok-events.events c.events-in-loop-place.result.now c.loop-place.place c.in_ok-events.ensures.events c.events-in-loop-place.ensures c.loop-place.invariant.within;
    }
