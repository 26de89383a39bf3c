use Rattle.std.proofs.Common.{◌≤◌, length, arith}
use Rattle.wires_workers.specs.HandedIn.{none}
use Rattle.wires_workers.proofs.SeveralEvents.{all_handed_in, next_listed}
use Rattle.wires_workers.proofs.context.Context.make_each.Goals as goal

pub loop-event-init : goal.loop-event-init
loop-event-init g c = none

pub loop-event-preserved : goal.loop-event-preserved
loop-event-preserved g c =
    next_listed c.args.share.now c.loop-event.share c.make_all-outcome.new.share c.args.events.now c.loop-event.event-index c.event-item.result c.loop-event-test.true c.event-item.is
    c.loop-event.invariant c.make_all-outcome.ensures

pub returns : goal.returns
returns g c =
    let done : length c.args.events.now ≤ c.loop-event.event-index = omega (arith, c.loop-event-test.false) in
    all_handed_in c.args.share.now c.loop-event.share c.args.events.now c.loop-event.event-index done c.loop-event.invariant
