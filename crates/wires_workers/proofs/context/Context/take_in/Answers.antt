use Rattle.wires_workers.proofs.SeveralEvents.{handed_in_then}
use Rattle.wires_workers.proofs.context.Context.take_in.Goals as goal

pub returns-after-not-is_idle-clause-handed_in : goal.returns-after-not-is_idle-clause-handed_in
returns-after-not-is_idle-clause-handed_in g c = handed_in_then c.args.share.now c.enter_all.new.share c.args.events.now c.enter_all.ensures c.follow-made.ensures.handed_in
