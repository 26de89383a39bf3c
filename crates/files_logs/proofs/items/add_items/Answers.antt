use Rattle.std.proofs.Common.{◌++◌}
use Rattle.files_logs.proofs.Found.{one_added}
use Rattle.files_logs.proofs.items.add_items.Goals as goal

pub loop-rest-preserved : goal.loop-rest-preserved
loop-rest-preserved c =
    one_added c.args.said.now (c.args.journal.now ++ c.args.gathered.now.items) (c.loop-rest.journal ++ c.loop-rest.gathered.items) (c.add_item.new.journal ++ c.add_item.new.gathered.items) c.loop-rest.told c.in_ok-now.now c.either-told.result c.loop-rest.rest.now c.in-Ok.taken.1.now c.in-Ok.taken.0
    c.in-Ok.ensures.taken c.in_ok-now.ensures.events c.in_ok-now.ensures.told c.either-told.ensures c.loop-rest.invariant
