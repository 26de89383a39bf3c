use Rattle.std.proofs.Common.{◌≡◌, arith, Some, slice_get}
use Rattle.node.proofs.Ends.{found_at, images_get, images_set}
use Rattle.node.proofs.outbox.close_at.Goals as goal

pub returns-in-Some : goal.returns-in-Some
returns-in-Some c e at =
    let found : slice_get c.args.ends.now.items c.args.peer ≡ Some c.in-Some.end.now = grind (arith, found_at, c.in-Some.ensures) in
    let here = images_get c.args.ends.now.items c.args.peer in
    let changed = images_set c.args.ends.now.items c.args.peer c.close.new.self in
    grind (arith, found, here, changed, at, c.close.ensures.closed)
