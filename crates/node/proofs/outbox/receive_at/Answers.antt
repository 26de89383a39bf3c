use Rattle.std.proofs.Common.{◌≡◌, arith, refl, Some, slice_get}
use Rattle.node.proofs.Ends.{found_at, images_get, images_set}
use Rattle.node.proofs.outbox.receive_at.Goals as goal

pub returns-in-Some : goal.returns-in-Some
returns-in-Some c =
    let found : slice_get c.args.ends.now.items c.args.peer ≡ Some c.in-Some.end.now = grind (arith, found_at, c.in-Some.ensures) in
    rw (images_set c.args.ends.now.items c.args.peer c.receive.new.self, images_get c.args.ends.now.items c.args.peer, found, c.receive.ensures.received) refl
