use Rattle.std.proofs.Common.{◌≡◌, arith, Some, slice_get, set}
use Rattle.node.proofs.Ends.{found_at, images_same, images_get, reserved_then, reserved_here, lacks_here}
use Rattle.network.proofs.Items.{get_set_here}
use Rattle.node.proofs.outbox.reserve_end.Goals as goal

pub returns-then-is_closed-clause-memory : goal.returns-then-is_closed-clause-memory
returns-then-is_closed-clause-memory c e at closed =
    let found : slice_get c.args.ends.now.items c.args.peer ≡ Some c.in-Some.end.now = grind (arith, found_at, c.in-Some.ensures) in
    let here = get_set_here c.args.ends.now.items c.args.peer c.in-Some.end.now c.in-Some.end.now found in
    let image = images_get (set c.args.ends.now.items c.args.peer c.in-Some.end.now) c.args.peer in
    grind (arith, here, image, c.is_closed.ensures, c.if-is_closed.true)

pub returns-then-room_left-count-clause-answer : goal.returns-then-room_left-count-clause-answer
returns-then-room_left-count-clause-answer c _ =
    let found : slice_get c.args.ends.now.items c.args.peer ≡ Some c.in-Some.end.now = grind (arith, found_at, c.in-Some.ensures) in
    let lacking = lacks_here c.args.ends.now.items c.args.peer c.in-Some.end.now c.args.count found in
    grind (arith, lacking, c.is_closed.ensures, c.if-is_closed.false, c.room_left.ensures, c.if-room_left-count.true)

pub returns-then-is_err-clause-none_lost : goal.returns-then-is_err-clause-none_lost
returns-then-is_err-clause-none_lost c p =
    let found : slice_get c.args.ends.now.items c.args.peer ≡ Some c.in-Some.end.now = grind (arith, found_at, c.in-Some.ensures) in
    let less = reserved_then c.args.ends.now.items c.args.peer c.in-Some.end.now c.reserve.new.self 0 found (grind (arith, c.reserve.ensures.none_lost)) p in
    grind (arith, less)

pub returns-then-is_err-clause-images : goal.returns-then-is_err-clause-images
returns-then-is_err-clause-images c =
    let found : slice_get c.args.ends.now.items c.args.peer ≡ Some c.in-Some.end.now = grind (arith, found_at, c.in-Some.ensures) in
    images_same c.args.ends.now.items c.args.peer c.in-Some.end.now c.reserve.new.self found c.reserve.ensures.unchanged

pub returns-clause-answer : goal.returns-clause-answer
returns-clause-answer c _ =
    let found : slice_get c.args.ends.now.items c.args.peer ≡ Some c.in-Some.end.now = grind (arith, found_at, c.in-Some.ensures) in
    let lacking = lacks_here c.args.ends.now.items c.args.peer c.in-Some.end.now c.args.count found in
    grind (arith, lacking, c.is_closed.ensures, c.if-is_closed.false, c.room_left.ensures, c.if-room_left-count.false)

pub returns-clause-memory : goal.returns-clause-memory
returns-clause-memory c e at closed =
    let found : slice_get c.args.ends.now.items c.args.peer ≡ Some c.in-Some.end.now = grind (arith, found_at, c.in-Some.ensures) in
    let here = reserved_here c.args.ends.now.items c.args.peer c.in-Some.end.now c.reserve.new.self found in
    grind (arith, here, c.reserve.ensures.reserved, c.is_err.ensures, c.if-is_err.false)

pub returns-clause-none_lost : goal.returns-clause-none_lost
returns-clause-none_lost c p =
    let found : slice_get c.args.ends.now.items c.args.peer ≡ Some c.in-Some.end.now = grind (arith, found_at, c.in-Some.ensures) in
    let less = reserved_then c.args.ends.now.items c.args.peer c.in-Some.end.now c.reserve.new.self 0 found (grind (arith, c.reserve.ensures.none_lost)) p in
    grind (arith, less)

pub returns-clause-images : goal.returns-clause-images
returns-clause-images c =
    let found : slice_get c.args.ends.now.items c.args.peer ≡ Some c.in-Some.end.now = grind (arith, found_at, c.in-Some.ensures) in
    images_same c.args.ends.now.items c.args.peer c.in-Some.end.now c.reserve.new.self found c.reserve.ensures.unchanged
