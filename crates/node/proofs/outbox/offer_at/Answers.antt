use Rattle.std.proofs.Common.{◌≡◌, arith, Ok, Some, slice_get}
use Rattle.link.specs.Image.{offer_of}
use Rattle.node.proofs.Ends.{found_at, posted_frame, posted_nothing, no_offer, reserved_then}
use Rattle.node.proofs.outbox.offer_at.Goals as goal

pub returns-in-Ok-clause-posted : goal.returns-in-Ok-clause-posted
returns-in-Ok-clause-posted c frames =
    let found : slice_get c.args.ends.now.items c.args.peer ≡ Some c.in_ok-get_mut.field-0.now = grind (arith, found_at, c.in_ok-get_mut.ensures) in
    let offered : offer_of c.in_ok-get_mut.field-0.now.image c.args.signal ≡ Ok c.in-Ok.frame = grind (arith, c.in-Ok.ensures.answer) in
    posted_frame c.args.ends.now.items c.args.peer c.in_ok-get_mut.field-0.now c.offer.new.self c.args.signal c.in-Ok.frame frames found offered c.in-Ok.ensures.offered

pub returns-in-Ok-clause-one_used : goal.returns-in-Ok-clause-one_used
returns-in-Ok-clause-one_used c p =
    let found : slice_get c.args.ends.now.items c.args.peer ≡ Some c.in_ok-get_mut.field-0.now = grind (arith, found_at, c.in_ok-get_mut.ensures) in
    reserved_then c.args.ends.now.items c.args.peer c.in_ok-get_mut.field-0.now c.offer.new.self 1 found c.in-Ok.ensures.one_used p

pub returns-in-Err-clause-posted : goal.returns-in-Err-clause-posted
returns-in-Err-clause-posted c frames =
    let found : slice_get c.args.ends.now.items c.args.peer ≡ Some c.in_ok-get_mut.field-0.now = grind (arith, found_at, c.in_ok-get_mut.ensures) in
    let refuses = no_offer c.in_ok-get_mut.field-0.now c.args.signal c.offer.result c.in-Err.field-0 c.in-Err.is (c.requires c.in_ok-get_mut.field-0.now found) c.offer.ensures.from_reserve c.offer.ensures.answer in
    posted_nothing c.args.ends.now.items c.args.peer c.in_ok-get_mut.field-0.now c.offer.new.self c.args.signal frames found refuses c.in-Err.ensures.refused

pub returns-in-Err-clause-one_used : goal.returns-in-Err-clause-one_used
returns-in-Err-clause-one_used c p =
    let found : slice_get c.args.ends.now.items c.args.peer ≡ Some c.in_ok-get_mut.field-0.now = grind (arith, found_at, c.in_ok-get_mut.ensures) in
    reserved_then c.args.ends.now.items c.args.peer c.in_ok-get_mut.field-0.now c.offer.new.self 1 found (grind (arith, c.in-Err.ensures.none_lost)) p
