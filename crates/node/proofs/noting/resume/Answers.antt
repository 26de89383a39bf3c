use Rattle.std.proofs.Common.{◌≡◌, ◌-◌, arith, refl, length, take, drop}
use Rattle.node.proofs.Notes.{seen, same_end, hello_keeps, resumed}
use Rattle.node.proofs.noting.resume.Goals as goal

pub overflow_sub-gone : goal.overflow_sub-gone
overflow_sub-gone c =
    let e = c.at.result.now.image in
    let image = seen c.args.outbox.now.mail c.take_in-changed.new.outbox.mail c.args.peer c.args.frame.now e c.at-2.result.now.image c.at.ensures c.take_in-changed.ensures.received c.at-2.ensures in
    let keeps = hello_keeps e c.args.frame.now c.requires.hello (c.requires.ok e c.at.ensures) in
    grind (arith, image, keeps, c.unacked.ensures, c.len-2.ensures, c.in-Ok.ensures.frames)

pub returns-clause-reply : goal.returns-clause-reply
returns-clause-reply c e found =
    let image = seen c.args.outbox.now.mail c.take_in-changed.new.outbox.mail c.args.peer c.args.frame.now e c.at-2.result.now.image found c.take_in-changed.ensures.received c.at-2.ensures in
    let first = same_end c.args.outbox.now.mail c.args.peer c.at.result.now.image e c.at.ensures found in
    let len : c.len-2.result ≡ length c.in-Ok.kept.items = grind (arith, c.len-2.ensures) in
    let slice : c.deref.result.now ≡ c.in-Ok.kept.items = grind (arith, c.deref.ensures.value) in
    let sent = resumed e c.at.result.now.image c.at-2.result.now.image c.args.frame.now c.in-Ok.kept.items c.deref.result.now c.len-2.result c.unacked.result
    (take (length c.deref.result.now - (c.len-2.result - c.unacked.result)) (drop (c.len-2.result - c.unacked.result) c.deref.result.now))
    c.requires.hello (c.requires.ok e found) first image c.in-Ok.ensures.frames slice len c.unacked.ensures refl in
    rw (c.reply_with.ensures, c.address.ensures, sent, c.take_in-changed.ensures.changes e found) refl
