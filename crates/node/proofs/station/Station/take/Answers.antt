use Rattle.std.proofs.Common.{◌≡◌, ◌≢◌, arith, sym, ◌∙◌, Err}
use Rattle.node.specs.declared.fault.NodeFault.TheVariants as fault
use Rattle.node.proofs.Calls.{take_ok, take_refused, receivable}
use Rattle.node.proofs.station.Station.take.Goals as goal

pub receive-requires : goal.receive-requires
receive-requires g c x found =
    let unless : c.accept.result ≢ Err fault.Memory = grind (arith, c.in-Ok.is) in
    receivable c.args.self.now c.self.inside.node c.self.inside.outbox.mail c.accept.new.self c.begin.new.self.mail c.accept.new.outbox.mail c.args.frame.now
    c.args.peer c.args.incarnation c.args.number c.args.signal x c.accept.result (g.N.Node.core.accept c.self.inside.node c.args.peer c.args.signal)
    c.self.view_is c.requires.in_turn c.in_ok-begin.ensures.begun (c.accept.ensures.call unless) c.requires.data found

pub returns-in-Ok-clause-ended : goal.returns-in-Ok-clause-ended
returns-in-Ok-clause-ended g c e found =
    let unless : c.accept.result ≢ Err fault.Memory = grind (arith, c.in-Ok.is) in
    take_ok c.args.self.now c.self.inside.node c.self.inside.outbox.mail c.accept.new.self c.begin.new.self.mail c.accept.new.outbox.mail
    c.receive.new.self.mail c.take_frames.new.self.mail c.take_frames.result.items c.args.frame.now
    c.args.peer c.args.incarnation c.args.number c.args.signal e c.accept.result c.in-Ok.field-0 (λ v. g.N.Node.core.accept v c.args.peer c.args.signal)
    c.self.view_is c.self.invariant (c.requires.in_turn e found) c.in_ok-begin.ensures.begun (c.accept.ensures.call unless) c.in-Ok.is c.requires.data
    c.receive.ensures c.take_frames.ensures.taken c.take_frames.ensures.left

pub returns-in-Err-Refused-clause-ended : goal.returns-in-Err-Refused-clause-ended
returns-in-Err-Refused-clause-ended g c e found =
    let err : c.accept.result ≡ Err (fault.Refused c.in-Err-Refused.refusal) = grind (arith, c.in-Err-Refused.is, c.in-Err-Refused.field-0-is, c.in-Err-Refused.refusal-is) in
    let unless : c.accept.result ≢ Err fault.Memory = grind (arith, err) in
    take_refused c.args.self.now c.self.inside.node c.self.inside.outbox.mail c.accept.new.self c.begin.new.self.mail c.accept.new.outbox.mail
    c.close.new.self.mail c.replace_first.new.self.mail c.take_frames-in-Err-Refused.new.self.mail c.take_frames-in-Err-Refused.result.items
    c.args.peer c.args.incarnation c.args.number c.number-refusal.result c.args.signal e c.accept.result c.in-Err-Refused.refusal (λ v. g.N.Node.core.accept v c.args.peer c.args.signal)
    c.self.view_is c.self.invariant (c.requires.in_turn e found) found c.in_ok-begin.ensures.begun (c.accept.ensures.call unless) err
    (sym c.closes.ensures ∙ c.if-closes.true) c.number-refusal.ensures c.close.ensures.frames c.close.ensures.ends c.replace_first.ensures
    c.take_frames-in-Err-Refused.ensures.taken c.take_frames-in-Err-Refused.ensures.left
