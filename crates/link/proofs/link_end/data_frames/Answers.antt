use Rattle.std.proofs.Common.{◌+◌, arith}
use Rattle.std.proofs.lemmas.Iterator.Consumers.{YieldsList-from_deque, YieldsList-turn}
use Rattle.std.proofs.lemmas.List.{length_push}
use Rattle.signal.proofs.Numbered.{numbered-push}
use Rattle.link.proofs.link_end.data_frames.Goals as goal

pub overflow_add-number : goal.overflow_add-number
overflow_add-number c =
    let t = YieldsList-turn (YieldsList-from_deque c.args.kept.now.items cc) c.loop-signal.yielded _ c.loop-signal.yielded_by _ _ c.in-Some.signal c.in-Some.is c.next.ensures.steps in
    omega (arith, t.0)

pub push_reserved-requires : goal.push_reserved-requires
push_reserved-requires c =
    let t = YieldsList-turn (YieldsList-from_deque c.args.kept.now.items cc) c.loop-signal.yielded _ c.loop-signal.yielded_by _ _ c.in-Some.signal c.in-Some.is c.next.ensures.steps in
    omega (arith, t.0)

pub loop-signal-preserved : goal.loop-signal-preserved
loop-signal-preserved c =
    let p = numbered-push (λ s. s.now) c.args.incarnation (c.args.before + 1) c.loop-signal.yielded c.in-Some.signal (c.loop-signal.number + 1) (omega arith) in
    let n = length_push c.loop-signal.yielded c.in-Some.signal in
    record {
      counted = omega arith;
      frames = cc (c.push_reserved.ensures.items, c.loop-signal.invariant.frames, p);
      filled = omega arith;
      places = omega arith;
    }
