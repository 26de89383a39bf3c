use Rattle.std.proofs.Common.{◌+◌, refl, arith}
use Rattle.wires_workers.specs.HandedIn.{none}
use Rattle.wires_workers.proofs.SeveralTurns.{one_more_turn, more_turns}
use Rattle.wires_workers.proofs.session.Session.make_turns.Goals as goal

pub loop-made-init : goal.loop-made-init
loop-made-init g c =
    (one_more_turn 0 none c.turn_is_idle-is_idle.ensures.1 c.turn_is_idle-is_idle.ensures.2, omega arith, λ some. omega (arith, some))

pub loop-made-preserved : goal.loop-made-preserved
loop-made-preserved g c =
    let more = c.more_turns-more.ensures in (
      more_turns c.args.share.now c.loop-made.share c.more_turns-more.new.share c.loop-made.made c.more_turns-more.result.made (c.loop-made.made + c.more_turns-more.result.made) c.loop-made.invariant.0 more.handed_in refl,
      omega (arith, more.one, c.loop-made.invariant.1),
      λ some. omega (arith, some, more.most, c.loop-made-test.true, c.min.ensures),
    )
