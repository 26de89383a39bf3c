use Rattle.std.proofs.Common.{◌≡◌, Err, rules}
use Rattle.fedrun_frames.proofs.Telling.{shows_next, shows_stopped}
use Rattle.fedrun_frames.proofs.showing.show_steps.Goals as goal

pub returns-in_err-show : goal.returns-in_err-show
returns-in_err-show g c =
    let fault = c.in_err-show.field-0.0 in
    let failed : c.from_residual.result ≡ Err fault = search rules in
    shows_stopped c.from_residual.result fault c.args.plan.now c.args.made.now c.loop-one.one-index c.args.world.now c.loop-one.world
    (g.W.Write.contents c.args.out.now) (g.W.Write.contents c.loop-one.out) (g.W.Write.contents c.show.new.out) failed c.loop-one.invariant
    c.in_err-show.ensures.stopped

pub loop-one-preserved : goal.loop-one-preserved
loop-one-preserved g c =
    shows_next c.args.plan.now c.args.made.now c.loop-one.one-index c.one-item.result c.one-item.result c.args.world.now c.loop-one.world c.show.new.world
    (g.W.Write.contents c.args.out.now) (g.W.Write.contents c.loop-one.out) (g.W.Write.contents c.show.new.out) c.loop-one-test.true c.one-item.is
    c.loop-one.invariant c.in_ok-show.ensures.stepped c.in_ok-show.ensures.written
