use Rattle.std.proofs.Common.{◌≡◌, Err, rules}
use Rattle.world.specs.World.{stations_of}
use Rattle.fedrun_trace.specs.Steps.{steps_text}
use Rattle.fedrun_trace.proofs.Following.{traces_none, traces_next, traces_stopped, traces_all}
use Rattle.fedrun_trace.proofs.tracing.trace_each.Goals as goal

pub loop-place-init : goal.loop-place-init
loop-place-init g c = traces_none c.args.plan.now c.args.made.now c.args.world.now (g.W.Write.contents c.args.out.now) c.requires

pub returns-in_err-trace_step : goal.returns-in_err-trace_step
returns-in_err-trace_step g c =
    let fault = c.in_err-trace_step.field-0.0 in
    let failed : c.from_residual.result ≡ Err fault = search rules in
    traces_stopped c.from_residual.result fault c.args.plan.now c.args.made.now c.loop-place.place
    (steps_text c.args.plan.now c.args.made.now 1 (stations_of c.args.world.now) c.args.made.now) c.loop-place.world
    (g.W.Write.contents c.args.out.now) (g.W.Write.contents c.loop-place.out) (g.W.Write.contents c.trace_step.new.out) failed c.loop-place.invariant
    c.in_err-trace_step.ensures.stopped

pub loop-place-preserved : goal.loop-place-preserved
loop-place-preserved g c =
    traces_next c.args.plan.now c.args.made.now c.loop-place.place c.index-made-place.result
    (steps_text c.args.plan.now c.args.made.now 1 (stations_of c.args.world.now) c.args.made.now) c.loop-place.world c.trace_step.new.world
    (g.W.Write.contents c.args.out.now) (g.W.Write.contents c.loop-place.out) (g.W.Write.contents c.trace_step.new.out) c.loop-place-test.true c.index-made-place.is
    c.loop-place.invariant c.in_ok-trace_step.ensures.stepped c.in_ok-trace_step.ensures.written

pub returns : goal.returns
returns g c =
    traces_all c.args.plan.now c.args.made.now c.loop-place.place
    (steps_text c.args.plan.now c.args.made.now 1 (stations_of c.args.world.now) c.args.made.now) c.loop-place.world
    (g.W.Write.contents c.args.out.now) (g.W.Write.contents c.loop-place.out) c.loop-place-test.false c.loop-place.invariant
