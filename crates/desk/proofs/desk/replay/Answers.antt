use Rattle.std.proofs.Common.{◌<◌, ◌∙◌, length, refl, ap, arith}
use Rattle.node.specs.Step.{answer_in}
use Rattle.desk.proofs.Batches.{one_step}
use Rattle.desk.proofs.desk.replay.Goals as goal

pub loop-place-init : goal.loop-place-init
loop-place-init g c = refl

pub loop-place-preserved : goal.loop-place-preserved
loop-place-preserved g c =
    let step = ap (λ s. record { station = s; answer = answer_in c.in-Ok.reply }) c.reuse.ensures ∙ c.in-Ok.ensures.ended in
    let within : c.loop-place.place < length c.args.journal.now = omega (arith, c.loop-place-test.true, c.len-place-end.ensures) in
    one_step g.N.Node.core g.N.Node.HUB c.args.station.now c.loop-place.station c.reuse.new.self c.args.journal.now c.loop-place.place c.event-next.result c.in-Ok.reply
    within c.event-next.ensures c.loop-place.invariant step
