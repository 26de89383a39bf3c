use Rattle.std.proofs.Common.{◌∙◌, refl, ap}
use Rattle.node.specs.Step.{answer_in}
use Rattle.desk.specs.Replies.{none}
use Rattle.desk.proofs.Batches.{one_step, one_answer, is_added}
use Rattle.desk.proofs.desk.step_all.Goals as goal

pub loop-place-init : goal.loop-place-init
loop-place-init g c = record { station = refl; replies = none }

pub loop-place-preserved : goal.loop-place-preserved
loop-place-preserved g c =
    let step = ap (λ s. record { station = s; answer = answer_in c.in-Ok.reply }) c.reuse.ensures ∙ c.in-Ok.ensures.ended in
    let added = is_added c.in-Ok.reply c.loop-place.replies c.add.new.self c.add.result c.add.ensures.has_done c.add.ensures.history c.add.ensures.frames c.add.ensures.unchanged in
    record {
      station = one_step g.N.Node.core g.N.Node.HUB c.args.station.now c.loop-place.station c.reuse.new.self c.args.events.now c.loop-place.place c.index-events-place.result c.in-Ok.reply
          c.loop-place-test.true c.index-events-place.is c.loop-place.invariant.station step;
      replies = one_answer g.N.Node.core g.N.Node.HUB c.args.station.now c.loop-place.station c.reuse.new.self c.args.events.now c.loop-place.place c.index-events-place.result c.in-Ok.reply
          c.loop-place-test.true c.index-events-place.is c.loop-place.invariant.station step c.args.replies.now c.loop-place.replies c.add.new.self c.loop-place.invariant.replies added;
    }
