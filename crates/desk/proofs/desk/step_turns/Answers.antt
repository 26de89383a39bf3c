use Rattle.std.proofs.Common.{◌+◌, ◌∙◌, refl, ap}
use Rattle.node.specs.Step.{answer_in}
use Rattle.desk.specs.Replies.{none}
use Rattle.desk.proofs.Batches.{one_turn_step, one_turn_answer, is_added}
use Rattle.desk.proofs.desk.step_turns.Goals as goal

pub loop-number-init : goal.loop-number-init
loop-number-init g c = record { station = refl; replies = none }

pub loop-number-preserved : goal.loop-number-preserved
loop-number-preserved g c =
    let n = c.loop-number.number in
    let core = g.N.Node.core in
    let flag = g.N.Node.HUB in
    let step = ap (λ s. record { station = s; answer = answer_in c.in-Ok.reply }) c.reuse.ensures ∙ c.in-Ok.ensures.ended in
    let added = is_added c.in-Ok.reply c.loop-number.replies c.add.new.self c.add.result c.add.ensures.has_done c.add.ensures.history c.add.ensures.frames c.add.ensures.unchanged in
    record {
      station = one_turn_step core flag c.args.station.now c.loop-number.station c.reuse.new.self n (n + 1) c.turn_event.result c.in-Ok.reply
          refl c.turn_event.ensures c.loop-number.invariant.station step;
      replies = one_turn_answer core flag c.args.station.now c.loop-number.station c.reuse.new.self n (n + 1) c.turn_event.result c.in-Ok.reply
          refl c.turn_event.ensures c.loop-number.invariant.station step c.args.replies.now c.loop-number.replies c.add.new.self c.loop-number.invariant.replies added;
    }

-- the last turn did nothing
pub returns-then-not-has_done-clause-station : goal.returns-then-not-has_done-clause-station
returns-then-not-has_done-clause-station g c =
    let n = c.loop-number.number in
    let step = ap (λ s. record { station = s; answer = answer_in c.in-Ok.reply }) c.reuse.ensures ∙ c.in-Ok.ensures.ended in
    one_turn_step g.N.Node.core g.N.Node.HUB c.args.station.now c.loop-number.station c.reuse.new.self n (n + 1) c.turn_event.result c.in-Ok.reply
    refl c.turn_event.ensures c.loop-number.invariant.station step

pub returns-then-not-has_done-clause-replies : goal.returns-then-not-has_done-clause-replies
returns-then-not-has_done-clause-replies g c =
    let n = c.loop-number.number in
    let step = ap (λ s. record { station = s; answer = answer_in c.in-Ok.reply }) c.reuse.ensures ∙ c.in-Ok.ensures.ended in
    let added = is_added c.in-Ok.reply c.loop-number.replies c.add.new.self c.add.result c.add.ensures.has_done c.add.ensures.history c.add.ensures.frames c.add.ensures.unchanged in
    one_turn_answer g.N.Node.core g.N.Node.HUB c.args.station.now c.loop-number.station c.reuse.new.self n (n + 1) c.turn_event.result c.in-Ok.reply
    refl c.turn_event.ensures c.loop-number.invariant.station step c.args.replies.now c.loop-number.replies c.add.new.self c.loop-number.invariant.replies added
