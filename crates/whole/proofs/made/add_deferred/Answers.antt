use Rattle.std.proofs.Common.{length, get_or, ap, ◌∙◌, arith}
use Rattle.whole.specs.Construction.{TurnMade, deferred_by}
use Rattle.whole.proofs.Steps.{collected}
use Rattle.whole.proofs.made.add_deferred.Goals as goal

pub loop-scheduling-preserved : goal.loop-scheduling-preserved
loop-scheduling-preserved c =
    let i = c.loop-scheduling.scheduling-index in
    let x = c.scheduling-item.result in
    let same = ap (λ (t : TurnMade). t.schedulings) c.turn.view_is in
    let many = ap length same in
    collected (deferred_by c.args.turn.now) c.args.events.now.items c.loop-scheduling.events.items c.add_deferred_by.new.events.items c.args.turn.now.schedulings i x
    (omega (arith, many)) (c.scheduling-item.is ∙ ap (λ xs. get_or xs i x) same) c.loop-scheduling.invariant c.in_ok-add_deferred_by.ensures
