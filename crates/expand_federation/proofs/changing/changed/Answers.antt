use Rattle.std.proofs.Common.{◌-◌, ◌+◌, take, drop, subst, ap, ◌∙◌}
use Rattle.expand_source.specs.Filling.{Appends}
use Rattle.expand_federation.specs.declared.change.Change.{Change}
use Rattle.expand_federation.specs.Changes.{IsAdded, IsChanged}
use Rattle.expand_federation.proofs.Pieces.{nothing_made, one_change_more, all_changed}
use Rattle.expand_federation.proofs.changing.changed.Goals as goal

pub loop-change-init : goal.loop-change-init
loop-change-init c = λ rest h. nothing_made c.args.text.now c.args.changes.now _ rest c.new-made.ensures.items h

pub loop-change-preserved : goal.loop-change-preserved
loop-change-preserved c = λ rest h.
    let is = c.change-item.is in
    one_change_more c.args.text.now c.args.changes.now c.loop-change.change-index c.change-item.result c.loop-change.before c.loop-change.left.now c.up_to.result.now c.behind-left.result.now
    c.loop-change.made.items c.push.new.made.items c.push_added.new.made.items rest c.loop-change-test.true c.loop-change.invariant
    (c.up_to.ensures ∙ ap (λ (it : Change). take (it.from - c.loop-change.before) c.loop-change.left.now) is) c.in_ok-push.ensures
    (subst (λ (it : Change). Appends c.push.new.made.items c.push_added.new.made.items (IsAdded it.names.now it.added)) is c.in_ok-push_added.ensures)
    (c.behind-left.ensures ∙ ap (λ (it : Change). drop (it.to - c.loop-change.before) c.loop-change.left.now) is)
    (subst (λ (it : Change). IsChanged it.to c.behind-left.result.now (drop (c.loop-change.change-index + 1) c.args.changes.now) rest) is h)

pub returns : goal.returns
returns c =
    all_changed c.args.text.now c.args.changes.now c.loop-change.change-index c.loop-change.before c.loop-change.left.now c.loop-change.made.items c.push-2.new.made.items
    c.loop-change-test.false c.loop-change.invariant c.in_ok-push-2.ensures
