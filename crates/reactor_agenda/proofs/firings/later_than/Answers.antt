use Rattle.std.proofs.Common.{sym, ◌∙◌, ◌<◌, ◌^◌, arith}
use Rattle.reactor_agenda.proofs.Fired.{stepped_timer, due_firing, none_due_left}
use Rattle.reactor_agenda.proofs.firings.later_than.Goals as goal

pub overflow_add-rest : goal.overflow_add-rest
overflow_add-rest c =
    let some : 0 < c.loop-tag.rest.left = c.is_due.ensures.some c.loop-tag-test.true in
    let below : c.loop-tag.rest.next < 2 ^ 62 = (stepped_timer c.loop-tag.rest some c.loop-tag.invariant.timer).1 in
    let period : c.loop-tag.rest.period < 2 ^ 62 = c.loop-tag.invariant.timer.period in
    omega arith

pub loop-tag-preserved : goal.loop-tag-preserved
loop-tag-preserved c =
    let some : 0 < c.loop-tag.rest.left = c.is_due.ensures.some c.loop-tag-test.true in
    record {
      timer = (stepped_timer c.loop-tag.rest some c.loop-tag.invariant.timer).0;
      firings = due_firing c.loop-tag.rest c.args.tag some (sym c.is_due.ensures.due ∙ c.loop-tag-test.true) ∙ c.loop-tag.invariant.firings;
    }

pub returns-clause-firings : goal.returns-clause-firings
returns-clause-firings c =
    sym (none_due_left c.loop-tag.rest c.args.tag c.loop-tag.invariant.timer (sym c.is_due.ensures.due ∙ c.loop-tag-test.false)) ∙ c.loop-tag.invariant.firings
