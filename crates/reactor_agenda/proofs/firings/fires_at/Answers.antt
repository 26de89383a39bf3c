use Rattle.std.proofs.Common.{ap, sym, ◌∙◌, ◌<◌, ◌^◌, arith, if◌then◌else◌, [], ◌∷◌}
use Rattle.reactor_agenda.specs.Invariant.{firing}
use Rattle.reactor_agenda.proofs.Fired.{stepped_timer, firing_before}
use Rattle.reactor_agenda.proofs.firings.fires_at.Goals as goal

pub overflow_add-rest : goal.overflow_add-rest
overflow_add-rest c =
    let some : 0 < c.loop-rest.rest.left = c.is_before.ensures.some c.loop-rest-test.true in
    let below : c.loop-rest.rest.next < 2 ^ 62 = (stepped_timer c.loop-rest.rest some c.loop-rest.invariant.timer).1 in
    let period : c.loop-rest.rest.period < 2 ^ 62 = c.loop-rest.invariant.timer.period in
    omega arith

pub loop-rest-preserved : goal.loop-rest-preserved
loop-rest-preserved c =
    let some : 0 < c.loop-rest.rest.left = c.is_before.ensures.some c.loop-rest-test.true in
    record {
      timer = (stepped_timer c.loop-rest.rest some c.loop-rest.invariant.timer).0;
      slot = c.loop-rest.invariant.slot;
      firings = firing_before c.loop-rest.rest c.args.tag some (sym c.is_before.ensures.before ∙ c.loop-rest-test.true) ∙ c.loop-rest.invariant.firings;
    }

pub is_next-requires-clause-none_before : goal.is_next-requires-clause-none_before
is_next-requires-clause-none_before c = sym c.is_before.ensures.before ∙ c.loop-rest-test.false

pub returns : goal.returns
returns c =
    sym c.loop-rest.invariant.firings ∙ c.is_next.ensures
    ∙ ap (λ slot. if c.is_next.result then firing slot c.args.tag.time ∷ [] else []) c.loop-rest.invariant.slot
