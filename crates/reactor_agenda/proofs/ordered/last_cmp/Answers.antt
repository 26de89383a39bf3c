use Rattle.std.proofs.Common.{◌-◌, ◌<◌, ◌∙◌, sym, refl, deque_len, arith}
use Rattle.reactor_agenda.proofs.Past.{last_at}
use Rattle.reactor_agenda.proofs.ordered.last_cmp.Goals as goal

pub returns-in-Some : goal.returns-in-Some
returns-in-Some c =
    let some : 0 < deque_len c.args.front.now = c.in-Some.ensures.variant.0 refl in
    c.cmp.ensures
    ∙ sym (last_at c.args.key.now c.args.front.now.items (deque_len c.args.front.now - 1) c.in-Some.field-0.now (omega (arith, some, c.args.front.now.ok.0)) c.in-Some.ensures.lookup)
