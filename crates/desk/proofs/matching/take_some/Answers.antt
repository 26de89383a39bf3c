use Rattle.std.proofs.Common.{◌≡◌, ◌+◌, ◌-◌, ◌↔◌, subst, take, arith}
use Rattle.desk.specs.Shares.{Agree}
use Rattle.desk.proofs.matching.take_some.Goals as goal

pub returns-then-take_event-clause-taken : goal.returns-then-take_event-clause-taken
returns-then-take_event-clause-taken c =
    let next : c.args.end - 1 + 1 ≡ c.args.end = omega (arith, c.requires.some) in
    let same = c.take_block.ensures.unchanged c.in_default.is in
    rw (← same) (subst (λ n. Agree (take n c.args.journal.now) c.take_block.new.shares ↔ Agree (take (c.args.end - 1) c.args.journal.now) c.take_event.new.shares) next
    (c.take_event.ensures.taken c.if-take_event.true))

pub returns-else-take_event-clause-none : goal.returns-else-take_event-clause-none
returns-else-take_event-clause-none c =
    let next : c.args.end - 1 + 1 ≡ c.args.end = omega (arith, c.requires.some) in
    let same = c.take_block.ensures.unchanged c.in_default.is in
    λ _. rw (← same) (subst (λ n. ¬ Agree (take n c.args.journal.now) c.take_block.new.shares) next (c.take_event.ensures.none c.if-take_event.false))
