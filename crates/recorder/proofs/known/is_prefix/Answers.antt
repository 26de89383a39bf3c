use Rattle.std.proofs.Common.{refl, arith}
use Rattle.recorder.proofs.Prefixes.{begins_so, begins_at}
use Rattle.recorder.proofs.known.is_prefix.Goals as goal

pub returns-in-None : goal.returns-in-None
returns-in-None c =
    let there = c.loop-place-test.true in
    let events = c.len-in-loop-place.ensures in (
      λ no. absurd (grind (arith, no)),
      λ begins. absurd (c.in-None.ensures.none refl (begins_at c.args.events.now c.args.journal.now c.loop-place.place (omega arith) begins)),
    )

pub returns : goal.returns
returns c =
    let longer = c.if-len.false in
    let events = c.len.ensures in
    let whole = c.len-2.ensures in
    let end = c.loop-place-test.false in (
      λ yes. begins_so c.args.events.now c.args.journal.now (omega arith) (λ k less. c.loop-place.invariant k (omega (arith, less, end))),
      λ begins. refl,
    )
