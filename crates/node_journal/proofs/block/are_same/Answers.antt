use Rattle.std.proofs.Common.{refl, arith}
use Rattle.node_journal.proofs.Places.{same_items}
use Rattle.node_journal.proofs.block.are_same.Goals as goal

pub returns : goal.returns
returns c =
    let long = c.if-events-others.false in
    let end = c.loop-place-test.false in (
      λ yes. same_items c.args.events.now c.args.others.now long (λ k less. c.loop-place.invariant k (omega (arith, less, end))),
      λ same. refl,
    )
