use Rattle.std.proofs.Common.{arith, refl}
use Rattle.recorder_reports.proofs.Differences.{same_at_each}
use Rattle.recorder_reports.proofs.difference.are_same_entries.Goals as goal

pub returns : goal.returns
returns c = (
  λ yes.
      let len = c.if-entries-others.false in
      same_at_each c.args.entries.now c.args.others.now (omega arith) (λ k less. c.loop-place.invariant k (omega (arith, c.loop-place-test.false))),
  λ same. refl,
)
