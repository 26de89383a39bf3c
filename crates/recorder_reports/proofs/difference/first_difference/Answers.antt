use Rattle.std.proofs.Common.{◌≡◌, refl, arith, length}
use Rattle.std.specs.Prelude.{min}
use Rattle.recorder_reports.proofs.Differences.{same_at_each, apart_after}
use Rattle.recorder_reports.proofs.difference.first_difference.Goals as goal

pub returns-then-len : goal.returns-then-len
returns-then-len c =
    let one = c.len-3.ensures in
    let other = c.len-4.ensures in
    let same = c.if-len.true in
    same_at_each c.args.rows.now c.args.others.now (omega arith)
    (λ k less. c.loop-place.invariant k (omega (arith, c.min-shorter.ensures, c.len.ensures, c.len-2.ensures, c.loop-place-test.false)))

pub returns-else-len : goal.returns-else-len
returns-else-len c =
    let one = c.len-3.ensures in
    let other = c.len-4.ensures in
    let differ = c.if-len.false in
    let shorter : c.min-shorter.result ≡ min (length c.args.rows.now) (length c.args.others.now) = omega (arith, c.min-shorter.ensures, c.len.ensures, c.len-2.ensures) in
    record {
      before = c.min-shorter.result;
      counted = refl;
      same = λ k less. c.loop-place.invariant k (omega (arith, c.loop-place-test.false));
      apart = apart_after c.args.rows.now c.args.others.now c.min-shorter.result shorter (omega arith);
    }
