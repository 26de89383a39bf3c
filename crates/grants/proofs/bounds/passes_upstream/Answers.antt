use Rattle.std.proofs.Common.{◌≡◌, ◌≤◌, true, false, sym, ◌∙◌, ap, arith, length}
use Rattle.tag.specs.LogicalTime.{is_before, sum_of}
use Rattle.protocol.specs.FederateRecords.{federate_record_at}
use Rattle.grants.proofs.Passing.{passes_on, passes_all, fails_at}
use Rattle.grants.proofs.bounds.passes_upstream.Goals as goal

pub returns-then-not-is_before : goal.returns-then-not-is_before
returns-then-not-is_before c =
    let refused : is_before c.args.tag c.arrival_from.result ≡ false = sym c.is_before.ensures ∙ c.if-not-is_before.true in
    fails_at (λ u. sum_of (federate_record_at c.args.federate_records.now u.federate).next u.delay) c.args.tag c.args.upstream.now c.loop-from.from-index c.from-item.result c.loop-from-test.true c.from-item.is
    (sym (ap (is_before c.args.tag) c.arrival_from.ensures) ∙ refused)

pub loop-from-preserved : goal.loop-from-preserved
loop-from-preserved c =
    let passed : is_before c.args.tag c.arrival_from.result ≡ true = sym c.is_before.ensures ∙ c.if-not-is_before.false in
    passes_on (λ u. sum_of (federate_record_at c.args.federate_records.now u.federate).next u.delay) c.args.tag c.args.upstream.now c.loop-from.from-index c.from-item.result c.loop-from-test.true c.from-item.is
    (sym (ap (is_before c.args.tag) c.arrival_from.ensures) ∙ passed) c.loop-from.invariant

pub returns : goal.returns
returns c =
    let done : length c.args.upstream.now ≤ c.loop-from.from-index = omega (arith, c.loop-from-test.false) in
    passes_all (λ u. sum_of (federate_record_at c.args.federate_records.now u.federate).next u.delay) c.args.tag c.args.upstream.now c.loop-from.from-index c.is_before-2.result done c.is_before-2.ensures c.loop-from.invariant
