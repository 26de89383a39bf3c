use Rattle.std.proofs.Common.{◌≡◌, ◌≤◌, true, false, sym, ◌∙◌, ap, arith, length}
use Rattle.tag.specs.LogicalTime.{is_before, sum_of}
use Rattle.protocol.specs.Grant.{after_completed}
use Rattle.protocol.specs.FederateRecords.{federate_record_at}
use Rattle.grants.proofs.Passing.{passes_on, passes_all, fails_at}
use Rattle.grants.proofs.bounds.passes_incoming.Goals as goal

pub returns-then-not-is_before : goal.returns-then-not-is_before
returns-then-not-is_before c =
    let refused : is_before c.args.tag c.arrival_over.result ≡ false = sym c.is_before.ensures ∙ c.if-not-is_before.true in
    fails_at (λ x. sum_of (after_completed (federate_record_at c.args.federate_records.now x.source).completed) x.delay) c.args.tag c.args.incoming.now c.loop-connection.connection-index c.connection-item.result c.loop-connection-test.true c.connection-item.is
    (sym (ap (is_before c.args.tag) c.arrival_over.ensures) ∙ refused)

pub loop-connection-preserved : goal.loop-connection-preserved
loop-connection-preserved c =
    let passed : is_before c.args.tag c.arrival_over.result ≡ true = sym c.is_before.ensures ∙ c.if-not-is_before.false in
    passes_on (λ x. sum_of (after_completed (federate_record_at c.args.federate_records.now x.source).completed) x.delay) c.args.tag c.args.incoming.now c.loop-connection.connection-index c.connection-item.result c.loop-connection-test.true c.connection-item.is
    (sym (ap (is_before c.args.tag) c.arrival_over.ensures) ∙ passed) c.loop-connection.invariant

pub returns : goal.returns
returns c =
    let done : length c.args.incoming.now ≤ c.loop-connection.connection-index = omega (arith, c.loop-connection-test.false) in
    passes_all (λ x. sum_of (after_completed (federate_record_at c.args.federate_records.now x.source).completed) x.delay) c.args.tag c.args.incoming.now c.loop-connection.connection-index c.is_before-2.result done c.is_before-2.ensures c.loop-connection.invariant
