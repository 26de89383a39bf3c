use Rattle.std.proofs.Common.{ap, sym, ◌∙◌}
use Rattle.std.specs.Prelude.{nat_eq}
use Rattle.std.proofs.lemmas.Bool.{eq-eqb, ne_eqb}
use Rattle.grants.proofs.Filtered.{one_passed, one_failed}
use Rattle.grants.proofs.routes.incoming_of.Goals.{then-target-federate+in_ok-push, else-target-federate}
use Rattle.grants.proofs.routes.incoming_of.Goals as goal

pub loop-connection-preserved : goal.loop-connection-preserved
loop-connection-preserved c =
    let x = c.connection-item.result in
    elim c.if-target-federate.branch [
      | then-target-federate+in_ok-push w ↦
          one_passed (λ d. nat_eq d.target c.args.federate) c.args.connections.now c.loop-connection.incoming.items c.if-target-federate.incoming.items c.loop-connection.connection-index x
          c.loop-connection-test.true c.connection-item.is (eq-eqb x.target c.args.federate (sym c.target.ensures ∙ w.if-target-federate.true)) c.loop-connection.invariant
          (ap (λ v. v.items) w.incoming-is ∙ w.in_ok-push.ensures.items)
      | else-target-federate w ↦
          one_failed (λ d. nat_eq d.target c.args.federate) c.args.connections.now c.loop-connection.incoming.items c.if-target-federate.incoming.items c.loop-connection.connection-index x
          c.loop-connection-test.true c.connection-item.is (ne_eqb x.target c.args.federate (λ same. w.if-target-federate.false (c.target.ensures ∙ same))) c.loop-connection.invariant
          (ap (λ v. v.items) w.incoming-is)
    ]
