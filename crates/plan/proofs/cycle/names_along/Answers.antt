use Rattle.std.proofs.Common.{arith, rules, ◌≡◌, ◌++◌, ◌∷◌, [], ◌∙◌, ◌<◌, ap, sym, length}
use Rattle.std.specs.Prelude.{Some, slice_get}
use Rattle.plan.specs.declared.draft.Federate.{Federate}
use Rattle.plan.specs.Federation.{federate_names}
use Rattle.network.specs.Connection.{Connection}
use Rattle.plan.proofs.Cycles.{mapped_more}
use Rattle.plan_names.proofs.Twice.{mapped_at}
use Rattle.plan.proofs.cycle.names_along.Goals as goal

pub loop-connection-preserved : goal.loop-connection-preserved
loop-connection-preserved c =
    let pushed : c.push.new.self.items ≡ c.loop-connection.names.items ++ c.in_ok-clone.field-0 ∷ [] = search rules in
    let name : c.in_ok-clone.field-0 ≡ c.index-federates-source.result.name = search rules in
    let below : c.source.result < length c.args.federates.now
    = omega (
      arith,
      c.requires c.loop-connection.connection-index c.connection-item.result c.loop-connection-test.true,
      ap (λ (x : Connection). x.source) c.connection-item.is,
    ) in
    let named : slice_get (federate_names c.args.federates.now) c.source.result ≡ Some c.index-federates-source.result.name
    = mapped_at (λ (f : Federate). f.name) c.args.federates.now c.source.result c.index-federates-source.result below (sym c.index-federates-source.is) in
    mapped_more (λ (x : Connection). slice_get (federate_names c.args.federates.now) x.source) (λ name. Some name)
    c.args.path.now c.loop-connection.names.items c.push.new.self.items c.loop-connection.connection-index c.connection-item.result c.in_ok-clone.field-0
    c.loop-connection-test.true c.connection-item.is pushed c.loop-connection.invariant
    (ap (λ z. Some z) name ∙ sym named ∙ ap (λ k. slice_get (federate_names c.args.federates.now) k) c.source.ensures)
