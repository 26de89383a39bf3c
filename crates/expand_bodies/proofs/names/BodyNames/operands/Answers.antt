use Rattle.std.proofs.Common.{rules, ◌≡◌}
use Rattle.expand_bodies.proofs.Lists.{states_more_of}
use Rattle.expand_bodies.proofs.names.BodyNames.operands.Goals as goal

pub loop-number-preserved : goal.loop-number-preserved
loop-number-preserved c =
    let same : c.in_ok-clone.field-0 ≡ c.name-item.result = search rules in
    states_more_of c.loop-number.number c.args.self.now.states c.as_slice-name-items.result.now c.name-item.result c.in_ok-clone.field-0 c.loop-number.operands.items c.push.new.self.items c.as_slice-name-items.ensures c.loop-number-test.true c.name-item.is
    same c.in_ok-push.ensures.items c.loop-number.invariant
