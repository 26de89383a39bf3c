use Rattle.std.proofs.Common.{◌≡◌, refl, ap, arith}
use Rattle.plan.specs.Federation.{federate_count}
use Rattle.world.specs.World.{WorldView}
use Rattle.world.proofs.Seen.{seen}
use Rattle.world.proofs.Stuck.{all_quiet}
use Rattle.world.proofs.world.World.is_quiet.Goals as goal

pub returns : goal.returns
returns c =
    let same : federate_count c.self.inside.plan.now ≡ federate_count c.args.self.now.draft = ap (λ (v : WorldView). federate_count v.draft) c.self.view_is in
    let count = c.federate_count-federate-end.ensures in
    let end = c.loop-federate-test.false in
    ((λ yes. all_quiet c.args.self.now (seen c.self.view_is c.self.invariant).fit (λ j below. c.loop-federate.invariant j (omega arith))), (λ quiet. refl))
