use Rattle.std.proofs.Common.{◌≡◌, ◌∙◌, ap, slice_get}
use Rattle.whole.proofs.Firsts.{unchanged}
use Rattle.whole.proofs.nexts.Nexts.set_tag.Goals as goal

pub returns-then-is_at : goal.returns-then-is_at
returns-then-is_at c next at =
    let shown : c.as_slice.result.now ≡ c.args.self.now = cc in
    unchanged c.args.self.now c.args.federate next c.args.tag at
    (c.is_at.ensures c.if-is_at.true next (ap (λ nexts. slice_get nexts c.args.federate) shown ∙ at))
