use Rattle.std.proofs.Common.{subst, length}
use Rattle.whole.specs.Next.{IsFirstAmong}
use Rattle.whole.proofs.Firsts.{first_of_all}
use Rattle.whole.proofs.nexts.Nexts.first.Goals as goal

pub returns : goal.returns
returns c =
    let x = c.first_among.result in
    subst (λ ns. IsFirstAmong ns 0 (length ns) x) c.self.view_is
    (first_of_all c.self.inside.nexts.items c.self.inside.firsts.items x c.self.invariant
    (subst (λ fs. IsFirstAmong fs 0 (length fs) x) c.as_slice-firsts.ensures.value c.first_among.ensures))
