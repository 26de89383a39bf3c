use Rattle.std.proofs.Common.{◌≡◌, ◌∙◌, sym, ap, false, replicate}
use Rattle.grants.specs.Invariant.{set_count}
use Rattle.grants.proofs.Flags.{count_none_set}
use Rattle.grants.proofs.affected.AffectedFederates.new.Goals as goal

pub invariant_of-result : goal.invariant_of-result
invariant_of-result c =
    let items : c.in_ok-eligible.eligible.items ≡ replicate c.args.federates false = c.in_ok-eligible.ensures.items_if_clones_equal (λ y e. e) in
    sym (ap set_count items ∙ count_none_set c.args.federates)
