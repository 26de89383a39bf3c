use Rattle.std.proofs.Common.{ℕ, List, subst}
use Rattle.expand_federation.specs.Made.{IsMadeOf}
use Rattle.expand_federation.proofs.Taken.{taken_of}
use Rattle.expand_federation.proofs.expanding.made_federation.Goals as goal

pub returns-in-Ok-clause-made : goal.returns-in-Ok-clause-made
returns-in-Ok-clause-made c =
    subst (λ (t : List ℕ). IsMadeOf c.args.source.now c.args.given.now t) c.as_slice-federation.ensures.value c.in_ok-check_meaning-in-Ok.ensures

pub returns-in-Ok-clause-taken : goal.returns-in-Ok-clause-taken
returns-in-Ok-clause-taken c = taken_of _ _ _ _ c.as_slice-federation.ensures.value c.in-Ok.ensures.outcome.0
