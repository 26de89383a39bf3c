use Rattle.std.proofs.Common.{◌∙◌, refl, arith}
use Rattle.desk.proofs.Backwards.{no_step_back, none_of_all}
use Rattle.desk.proofs.matching.take.Goals as goal

pub returns-clause-none : goal.returns-clause-none
returns-clause-none c =
    λ _ journal is.
    rw (← (c.loop-position.invariant.same ∙ c.if-take_at.ensures.unchanged refl))
    (no_step_back journal c.args.slip.now c.loop-position.shares
    (none_of_all c.loop-position.shares c.args.slip.now c.loop-position.position (omega arith) c.loop-position.invariant.none) is)
