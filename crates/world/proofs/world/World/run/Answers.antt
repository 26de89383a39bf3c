use Rattle.std.proofs.Common.{take, ◌∙◌}
use Rattle.world.proofs.Headline.{faithful, harmless, still_fit}
use Rattle.world.proofs.world.World.run.Goals as goal

pub returns-in_err-apply-clause-harmless : goal.returns-in_err-apply-clause-harmless
returns-in_err-apply-clause-harmless c =
    harmless c.apply.new.self
    (still_fit c.args.self.now c.apply.new.self (take c.loop-step.step-index c.args.steps.now) c.fits.ensures (c.in_err-apply.ensures.unchanged ∙ c.loop-step.invariant))

pub returns-clause-harmless : goal.returns-clause-harmless
returns-clause-harmless c =
    harmless c.loop-step.self (still_fit c.args.self.now c.loop-step.self (take c.loop-step.step-index c.args.steps.now) c.fits.ensures c.loop-step.invariant)

pub returns-clause-faithful : goal.returns-clause-faithful
returns-clause-faithful c =
    faithful c.loop-step.self (still_fit c.args.self.now c.loop-step.self (take c.loop-step.step-index c.args.steps.now) c.fits.ensures c.loop-step.invariant)
