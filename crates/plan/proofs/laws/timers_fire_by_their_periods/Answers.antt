-- Answers for `plan::laws::timers_fire_by_their_periods`.
use Rattle.plan.proofs.Outside.{firings}
use Rattle.plan.proofs.laws.timers_fire_by_their_periods.Goals as goal

pub returns : goal.returns
returns c = firings
