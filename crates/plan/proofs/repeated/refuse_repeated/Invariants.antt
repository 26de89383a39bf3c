use Rattle.std.proofs.Common.{take}
use Rattle.std.specs.Prelude.{All}
use Rattle.plan_names.specs.Naming.{AreDistinct}
use Rattle.plan_slots.specs.Numbering.{all_names}
use Rattle.plan.proofs.repeated.refuse_repeated.Given as goal

abbrev pub invariant-loop-federate : goal.invariant-loop-federate
invariant-loop-federate l = All (λ f. AreDistinct (all_names f.slots)) (take l.federate-index l.federates)
