use Rattle.std.proofs.Common.{subst, sym}
use Rattle.grants.specs.Records.{Records}
use Rattle.coordinator.specs.Steps.{IsKept}
use Rattle.coordinator.proofs.Keeping.{initial_is_kept}
use Rattle.coordinator.proofs.coordinator.Coordinator.new.Goals as goal

pub invariant_of-result : goal.invariant_of-result
invariant_of-result c =
    let P : Records → Type 0 = λ r. IsKept c.args.plan.now r in
    subst P (sym c.in_ok-table.ensures) (initial_is_kept c.args.plan.now)
