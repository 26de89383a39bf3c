use Rattle.std.proofs.Common.{◌≡◌, rules, arith}
use Rattle.loadfed.specs.declared.fault.LoadFault.TheVariants.{Memory}
use Rattle.fedrun_lint.proofs.Agreement.{federation_refused}
use Rattle.fedrun_lint.proofs.linting.refusal_if_any.Goals as goal

pub returns : goal.returns
returns c =
    let other : c.in-Err.fault ≡ Memory → ⊥ = first_of (search rules, grind arith) in
    federation_refused c.args.federation.now c.in-Err.fault _ c.in_ok-refusal_of_federation-in-Err.ensures c.in-Err.ensures.outcome other c.in-Err.ensures.accepts
