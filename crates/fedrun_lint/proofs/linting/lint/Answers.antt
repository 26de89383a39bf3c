use Rattle.std.proofs.Common.{◌≡◌, rules, arith}
use Rattle.loadfed.specs.declared.fault.LoadFault.TheVariants.{Memory}
use Rattle.fedrun_lint.proofs.Agreement.{of_refused}
use Rattle.fedrun_lint.proofs.linting.lint.Goals as goal

pub returns-in-Err : goal.returns-in-Err
returns-in-Err c =
    let other : c.in-Err.fault ≡ Memory → ⊥ = first_of (search rules, grind arith) in
    of_refused c.args.federation.now c.args.inputs.now c.in-Err.fault c.of_refused.result c.in-Err.ensures.outcome other c.in-Err.ensures.accepts
    c.of_refused.ensures.federation c.of_refused.ensures.inputs
