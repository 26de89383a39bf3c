use Rattle.std.proofs.Common.{◌≡◌, rules, arith}
use Rattle.loadfed.specs.declared.fault.LoadFault.TheVariants.{Memory}
use Rattle.fedrun_lint.proofs.Agreement.{records_some, shape_refused}
use Rattle.fedrun_lint.proofs.linting.refusal_of_shapes_by.Goals as goal

pub returns : goal.returns
returns c =
    let other : c.in-Err.fault ≡ Memory → ⊥ = first_of (search rules, grind arith) in
    let apart = c.is_about_actions.ensures.other c.if-is_about_actions.false in
    shape_refused _ c.args.inputs.now c.in-Err.fault c.in_ok-refusal_of_inputs.field-0 c.in_ok-refusal_of_inputs.ensures c.in-Err.ensures.outcome other apart.0 apart.1

pub returns-then-is_about_actions : goal.returns-then-is_about_actions
returns-then-is_about_actions c =
    records_some _ c.args.inputs.now c.in-Err.fault c.in-Err.ensures.outcome (c.is_about_actions.ensures.about c.if-is_about_actions.true)
