use Rattle.std.proofs.Common.{◌≡◌, rules, arith}
use Rattle.loadfed.specs.declared.fault.LoadFault.TheVariants.{Memory}
use Rattle.fedrun_lint.proofs.Schedules.{beside_refused}
use Rattle.fedrun_lint.proofs.scheduling.refusal_of_known.Goals as goal

pub returns : goal.returns
returns c =
    let other : c.in-Err.field-0 ≡ Memory → ⊥ = first_of (search rules, grind arith) in
    beside_refused c.args.schedule.now c.args.federation.now c.in-Err.field-0 c.look_at_form.result other c.in-Err.ensures.accepts
