use Rattle.std.proofs.Common.{Err, ap}
use Rattle.loadfed.proofs.InputReadings.{inputs_told}
use Rattle.loadfed.proofs.recorded.checked.Goals as goal

pub returns-in-Err-clause-refused : goal.returns-in-Err-clause-refused
returns-in-Err-clause-refused c =
    rw c.of_inputs.ensures (inputs_told c.args.plan.now c.args.inputs.items c.in-Err.fault
    (λ e. c.in-Err.ensures.unknown (ap Err e)) (λ e. c.in-Err.ensures.repeated (ap Err e)) (λ e. c.in-Err.ensures.over (ap Err e)))
