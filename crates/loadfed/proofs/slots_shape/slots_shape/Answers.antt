use Rattle.std.proofs.lemmas.Result.{err_from_is_err_and}
use Rattle.loadfed_tables.proofs.Refusals.{first_of, second_of}
use Rattle.loadfed.proofs.slots_shape.slots_shape.Goals as goal

pub returns-in_err-inputs-clause-refused : goal.returns-in_err-inputs-clause-refused
returns-in_err-inputs-clause-refused c =
    let p = err_from_is_err_and c.from_residual.result c.from_residual.ensures.1 in
    rw (p.1, p.2) (first_of c.in_err-inputs.ensures.refused)

pub returns-in_err-outputs-clause-refused : goal.returns-in_err-outputs-clause-refused
returns-in_err-outputs-clause-refused c =
    let p = err_from_is_err_and c.from_residual-in_err-outputs.result c.from_residual-in_err-outputs.ensures.1 in
    rw (p.1, p.2) (second_of (first_of c.in_err-outputs.ensures.refused))

pub returns-in_err-timers-clause-refused : goal.returns-in_err-timers-clause-refused
returns-in_err-timers-clause-refused c =
    let p = err_from_is_err_and c.from_residual-in_err-timers.result c.from_residual-in_err-timers.ensures.1 in
    rw (p.1, p.2) (second_of (second_of (first_of c.in_err-timers.ensures.refused)))

pub returns-in_err-actions-clause-refused : goal.returns-in_err-actions-clause-refused
returns-in_err-actions-clause-refused c =
    let p = err_from_is_err_and c.from_residual-in_err-actions.result c.from_residual-in_err-actions.ensures.1 in
    rw (p.1, p.2) (second_of (second_of (second_of (first_of c.in_err-actions.ensures.refused))))

pub returns-in_err-physical-clause-refused : goal.returns-in_err-physical-clause-refused
returns-in_err-physical-clause-refused c =
    let p = err_from_is_err_and c.from_residual-in_err-physical.result c.from_residual-in_err-physical.ensures.1 in
    rw (p.1, p.2) (second_of (second_of (second_of (second_of (c.in_err-physical.ensures.refused)))))
