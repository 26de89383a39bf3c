use Rattle.std.proofs.lemmas.Result.{err_from_is_err_and}
use Rattle.loadfed_tables.proofs.Refusals.{first_of, second_of}
use Rattle.loadfed.proofs.recorded.InputFromTable.from_table.Goals as goal

pub returns-in_err-has_only-clause-refused : goal.returns-in_err-has_only-clause-refused
returns-in_err-has_only-clause-refused c =
    let p = err_from_is_err_and c.from_residual.result c.from_residual.ensures.1 in
    rw (p.1, p.2) (first_of c.in_err-has_only.ensures.refused)

pub returns-in_err-federate-clause-refused : goal.returns-in_err-federate-clause-refused
returns-in_err-federate-clause-refused c =
    let p = err_from_is_err_and c.from_residual-in_err-federate.result c.from_residual-in_err-federate.ensures.1 in
    rw (p.1, p.2) (second_of (first_of c.in_err-federate.ensures.refused))

pub returns-in_err-action-clause-refused : goal.returns-in_err-action-clause-refused
returns-in_err-action-clause-refused c =
    let p = err_from_is_err_and c.from_residual-in_err-action.result c.from_residual-in_err-action.ensures.1 in
    rw (p.1, p.2) (second_of (second_of (first_of c.in_err-action.ensures.refused)))

pub returns-in_err-time-clause-refused : goal.returns-in_err-time-clause-refused
returns-in_err-time-clause-refused c =
    let p = err_from_is_err_and c.from_residual-in_err-time.result c.from_residual-in_err-time.ensures.1 in
    rw (p.1, p.2) (second_of (second_of (second_of (first_of c.in_err-time.ensures.refused))))

pub returns-in_err-microstep-clause-refused : goal.returns-in_err-microstep-clause-refused
returns-in_err-microstep-clause-refused c =
    let p = err_from_is_err_and c.from_residual-in_err-microstep.result c.from_residual-in_err-microstep.ensures.1 in
    rw (p.1, p.2) (second_of (second_of (second_of (second_of (first_of c.in_err-microstep.ensures.refused)))))

pub returns-in_err-value-clause-refused : goal.returns-in_err-value-clause-refused
returns-in_err-value-clause-refused c =
    let p = err_from_is_err_and c.from_residual-in_err-value.result c.from_residual-in_err-value.ensures.1 in
    rw (p.1, p.2) (second_of (second_of (second_of (second_of (second_of (c.in_err-value.ensures.refused))))))
