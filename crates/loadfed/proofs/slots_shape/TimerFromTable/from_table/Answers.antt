use Rattle.std.proofs.lemmas.Result.{err_from_is_err_and}
use Rattle.loadfed_tables.proofs.Refusals.{first_of, second_of}
use Rattle.loadfed.proofs.slots_shape.TimerFromTable.from_table.Goals as goal

pub returns-in_err-has_only-clause-refused : goal.returns-in_err-has_only-clause-refused
returns-in_err-has_only-clause-refused c =
    let p = err_from_is_err_and c.from_residual.result c.from_residual.ensures.1 in
    rw (p.1, p.2) (first_of c.in_err-has_only.ensures.refused)

pub returns-in_err-name-clause-refused : goal.returns-in_err-name-clause-refused
returns-in_err-name-clause-refused c =
    let p = err_from_is_err_and c.from_residual-in_err-name.result c.from_residual-in_err-name.ensures.1 in
    rw (p.1, p.2) (second_of (first_of c.in_err-name.ensures.refused))

pub returns-in_err-offset-clause-refused : goal.returns-in_err-offset-clause-refused
returns-in_err-offset-clause-refused c =
    let p = err_from_is_err_and c.from_residual-in_err-offset.result c.from_residual-in_err-offset.ensures.1 in
    rw (p.1, p.2) (second_of (second_of (first_of c.in_err-offset.ensures.refused)))

pub returns-in_err-period-clause-refused : goal.returns-in_err-period-clause-refused
returns-in_err-period-clause-refused c =
    let p = err_from_is_err_and c.from_residual-in_err-period.result c.from_residual-in_err-period.ensures.1 in
    rw (p.1, p.2) (second_of (second_of (second_of (c.in_err-period.ensures.refused))))
