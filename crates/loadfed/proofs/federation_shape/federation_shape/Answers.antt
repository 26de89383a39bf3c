use Rattle.std.proofs.lemmas.Result.{err_from_is_err_and}
use Rattle.loadfed_tables.proofs.Refusals.{first_of, second_of}
use Rattle.loadfed.proofs.federation_shape.federation_shape.Goals as goal

pub returns-in_err-has_only-clause-refused : goal.returns-in_err-has_only-clause-refused
returns-in_err-has_only-clause-refused c =
    let p = err_from_is_err_and c.from_residual.result c.from_residual.ensures.1 in
    rw (p.1, p.2) (first_of c.in_err-has_only.ensures.refused)

pub returns-in_err-stop-clause-refused : goal.returns-in_err-stop-clause-refused
returns-in_err-stop-clause-refused c =
    let p = err_from_is_err_and c.from_residual-in_err-stop.result c.from_residual-in_err-stop.ensures.1 in
    rw (p.1, p.2) (second_of (first_of c.in_err-stop.ensures.refused))

pub returns-in_err-federates-clause-refused : goal.returns-in_err-federates-clause-refused
returns-in_err-federates-clause-refused c =
    let p = err_from_is_err_and c.from_residual-in_err-federates.result c.from_residual-in_err-federates.ensures.1 in
    rw (p.1, p.2) (second_of (second_of (first_of c.in_err-federates.ensures.refused)))

pub returns-in_err-connections-clause-refused : goal.returns-in_err-connections-clause-refused
returns-in_err-connections-clause-refused c =
    let p = err_from_is_err_and c.from_residual-in_err-connections.result c.from_residual-in_err-connections.ensures.1 in
    rw (p.1, p.2) (second_of (second_of (second_of (c.in_err-connections.ensures.refused))))
