use Rattle.std.proofs.lemmas.Result.{err_from_is_err_and}
use Rattle.loadfed_tables.proofs.Refusals.{first_of}
use Rattle.loadfed.proofs.recorded.inputs_shape.Goals as goal

pub returns-in_err-has_only-clause-refused : goal.returns-in_err-has_only-clause-refused
returns-in_err-has_only-clause-refused c =
    let p = err_from_is_err_and c.from_residual.result c.from_residual.ensures.1 in
    rw (p.1, p.2) (first_of c.in_err-has_only.ensures.refused)
