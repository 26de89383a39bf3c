use Rattle.std.proofs.lemmas.Result.{err_from_is_err_and}
use Rattle.loadfed_tables.proofs.Refusals.{first_of}
use Rattle.loadfed.proofs.program_draft.body.Goals as goal

pub returns-in_err-body-clause-refused : goal.returns-in_err-body-clause-refused
returns-in_err-body-clause-refused c =
    let p = err_from_is_err_and c.from_residual.result c.from_residual.ensures.1 in
    rw (p.1, p.2) (first_of c.in_err-body.ensures.refused)
