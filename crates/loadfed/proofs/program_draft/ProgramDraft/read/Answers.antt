use Rattle.std.proofs.lemmas.Result.{err_from_is_err_and}
use Rattle.loadfed_tables.proofs.Refusals.{first_of, second_of}
use Rattle.loadfed.proofs.program_draft.ProgramDraft.read.Goals as goal

pub returns-in_err-states-clause-refused : goal.returns-in_err-states-clause-refused
returns-in_err-states-clause-refused c =
    let p = err_from_is_err_and c.from_residual.result c.from_residual.ensures.1 in
    rw (p.1, p.2) (first_of c.in_err-states.ensures.refused)

pub returns-in_err-reactions-clause-refused : goal.returns-in_err-reactions-clause-refused
returns-in_err-reactions-clause-refused c =
    let p = err_from_is_err_and c.from_residual-in_err-reactions.result c.from_residual-in_err-reactions.ensures.1 in
    rw (p.1, p.2) (second_of (c.in_err-reactions.ensures.refused))
