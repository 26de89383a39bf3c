use Rattle.std.proofs.lemmas.Result.{err_from_is_err_and}
use Rattle.signal.proofs.Appended.{nothing_more}
use Rattle.signal.proofs.writing.append.Goals as goal

pub returns-in_err-extend_from_slice-clause-extended : goal.returns-in_err-extend_from_slice-clause-extended
returns-in_err-extend_from_slice-clause-extended c =
    let p = err_from_is_err_and c.from_residual.result c.from_residual.ensures.1 in
    rw p.1 (nothing_more c.args.bytes.now.items c.extend_from_slice.new.self.items c.in_err-extend_from_slice.ensures.items)
