use Rattle.std.proofs.lemmas.Result.{err_from_is_err_and}
use Rattle.signal.proofs.Appended.{extends_both}
use Rattle.signal.proofs.writing.write_signals.Goals as goal

pub returns-in_err-write_signal-clause-extended : goal.returns-in_err-write_signal-clause-extended
returns-in_err-write_signal-clause-extended c =
    let p = err_from_is_err_and c.from_residual.result c.from_residual.ensures.1 in
    rw p.1 (extends_both c.args.bytes.now.items c.loop-frame.bytes.items c.write_signal.new.bytes.items c.loop-frame.invariant.extended c.in_err-write_signal.ensures.extended)
