use Rattle.std.proofs.Common.{◌+◌, ◌<◌, ◌++◌, List, ℕ, length, sym, ap, ◌∙◌, arith}
use Rattle.std.proofs.lemmas.Result.{on_ok_weaker}
use Rattle.signal.specs.Pieces.{signals_of}
use Rattle.signal.proofs.Readable.{signals_many, batch_by_first}
use Rattle.signal.proofs.Appended.{batch_whole}
use Rattle.signal.proofs.writing.write_batch.Goals as goal

pub returns-clause-written : goal.returns-clause-written
returns-clause-written c =
    let old = c.args.bytes.now.items in
    let piece = c.args.piece.now in
    let some : 0 < length piece = omega (arith, c.requires.several) in
    on_ok_weaker c.write_signals.result
    (λ written. batch_whole old c.append.new.bytes.items c.write_signals.new.bytes.items c.batch_head.result c.in-Data.incarnation c.in-Data.number (14 + c.signals_size-size.result) (length piece)
    (signals_of piece) c.in_ok-append.ensures.written c.batch_head.ensures (sym (signals_many piece c.requires.stretch c.requires.several)) (ap (λ (n : ℕ). 14 + n) c.signals_size-size.ensures.size) written
    ∙ ap (λ (l : List ℕ). old ++ l) (sym (batch_by_first piece _ c.in-Data.incarnation c.in-Data.number c.in-Data.signal some c.in-Data.is)))
    c.write_signals.ensures.written
