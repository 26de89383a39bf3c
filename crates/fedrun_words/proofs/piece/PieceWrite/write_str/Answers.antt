use Rattle.std.proofs.Common.{◌≡◌, List, ◌++◌, ◌-◌, min, length, take, drop, Some, subst, sym, refl}
use Rattle.std.proofs.lemmas.List.{take_rest}
use Rattle.std.specs.Io.KnownBytes.{WriteAppends}
use Rattle.fedrun_words.specs.Pieces.{IsPiece}
use Rattle.fedrun_words.specs.declared.piece.TheConstants.{PIECE}
use Rattle.fedrun_words.proofs.Cut.{piece_grows}
use Rattle.fedrun_words.proofs.piece.PieceWrite.write_str.Goals as goal

pub returns : goal.returns
returns c =
    let old = c.args.self.now.kept.items in
    let new = c.write-taken.new.self.items in
    let left = c.args.self.now.before - c.min-passed.result in
    let passed = c.min-passed.result in
    let bytes = c.as_bytes-bytes.result.now in
    let sliced : new ≡ old ++ take (min (PIECE - length old) (length (take (length bytes - passed) (drop passed bytes)))) (take (length bytes - passed) (drop passed bytes)) =
    subst (λ r. WriteAppends (Some old) (Some new) r (take (length bytes - passed) (drop passed bytes))) c.write-taken.ensures.count
    c.write-taken.ensures.bytes in
    let kept : new ≡ old ++ take (min (PIECE - length old) (length (drop passed bytes))) (drop passed bytes) =
    subst (λ rest. new ≡ old ++ take (min (PIECE - length old) (length rest)) rest) (take_rest bytes passed) sliced in
    record {
      ok = λ is_ok from text piece. subst (λ b. IsPiece from (text ++ b) left new) c.as_bytes-bytes.ensures.value
          (subst (IsPiece from (text ++ bytes) left) (sym kept)
          (piece_grows from text bytes c.args.self.now.before old passed _ c.min-passed.ensures refl piece));
    }
