use Rattle.std.proofs.Common.{List, subst, arith}
use Rattle.std.proofs.lemmas.List.Elements.{All-from_recursion}
use Rattle.signal.specs.declared.frame.Frame.{Frame}
use Rattle.signal.specs.Pieces.{IsPiece, ArePiecesOf}
use Rattle.signal.proofs.Cutting.{cut_from, one_pass, in_order, are_pieces, are_longest}
use Rattle.signal.proofs.laws.pieces_are_longest.Goals as goal

pub returns : goal.returns
returns c = λ frames. subst (λ (x : List (List Frame)). ArePiecesOf frames x) (one_pass frames) (record {
  in_order = in_order 64 frames 64;
  are_pieces = All-from_recursion IsPiece (cut_from 64 64 frames) (are_pieces 64 frames (omega arith) (omega arith));
  longest = are_longest frames;
})
