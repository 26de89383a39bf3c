use Rattle.std.proofs.Common.{sym, ap, ◌∙◌}
use Rattle.std.proofs.lemmas.List.Elements.{recursion_from_All}
use Rattle.signal.specs.Pieces.{IsPiece, pieces_of}
use Rattle.signal.proofs.Cutting.{one_pass, unique, joined}
use Rattle.signal.proofs.laws.no_other_pieces.Goals as goal

pub returns : goal.returns
returns c = λ frames pieces h.
    sym (unique pieces (recursion_from_All IsPiece pieces h.are_pieces) h.longest) ∙ one_pass (joined pieces) ∙ ap pieces_of h.in_order
