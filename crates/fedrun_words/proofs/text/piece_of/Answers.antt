use Rattle.std.proofs.Common.{refl}
use Rattle.fedrun_words.proofs.Cut.{piece_of_text}
use Rattle.fedrun_words.proofs.text.piece_of.Goals as goal

pub returns-in-Ok : goal.returns-in-Ok
returns-in-Ok g c =
    piece_of_text _ (λ w. w.before) (λ w. w.kept.items) (λ s bytes t grown. grown) (g.D.Display.output c.args.text.now) c.args.from _ _ refl
    c.new.ensures c.in-Ok.ensures.writes
