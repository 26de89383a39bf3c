-- Answers one after the other, where they are known.
use Rattle.std.proofs.Common.{◌≡◌, ℕ, List, [], ◌++◌, Option, None, Some, ap, sym, ◌∙◌, append_assoc, append-nil}
use Rattle.fedrun_files.specs.Answers.{Answer, Answers}

-- nothing is answered where nothing is asked
pub none_answered : (a : Option (List Answer)) → Answers a a []
none_answered None = tt
none_answered (Some old) = sym (append-nil old)

-- some answers, and then others
pub answered_in_turn : (a b c : Option (List Answer)) (first later : List Answer) → Answers a b first → Answers b c later → Answers a c (first ++ later)
answered_in_turn None b c first later p q = tt
answered_in_turn (Some x) None c first later p q = absurd p
answered_in_turn (Some x) (Some y) None first later p q = absurd q
answered_in_turn (Some x) (Some y) (Some z) first later p q = q ∙ ap (λ l. l ++ later) p ∙ append_assoc x first later
