-- A list that isn't empty, as its first item and the others.
use Rattle.std.proofs.Common.{◌≡◌, ◌-◌, ◌≤◌, List, [], ◌∷◌, length, get_or, take, drop, ap, sym, ◌∙◌, arith}
use Rattle.std.proofs.lemmas.List.{take_all}

pub uncons : {A : Type 0} (s : List A) (x : A) → 1 ≤ length s → x ≡ get_or s 0 x → s ≡ x ∷ take (length s - 1) (drop 1 s)
uncons [] x h e = absurd (omega arith)
uncons (y ∷ ys) x h e = ap (λ v. v ∷ ys) (sym e) ∙ ap (λ rest. x ∷ rest) (sym (take_all (length (y ∷ ys) - 1) ys (omega arith)))
