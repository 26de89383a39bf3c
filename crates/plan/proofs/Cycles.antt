-- Names along a cycle.
use Rattle.std.proofs.Common.{◌≡◌, ℕ, ◌+◌, ◌<◌, List, [], ◌∷◌, ◌++◌, length, map, ap, sym, ◌∙◌, get_or, take}
use Rattle.std.proofs.lemmas.List.{map-append, take_more}

pub mapped_more : {X Y Z : Type 0} (f : X → Z) (g : Y → Z) (xs : List X) (ys more : List Y) (i : ℕ) (x : X) (y : Y)
    → i < length xs → x ≡ get_or xs i x → more ≡ ys ++ y ∷ [] → map g ys ≡ map f (take i xs) → g y ≡ f x → map g more ≡ map f (take (i + 1) xs)
mapped_more f g xs ys more i x y below here pushed so_far same =
    ap (map g) pushed ∙ map-append g ys (y ∷ []) ∙ ap (λ zs. zs ++ g y ∷ []) so_far ∙ ap (λ z. map f (take i xs) ++ z ∷ []) (same ∙ ap f here)
    ∙ sym (map-append f (take i xs) (get_or xs i x ∷ [])) ∙ ap (map f) (sym (take_more xs i x below))
