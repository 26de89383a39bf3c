-- Names pushed one after another.
use Rattle.std.proofs.Common.{◌≡◌, ℕ, ◌+◌, ◌<◌, List, [], ◌∷◌, ◌++◌, length, map, take, get_or, ap, sym, ◌∙◌, append_assoc}
use Rattle.std.proofs.lemmas.List.{map-append, map_more}

pub pushed_more : {X Y Z : Type 0} (f : X → Z) (g : Y → Z) (xs more : List X) (before : List Z) (ys : List Y) (i : ℕ) (x : X) (y : Y)
    → i < length ys → y ≡ get_or ys i y → more ≡ xs ++ x ∷ [] → f x ≡ g y
    → map f xs ≡ before ++ map g (take i ys) → map f more ≡ before ++ map g (take (i + 1) ys)
pushed_more {X} {Y} {Z} f g xs more before ys i x y below here pushed same so_far =
    let last : f x ≡ g (get_or ys i y) = same ∙ ap g here in
    let grown : map g (take (i + 1) ys) ≡ map g (take i ys) ++ f x ∷ []
    = map_more g ys i y below ∙ ap (λ (z : Z). map g (take i ys) ++ z ∷ []) (sym last) in
    ap (map f) pushed ∙ map-append f xs (x ∷ []) ∙ ap (λ zs. zs ++ f x ∷ []) so_far ∙ rw append_assoc (ap (λ zs. before ++ zs) (sym grown))
