-- Lists that grow by a step.
use Rattle.std.proofs.Common.{◌≡◌, ℕ, ◌+◌, ◌<◌, List, ◌++◌, length, take, get_or, sym, ap, ◌∙◌, append_assoc, append-nil}
use Rattle.std.specs.List.{flat_map}
use Rattle.std.proofs.lemmas.List.{take_more}
use Rattle.std.proofs.lemmas.Grind.{flat_map-append}

-- one more item's elements
pub collected :
    {X Y : Type 0} (f : X → List Y) (base before after : List Y) (xs : List X) (i : ℕ) (x : X) → i < length xs → x ≡ get_or xs i x →
    before ≡ base ++ flat_map f (take i xs) → after ≡ before ++ f x → after ≡ base ++ flat_map f (take (i + 1) xs)
collected f base before after xs i x h is so_far more =
    let next : flat_map f (take (i + 1) xs) ≡ flat_map f (take i xs) ++ f x =
    rw (take_more xs i x h, flat_map-append, append-nil) (ap (λ y. flat_map f (take i xs) ++ f y) (sym is)) in
    more ∙ ap (λ ys. ys ++ f x) so_far ∙ append_assoc base (flat_map f (take i xs)) (f x) ∙ ap (λ ys. base ++ ys) (sym next)
