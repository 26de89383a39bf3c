-- Two lists whose items fit, place by place, as both grow.
use Rattle.std.proofs.Common.{◌≡◌, ℕ, zero, suc, ◌+◌, ◌<◌, List, [], ◌∷◌, ◌++◌, length, get_or, take, sym, subst, arith, add-one, Some, refl, ap}
use Rattle.std.specs.Prelude.{slice_get}
use Rattle.std.specs.List.{AllZip}

grow : {A B : Type 0} (R : A → B → Type 0) (xs : List A) (ys : List B) (i : ℕ) (x : A) (y : B) → i < length ys → y ≡ get_or ys i y
    → AllZip R xs (take i ys) → R x y → AllZip R (xs ++ x ∷ []) (take (suc i) ys)
grow R xs [] i x y h e a r = absurd (omega arith)
grow R [] (z ∷ ys) zero x y h e a r = (subst (R x) e r, tt)
grow R (w ∷ ws) (z ∷ ys) zero x y h e a r = absurd a
grow R [] (z ∷ ys) (suc i) x y h e a r = absurd a
grow R (w ∷ ws) (z ∷ ys) (suc i) x y h e a r = (a.0, grow R ws ys i x y (omega arith) e a.1 r)

pub all_zip_grow : {A B : Type 0} (R : A → B → Type 0) (xs : List A) (ys : List B) (i : ℕ) (x : A) (y : B) → i < length ys → y ≡ get_or ys i y
    → AllZip R xs (take i ys) → R x y → AllZip R (xs ++ x ∷ []) (take (i + 1) ys)
all_zip_grow R xs ys i x y h e a r = rw add-one (grow R xs ys i x y h e a r)

pub all_zip_lengths : {A B : Type 0} (R : A → B → Type 0) (xs : List A) (ys : List B) → AllZip R xs ys → length xs ≡ length ys
all_zip_lengths R [] [] h = refl
all_zip_lengths R [] (y ∷ ys) h = absurd h
all_zip_lengths R (x ∷ xs) [] h = absurd h
all_zip_lengths R (x ∷ xs) (y ∷ ys) h = ap suc (all_zip_lengths R xs ys h.1)
