-- What a list has at a place, and one item more.
use Rattle.std.proofs.Common.{◌≡◌, ◌∙◌, sym, ap, ap₂, refl, ℕ, zero, suc, ◌+◌, ◌<◌, ◌≤◌, List, [], ◌∷◌, ◌++◌, length, take, get_or, slice_get, Option, None, Some, option_map, Bor, take-suc, arith}
use Rattle.std.specs.Slice.{IsItemAt}
use Rattle.std.proofs.lemmas.Option.{slice_get_within, slice_get_past, slice_get-get_or, get_or_from_slice_get}

-- two lists, one after the other
pub get_left : {X : Type 0} (xs ys : List X) (i : ℕ) → i < length xs → slice_get (xs ++ ys) i ≡ slice_get xs i
get_left [] ys i less = absurd (omega arith)
get_left (x ∷ xs) ys zero less = refl
get_left (x ∷ xs) ys (suc i) less = get_left xs ys i (omega arith)

pub get_right : {X : Type 0} (xs ys : List X) (i k : ℕ) → k ≡ length xs + i → slice_get (xs ++ ys) k ≡ slice_get ys i
get_right [] ys i k is = let same : k ≡ i = omega arith in ap (slice_get ys) same
get_right (x ∷ xs) ys i zero is = absurd (omega arith)
get_right (x ∷ xs) ys i (suc k) is = get_right xs ys i k (omega arith)

-- the first items of a list
pub get_first : {X : Type 0} (xs : List X) (n i : ℕ) → i < n → slice_get (take n xs) i ≡ slice_get xs i
get_first xs zero i less = absurd (omega arith)
get_first [] (suc n) i less = refl
get_first (x ∷ xs) (suc n) zero less = refl
get_first (x ∷ xs) (suc n) (suc i) less = get_first xs n i (omega arith)

-- one more of the first ones
pub take_next : {X : Type 0} (xs : List X) (n : ℕ) (x : X) → slice_get xs n ≡ Some x → take (suc n) xs ≡ take n xs ++ x ∷ []
take_next xs n x is =
    take-suc xs n x (slice_get_within xs n x is) ∙ ap (λ y. take n xs ++ y ∷ []) (get_or_from_slice_get xs n x x is)

-- where there is none, the list has ended
pub past : {X : Type 0} (xs : List X) (i : ℕ) → None ≡ slice_get xs i → length xs ≤ i
past [] i none = omega arith
past (x ∷ xs) zero none = let bad : ⊥ = grind (arith, none) in absurd bad
past (x ∷ xs) (suc i) none = let rest = past xs i none in omega arith

-- what there is
pub some_at : {X : Type 0} (xs : List X) (i : ℕ) (x : X) → Some x ≡ slice_get xs i → x ≡ get_or xs i x
some_at xs i x is = sym (get_or_from_slice_get xs i x x (sym is))

-- what is lent of a place
pub lent_in : {X : Type 0} (xs : List X) (i : ℕ) (r : Option (Bor X)) → IsItemAt xs i r → option_map (λ (x : Bor X). x.now) r ≡ slice_get xs i
lent_in xs i None is = sym (slice_get_past xs i is.3)
lent_in xs i (Some x) is = sym (slice_get-get_or xs i x.now is.3.0 ∙ ap Some (sym is.1))

-- lists that are as long, and the same at each place
pub same_items : {X : Type 0} (xs ys : List X) → length xs ≡ length ys → ((k : ℕ) → k < length xs → slice_get xs k ≡ slice_get ys k) → xs ≡ ys
same_items [] [] long same = refl
same_items [] (y ∷ ys) long same = absurd (omega arith)
same_items (x ∷ xs) [] long same = absurd (omega arith)
same_items {X = X} (x ∷ xs) (y ∷ ys) long same =
    let first : Some x ≡ Some y = same 0 (omega arith) in
    let one : x ≡ y = grind (arith, first) in
    ap₂ (λ (a : X) (l : List X). a ∷ l) one (same_items xs ys (omega arith) (λ k less. same (suc k) (omega (arith, less))))
