-- Where names stand.
use Rattle.std.proofs.Common.{◌≡◌, ℕ, suc, zero, ◌+◌, ◌<◌, ◌≤◌, Bool, true, false, inl, inr, List, [], ◌∷◌, length, map, position, refl, ap, sym, ◌∙◌, arith, nat_lt}
use Rattle.std.specs.Prelude.{Option, None, Some, slice_get, if◌then◌else◌}
use Rattle.std.specs.Option.{option_map}
use Rattle.std.specs.List.{position_or_len}
use Rattle.std.proofs.lemmas.Bool.{cases_Bool, ltb-true, ltb-false, lt-ltb, le-ltb}
use Rattle.std.proofs.lemmas.List.{map-id}
use Rattle.std.specs.Str.{bytes_eq}
use Rattle.std.proofs.lemmas.Slice.Eq.{bytes_eq-Decides}
use Rattle.plan_names.specs.Naming.{place_of}

false_from : (b : Bool) → (b ≡ true → ⊥) → b ≡ false
false_from true h = absurd (h refl)
false_from false h = refl

-- two names are one, or the test tells them apart
pub bytes_eq-yes : (a b : List ℕ) → a ≡ b → bytes_eq a b ≡ true
bytes_eq-yes a b e = (bytes_eq-Decides a b).1 e

pub bytes_eq-no : (a b : List ℕ) → (a ≡ b → ⊥) → bytes_eq a b ≡ false
bytes_eq-no a b n = false_from (bytes_eq a b) (λ e. n ((bytes_eq-Decides a b).0 e))

pub place_of-first : (m : List ℕ) (names : List (List ℕ)) (name : List ℕ) → bytes_eq m name ≡ true → place_of (m ∷ names) name ≡ Some 0
place_of-first m names name e = rw e refl

pub place_of-rest : (m : List ℕ) (names : List (List ℕ)) (name : List ℕ) → bytes_eq m name ≡ false
    → place_of (m ∷ names) name ≡ option_map suc (place_of names name)
place_of-rest m names name e = rw e refl

-- the place of a name, as a search for it finds it
place-next : (b : Bool) (k n : ℕ) → nat_lt k n ≡ b → (if nat_lt (1 + k) (suc n) then Some (1 + k) else None) ≡ option_map suc (if nat_lt k n then Some k else None)
place-next true k n is =
    let below : k < n = ltb-true k n is in
    let more : 1 + k < suc n = omega arith in
    let next : 1 + k ≡ suc k = omega arith in
    rw (is, lt-ltb (1 + k) (suc n) more, next) refl
place-next false k n is =
    let above : n ≤ k = ltb-false k n is in
    let more : suc n ≤ 1 + k = omega arith in
    rw (is, le-ltb (1 + k) (suc n) more) refl

pub position-is : {X : Type 0} (name_of : X → List ℕ) (name : List ℕ) (xs : List X)
    → position (λ x. bytes_eq (name_of x) name) xs ≡ place_of (map name_of xs) name
position-is name_of name [] = refl
position-is {X} name_of name (first ∷ rest) =
    let places : ℕ = position_or_len (λ (x : X). bytes_eq (name_of x) name) rest in
    let after : position (λ (x : X). bytes_eq (name_of x) name) rest ≡ place_of (map name_of rest) name = position-is name_of name rest in
    elim (cases_Bool (bytes_eq (name_of first) name)) [
      | inl same ↦ let some : 0 < suc (length rest) = omega arith in rw (same, lt-ltb 0 (suc (length rest)) some) refl
      | inr other ↦ rw other (place-next (nat_lt places (length rest)) places (length rest) refl ∙ ap (λ o. option_map suc o) after)
    ]

-- names are what has them as names
pub place_of-names : (names : List (List ℕ)) (name : List ℕ) → place_of (map (λ n. n) names) name ≡ place_of names name
place_of-names names name = ap (λ ns. place_of ns name) (map-id names)

suc-some : (o : Option ℕ) (k : ℕ) → option_map suc o ≡ Some (suc k) → o ≡ Some k
suc-some None k e = cc
suc-some (Some j) k e = let f : suc j ≡ suc k = cc in let g : j ≡ k = omega arith in ap (λ n. Some n) g

suc-zero : (o : Option ℕ) → option_map suc o ≡ Some 0 → ⊥
suc-zero None e = cc
suc-zero (Some j) e = let f : suc j ≡ 0 = cc in omega arith

place_of-cases : (m : List ℕ) (names : List (List ℕ)) (name : List ℕ) (b : Bool) → bytes_eq m name ≡ b
    → place_of (m ∷ names) name ≡ (if b then Some 0 else option_map suc (place_of names name))
place_of-cases m names name b e = rw e refl

first_or_later : (m : List ℕ) (names : List (List ℕ)) (name : List ℕ)
    → ((k : ℕ) → place_of names name ≡ Some k → slice_get names k ≡ Some name)
    → (b : Bool) → bytes_eq m name ≡ b → (i : ℕ) → place_of (m ∷ names) name ≡ Some i → slice_get (m ∷ names) i ≡ Some name
first_or_later m names name further true h zero e = ap (λ n. Some n) ((bytes_eq-Decides m name).0 h)
first_or_later m names name further true h (suc i) e =
    let f : Some 0 ≡ Some (suc i) = sym (place_of-cases m names name true h) ∙ e in
    let g : 0 ≡ suc i = cc in absurd (omega arith)
first_or_later m names name further false h zero e =
    absurd (suc-zero (place_of names name) (sym (place_of-cases m names name false h) ∙ e))
first_or_later m names name further false h (suc i) e =
    further i (suc-some (place_of names name) i (sym (place_of-cases m names name false h) ∙ e))

-- where `place_of` says, the name stands
pub slice_get-place_of : (names : List (List ℕ)) (name : List ℕ) (i : ℕ) → place_of names name ≡ Some i → slice_get names i ≡ Some name
slice_get-place_of [] name i e = cc
slice_get-place_of (m ∷ names) name i e =
    first_or_later m names name (slice_get-place_of names name) (bytes_eq m name) refl i e

pub ruleset same_names = (map-id)
