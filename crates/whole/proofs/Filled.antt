-- Lists with a value for each number below their length.
use Rattle.std.proofs.Common.{◌≡◌, ℕ, zero, suc, ◌+◌, ◌<◌, true, false, List, [], ◌∷◌, ◌++◌, length, nat_lt, Option, None, Some, slice_get, refl, sym, ap, ◌∙◌, arith, inl, inr}
use Rattle.std.specs.Prelude.{if◌then◌else◌}
use Rattle.std.specs.Option.{option_map}
use Rattle.std.proofs.lemmas.Bool.{cases_lt, cases_eq}
use Rattle.std.proofs.lemmas.Bool.Decides.{nat_tests}
use Rattle.std.proofs.lemmas.List.{length-append}
use Rattle.std.proofs.lemmas.Option.{slice_get_past}

pub get_early : {X : Type 0} (xs ys : List X) (k : ℕ) → k < length xs → slice_get (xs ++ ys) k ≡ slice_get xs k
get_early [] ys k h = absurd (omega arith)
get_early (x ∷ xs) ys zero h = refl
get_early (x ∷ xs) ys (suc k) h = get_early xs ys k (omega arith)

pub get_last : {X : Type 0} (xs : List X) (x : X) → slice_get (xs ++ x ∷ []) (length xs) ≡ Some x
get_last [] x = refl
get_last (y ∷ xs) x = get_last xs x

pub get_beyond : {X : Type 0} (xs : List X) (x : X) (k : ℕ) → length xs < k → slice_get (xs ++ x ∷ []) k ≡ None
get_beyond xs x k h = let many = length-append xs (x ∷ []) in slice_get_past (xs ++ x ∷ []) k (omega arith)

-- as many elements as a number, each as it should be
pub record IsFilled {X Y : Type 0} (shown : X → Y) (xs : List X) (count : ℕ) (value : ℕ → Y) : Type 0 where
  pub many : length xs ≡ count
  pub each : (k : ℕ) → option_map shown (slice_get xs k) ≡ (if nat_lt k count then Some (value k) else None)

pub filled_more : {X Y : Type 0} (shown : X → Y) (xs : List X) (count : ℕ) (value : ℕ → Y) (x : X) → IsFilled shown xs count value → shown x ≡ value count → IsFilled shown (xs ++ x ∷ []) (count + 1) value
filled_more shown xs count value x w e = record {
  many = (let so_far = w.many in length-append xs (x ∷ []) ∙ omega arith);
  each = λ k. elim (cases_lt k count) [
    | inl low ↦ (
        let a : nat_lt k count ≡ true = grind (arith, nat_tests) in
        let b : nat_lt k (count + 1) ≡ true = grind (arith, nat_tests) in
        let so_far = w.many in
        ap (option_map shown) (get_early xs (x ∷ []) k (omega arith)) ∙ (w.each k ∙ (ap (λ t. if t then Some (value k) else None) a ∙ sym (ap (λ t. if t then Some (value k) else None) b))))
    | inr high ↦ (elim (cases_eq k count) [
      | inl same ↦ (
          let b : nat_lt k (count + 1) ≡ true = grind (arith, nat_tests) in
          let at : k ≡ length xs = same ∙ sym w.many in
          ap (λ j. option_map shown (slice_get (xs ++ x ∷ []) j)) at ∙ (ap (option_map shown) (get_last xs x) ∙ (ap (λ v. Some v) (e ∙ ap value (sym same)) ∙ sym (ap (λ t. if t then Some (value k) else None) b))))
      | inr other ↦ (
          let b : nat_lt k (count + 1) ≡ false = grind (arith, nat_tests) in
          let so_far = w.many in
          ap (option_map shown) (get_beyond xs x k (omega arith)) ∙ sym (ap (λ t. if t then Some (value k) else None) b))
    ])
  ];
}

pub filled_none : {X Y : Type 0} (shown : X → Y) (value : ℕ → Y) → IsFilled shown [] 0 value
filled_none shown value = record { many = refl; each = λ k. (let b : nat_lt k 0 ≡ false = grind (arith, nat_tests) in sym (ap (λ t. if t then Some (value k) else None) b)) }

pub plain : {X : Type 0} (o : Option X) → option_map (λ x. x) o ≡ o
plain None = refl
plain (Some x) = refl
