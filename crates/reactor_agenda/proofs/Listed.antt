-- What is listed of a function is what it has there.
use Rattle.std.proofs.Common.{◌≡◌, ◌≢◌, ℕ, zero, suc, ◌+◌, ◌<◌, ◌≤◌, ℤ, ◌++◌, Option, None, Some, List, refl, ◌∙◌, arith, eq-eqb, inl, inr}
use Rattle.std.proofs.lemmas.Bool.{ne_eqb}
use Rattle.std.proofs.Math.Nat.{eq-or-lt_of_le}
use Rattle.network.specs.Event.{Entry, entry_at, listed_from, listed, value_at}

skips : (first place : ℕ) (v : Option ℤ) (rest : List Entry) → first ≢ place → value_at (entry_at first v ++ rest) place ≡ value_at rest place
skips first place None rest apart = refl
skips first place (Some x) rest apart = rw (ne_eqb first place apart) refl

here : (place : ℕ) (v : Option ℤ) (rest : List Entry) → value_at rest place ≡ None → value_at (entry_at place v ++ rest) place ≡ v
here place None rest none = none
here place (Some x) rest none = rw (eq-eqb place place refl) refl

none_before : (first count : ℕ) (f : ℕ → Option ℤ) (place : ℕ) → place < first → value_at (listed_from first count f) place ≡ None
none_before first zero f place before = refl
none_before first (suc count) f place before =
    let apart : first ≢ place = λ same. absurd (omega arith) in
    skips first place (f first) (listed_from (first + 1) count f) apart ∙ none_before (first + 1) count f place (omega arith)

value_from : (first count : ℕ) (f : ℕ → Option ℤ) (place : ℕ) → first ≤ place → place < first + count → value_at (listed_from first count f) place ≡ f place
value_from first zero f place low high = absurd (omega arith)
value_from first (suc count) f place low high =
    elim (eq-or-lt_of_le low) [
      | inl same ↦ rw same (here place (f place) (listed_from (place + 1) count f) (none_before (place + 1) count f place (omega arith)))
      | inr later ↦
          let apart : first ≢ place = λ same. absurd (omega arith) in
          skips first place (f first) (listed_from (first + 1) count f) apart ∙ value_from (first + 1) count f place (omega arith) (omega arith)
    ]

pub listed_value : (count : ℕ) (f : ℕ → Option ℤ) (place : ℕ) → place < count → value_at (listed count f) place ≡ f place
listed_value count f place below = value_from 0 count f place (omega arith) (omega arith)
