-- Flags that are set one after the other, for the numbers that pass a test.
use Rattle.std.proofs.Common.{◌≡◌, ℕ, zero, suc, ◌<◌, ◌≤◌, Bool, true, false, List, [], ◌∷◌, ◌++◌, length, refl, sym, ap, subst, ◌∙◌, arith, length-set, inl, inr}
use Rattle.std.proofs.lemmas.Bool.Decides.{nat_tests}
use Rattle.std.specs.Prelude.{◌+◌, nat_lt, if◌then◌else◌, slice_index_or, slice_set, replicate}
use Rattle.std.proofs.lemmas.Bool.{cases_eq}
use Rattle.std.proofs.lemmas.List.{get_or-set_same, get_or-set_other}
use Rattle.std.proofs.lemmas.List.Sums.{fold-append}
use Rattle.grants.specs.Routes.{listed_below}
use Rattle.grants.specs.Invariant.{set_count, flags_after}

abbrev set_flag : (ℕ → Bool) → List Bool → ℕ → List Bool
set_flag value flags j = slice_set flags j (value j)

pub flags_stay_as_many : (value : ℕ → Bool) (js : List ℕ) (flags : List Bool) → length (flags_after value js flags) ≡ length flags
flags_stay_as_many value [] flags = refl
flags_stay_as_many value (j ∷ js) flags = flags_stay_as_many value js (slice_set flags j (value j)) ∙ length-set flags j (value j)

-- then one more, if it passes
next_flag : (value : ℕ → Bool) (count : ℕ) (b : Bool) (js : List ℕ) (flags : List Bool) →
    flags_after value (js ++ (if b then count ∷ [] else [])) flags ≡ (if b then slice_set (flags_after value js flags) count (value count) else flags_after value js flags)
next_flag value count true js flags = fold-append (set_flag value) flags js (count ∷ [])
next_flag value count false js flags = fold-append (set_flag value) flags js []

other_flag : (b v : Bool) (flags : List Bool) (count j : ℕ) → (j ≡ count → ⊥) →
    slice_index_or (if b then slice_set flags count v else flags) j false ≡ slice_index_or flags j false
other_flag true v flags count j n = get_or-set_other flags count j v false n
other_flag false v flags count j n = refl

here_flag : (b v : Bool) (flags : List Bool) (count : ℕ) → b ≡ true → count < length flags →
    slice_index_or (if b then slice_set flags count v else flags) count false ≡ v
here_flag true v flags count e l = get_or-set_same flags count v false l
here_flag false v flags count e l = cc

off_flag : (b v : Bool) (flags : List Bool) (count : ℕ) → b ≡ false →
    slice_index_or (if b then slice_set flags count v else flags) count false ≡ slice_index_or flags count false
off_flag true v flags count e = cc
off_flag false v flags count e = refl

-- one that passes has its new value
pub set_flag_is : (count : ℕ) (test value : ℕ → Bool) (flags : List Bool) (j : ℕ) → j < count → count ≤ length flags → test j ≡ true →
    slice_index_or (flags_after value (listed_below count test) flags) j false ≡ value j
set_flag_is zero test value flags j l m h = absurd (omega arith)
set_flag_is (suc count) test value flags j l m h =
    let before = flags_after value (listed_below count test) flags in
    ap (λ fs. slice_index_or fs j false) (next_flag value count (test count) (listed_below count test) flags)
    ∙ elim (cases_eq j count) [
      | inl e ↦
          let P : ℕ → Type 0 = λ k. slice_index_or (if test count then slice_set before count (value count) else before) k false ≡ value k in
          let passes : test count ≡ true = ap test (sym e) ∙ h in
          let within : count < length before = let long = flags_stay_as_many value (listed_below count test) flags in omega arith in
          subst P (sym e) (here_flag (test count) (value count) before count passes within)
      | inr n ↦ other_flag (test count) (value count) before count j n ∙ set_flag_is count test value flags j (omega arith) (omega arith) h
    ]

-- another keeps the one that it had
pub other_flag_stays : (count : ℕ) (test value : ℕ → Bool) (flags : List Bool) (j : ℕ) → test j ≡ false →
    slice_index_or (flags_after value (listed_below count test) flags) j false ≡ slice_index_or flags j false
other_flag_stays zero test value flags j h = refl
other_flag_stays (suc count) test value flags j h =
    let before = flags_after value (listed_below count test) flags in
    ap (λ fs. slice_index_or fs j false) (next_flag value count (test count) (listed_below count test) flags)
    ∙ elim (cases_eq j count) [
      | inl e ↦
          let P : ℕ → Type 0 = λ k. slice_index_or (if test count then slice_set before count (value count) else before) k false ≡ slice_index_or before k false in
          let fails : test count ≡ false = ap test (sym e) ∙ h in
          subst P (sym e) (off_flag (test count) (value count) before count fails)
      | inr n ↦ other_flag (test count) (value count) before count j n
    ]
    ∙ other_flag_stays count test value flags j h

-- ---- how many are set

abbrev one_if : Bool → ℕ
one_if b = if b then 1 else 0

-- after one of them changed
pub count_set : (flags : List Bool) (i : ℕ) (b : Bool) → i < length flags →
    set_count (slice_set flags i b) + one_if (slice_index_or flags i false) ≡ set_count flags + one_if b
count_set [] i b l = absurd (omega arith)
count_set (x ∷ rest) zero b l = omega arith
count_set (x ∷ rest) (suc i) b l = let more = count_set rest i b (omega arith) in omega arith

pub count_follows : (flags : List Bool) (i : ℕ) (was now : Bool) (count after : ℕ) → i < length flags → was ≡ slice_index_or flags i false → count ≡ set_count flags →
    after + one_if was ≡ count + one_if now → after ≡ set_count (slice_set flags i now)
count_follows flags i was now count after l e c n =
    let more = count_set flags i now l in
    let old : one_if was ≡ one_if (slice_index_or flags i false) = ap one_if e in
    omega (arith, more, old, c, n)

few_set : (b : Bool) → one_if b ≤ 1
few_set true = omega arith
few_set false = omega arith

pub count_within : (flags : List Bool) → set_count flags ≤ length flags
count_within [] = omega arith
count_within (x ∷ rest) = let here = few_set x in let more = count_within rest in omega arith

-- there is room for one more where one isn't set
pub count_unset : (flags : List Bool) (i : ℕ) → i < length flags → slice_index_or flags i false ≡ false → set_count flags < length flags
count_unset [] i l e = absurd (omega arith)
count_unset (true ∷ rest) zero l e = cc
count_unset (false ∷ rest) zero l e = let more = count_within rest in omega arith
count_unset (x ∷ rest) (suc i) l e = let here = few_set x in let more = count_unset rest i (omega arith) e in omega arith

pub count_is_set : (flags : List Bool) (i : ℕ) → slice_index_or flags i false ≡ true → 0 < set_count flags
count_is_set [] i e = cc
count_is_set (true ∷ rest) zero e = omega arith
count_is_set (false ∷ rest) zero e = cc
count_is_set (x ∷ rest) (suc i) e = let more = count_is_set rest i e in omega arith

pub count_all_unset : (flags : List Bool) → ((i : ℕ) → slice_index_or flags i false ≡ false) → set_count flags ≡ 0
count_all_unset [] h = refl
count_all_unset (x ∷ rest) h =
    let here : one_if x ≡ 0 = ap one_if (h 0) in
    let more = count_all_unset rest (λ i. h (suc i)) in omega arith

pub all_unset : (flags : List Bool) (i : ℕ) → set_count flags ≡ 0 → slice_index_or flags i false ≡ false
all_unset flags i none = by_case (slice_index_or flags i false) refl
  where
    by_case : (b : Bool) → slice_index_or flags i false ≡ b → b ≡ false
    by_case true e = let some = count_is_set flags i e in absurd (omega arith)
    by_case false e = refl

pub count_none_set : (count : ℕ) → set_count (replicate count false) ≡ 0
count_none_set zero = refl
count_none_set (suc count) = let more = count_none_set count in omega arith

-- none is counted where none is set, and so the other way round
pub none_counted : (flags : List Bool) (count : ℕ) → count ≡ set_count flags → (nat_lt 0 count ≡ false → (i : ℕ) → slice_index_or flags i false ≡ false)
    × (((i : ℕ) → slice_index_or flags i false ≡ false) → nat_lt 0 count ≡ false)
none_counted flags count e = (
  (λ none i. (let zero_so : count ≡ 0 = grind (arith, nat_tests) in all_unset flags i (sym e ∙ zero_so))),
  (λ h. (let zero_so : count ≡ 0 = e ∙ count_all_unset flags h in grind (arith, nat_tests))),
)
