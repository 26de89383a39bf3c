-- Parts that are written one after the other, as a loop does.
use Rattle.std.proofs.Common.{◌≡◌, ℕ, ◌+◌, ◌^◌, ◌<◌, ◌≤◌, List, [], ◌∷◌, ◌++◌, length, take, get_or, refl, sym, ap, subst, ◌∙◌, append_assoc, arith, inl, inr}
use Rattle.std.specs.List.{flat_map, AllByRecursion}
use Rattle.std.proofs.lemmas.Bool.{cases_lt}
use Rattle.std.proofs.lemmas.List.{append-nil, take_more, take_all, get_or_read_under}
use Rattle.std.proofs.lemmas.List.Concat.{flat_map-append}
use Rattle.byteorder.specs.Endian.{big_bytes}
use Rattle.files_reports.specs.Said.{AreCounted}
use Rattle.files_reports.specs.Spelling.{counted}
use Rattle.files_reports.proofs.Loops.{each_and_one}

-- two parts, one behind the other
pub both_written : (old middle new first second : List ℕ) → middle ≡ old ++ first → new ≡ middle ++ second → new ≡ old ++ (first ++ second)
both_written old middle new first second a b = b ∙ ap (λ (l : List ℕ). l ++ second) a ∙ append_assoc old first second

-- the first ones, this many, are written behind what was there
pub record AreWritten {X : Type 0} (spelling : X → List ℕ) (Is : X → Type 0) (xs : List X) (before : List ℕ) (so_far : ℕ) (bytes : List ℕ) : Type 0 where
  pub written : bytes ≡ before ++ flat_map spelling (take so_far xs)
  pub each : AllByRecursion Is (take so_far xs)

pub none_written : {X : Type 0} (spelling : X → List ℕ) (Is : X → Type 0) (xs : List X) (before : List ℕ) → AreWritten spelling Is xs before 0 before
none_written spelling Is xs before = record { written = sym (append-nil before); each = tt }

pub one_written : {X : Type 0} (spelling : X → List ℕ) (Is : X → Type 0) (xs : List X) (before : List ℕ) (so_far : ℕ) (bytes : List ℕ) (x : X) (new : List ℕ)
    → so_far < length xs → x ≡ get_or xs so_far x → Is x → new ≡ bytes ++ spelling x → AreWritten spelling Is xs before so_far bytes → AreWritten spelling Is xs before (so_far + 1) new
one_written {X = X} spelling Is xs before so_far bytes x new less e one w h =
    let more : take (so_far + 1) xs ≡ take so_far xs ++ x ∷ [] =
    take_more xs so_far x less ∙ ap (λ (y : X). take so_far xs ++ y ∷ []) (sym e) in
    let all : flat_map spelling (take (so_far + 1) xs) ≡ flat_map spelling (take so_far xs) ++ spelling x =
    ap (flat_map spelling) more ∙ flat_map-append spelling (take so_far xs) (x ∷ [])
    ∙ ap (λ (b : List ℕ). flat_map spelling (take so_far xs) ++ b) (append-nil (spelling x)) in
    record {
      written = w ∙ ap (λ (b : List ℕ). b ++ spelling x) h.written ∙ append_assoc before (flat_map spelling (take so_far xs)) (spelling x) ∙ ap (λ (b : List ℕ). before ++ b) (sym all);
      each = subst (AllByRecursion Is) (sym more) (each_and_one Is (take so_far xs) x h.each one);
    }

-- all of them, behind their count
pub record AllAreWritten {X : Type 0} (spelling : X → List ℕ) (Is : X → Type 0) (xs : List X) (before bytes : List ℕ) : Type 0 where
  pub written : bytes ≡ before ++ counted spelling xs
  pub are_counted : AreCounted Is xs

pub all_written : {X : Type 0} (spelling : X → List ℕ) (Is : X → Type 0) (xs : List X) (before start : List ℕ) (count so_far : ℕ) (bytes : List ℕ)
    → start ≡ before ++ big_bytes 8 count → count ≡ length xs → count < 2 ^ 64 → length xs ≤ so_far → AreWritten spelling Is xs start so_far bytes → AllAreWritten spelling Is xs before bytes
all_written {X = X} spelling Is xs before start count so_far bytes first same fits past h =
    let all : take so_far xs ≡ xs = take_all so_far xs past in
    let behind : bytes ≡ start ++ flat_map spelling xs = h.written ∙ ap (λ (ys : List X). start ++ flat_map spelling ys) all in
    record {
      written = behind ∙ ap (λ (b : List ℕ). b ++ flat_map spelling xs) first ∙ append_assoc before (big_bytes 8 count) (flat_map spelling xs)
          ∙ ap (λ (n : ℕ). before ++ (big_bytes 8 n ++ flat_map spelling xs)) same;
      are_counted = (omega (arith, same), subst (AllByRecursion Is) all h.each);
    }

-- what holds of those so far, and of one more
pub one_more : {X : Type 0} (P : X → Type 0) (xs : List X) (so_far : ℕ) (x : X) → so_far < length xs → x ≡ get_or xs so_far x → P x → ((k : ℕ) (d : X) → k < so_far → P (get_or xs k d))
    → (k : ℕ) (d : X) → k < so_far + 1 → P (get_or xs k d)
one_more P xs so_far x less e one h k d below =
    elim (cases_lt k so_far) [
      | inl earlier ↦ h k d earlier
      | inr le ↦
          let last : so_far ≡ k = omega arith in
          subst (λ (n : ℕ). P (get_or xs n d)) last (subst P (get_or_read_under xs so_far (length xs) x d e less refl) one)
    ]
