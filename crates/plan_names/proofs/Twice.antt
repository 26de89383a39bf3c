-- An element at two places of a list, or at one place alone.
use Rattle.std.proofs.Common.{◌≡◌, ℕ, ◌<◌, List, [], length, map, take, ap, sym, ◌∙◌, arith, get_or, min}
use Rattle.std.specs.Prelude.{Any, Some, slice_get}
use Rattle.std.specs.Option.{option_map}
use Rattle.std.proofs.lemmas.List.{get_or-map, get_or-take, get_or_default, length-take}
use Rattle.std.proofs.lemmas.Option.{slice_get-map, slice_get-get_or}
use Rattle.std.proofs.lemmas.Slice.Eq.{bytes_eq-Decides}
use Rattle.std.proofs.lemmas.Map.Made.{IsDistinct-from_AllPairs}
use Rattle.plan_names.specs.Naming.{AreDistinct}
use Rattle.plan_names.specs.Naming.{StandsTwice}

pub mapped_at : {X Y : Type 0} (f : X → Y) (xs : List X) (k : ℕ) (z : X) → k < length xs → get_or xs k z ≡ z → slice_get (map f xs) k ≡ Some (f z)
mapped_at f xs k z below here =
    slice_get-map f xs k ∙ ap (option_map f) (slice_get-get_or xs k z below ∙ ap (λ w. Some w) here)

-- what stands at a place, and before it
pub twice_mapped : {X Y : Type 0} (f : X → Y) (xs : List X) (place : ℕ) (x : X) (y : Y)
    → place < length xs → x ≡ get_or xs place x → Any (λ z. f z ≡ f x) (take place xs) → y ≡ f x → StandsTwice (map f xs) y
twice_mapped f xs place x y below here (k, z, k_below, k_here, same) same_y =
    let bound : length (take place xs) ≡ min place (length xs) = length-take place xs in
    let k_first : k < place = omega arith in
    let k_there : k < length xs = omega arith in
    record {
      first = k;
      later = place;
      in_order = k_first;
      at_first = mapped_at f xs k z k_there (sym (get_or-take place xs k z k_first) ∙ k_here) ∙ ap (λ w. Some w) (same ∙ sym same_y);
      at_later = mapped_at f xs place x below (sym here) ∙ ap (λ w. Some w) (sym same_y);
    }

-- where nothing before a place has what stands there
pub apart_before : {X Y : Type 0} (f : X → Y) (xs : List X) (place : ℕ) (x : X) (d : Y)
    → place < length xs → x ≡ get_or xs place x → (Any (λ z. f z ≡ f x) (take place xs) → ⊥)
    → (j : ℕ) → j < place → get_or (map f xs) j d ≡ get_or (map f xs) place d → ⊥
apart_before f xs place x d below here none j j_below same =
    let bound : length (take place xs) ≡ min place (length xs) = length-take place xs in
    let j_there : j < length xs = omega arith in
    let j_taken : j < length (take place xs) = omega arith in
    let at_j : get_or (map f xs) j d ≡ f (get_or xs j x) = get_or-map f xs j x d j_there in
    let at_place : get_or (map f xs) place d ≡ f (get_or xs place x) = get_or-map f xs place x d below in
    let taken : get_or (take place xs) j (get_or xs j x) ≡ get_or xs j (get_or xs j x) = get_or-take place xs j (get_or xs j x) j_below in
    let again : get_or xs j (get_or xs j x) ≡ get_or xs j x = get_or_default xs j (get_or xs j x) x j_there in
    none (j, get_or xs j x, j_taken, taken ∙ again, sym at_j ∙ same ∙ at_place ∙ ap f (sym here))

-- names no two of which are one
pub distinct_from_apart : (names : List (List ℕ))
    → ((j k : ℕ) → j < k → k < length names → get_or names j [] ≡ get_or names k [] → ⊥) → AreDistinct names
distinct_from_apart names apart =
    IsDistinct-from_AllPairs bytes_eq-Decides names
    (λ j k d j_below k_below same.
    apart j k j_below k_below
    (get_or_default names j [] d (omega arith) ∙ same ∙ get_or_default names k d [] k_below))
