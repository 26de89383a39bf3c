-- A list to which items of another one are added, from a place on.
use Rattle.std.proofs.Common.{◌≡◌, ◌∙◌, sym, ap, refl, ℕ, zero, suc, ◌+◌, ◌-◌, ◌<◌, ◌≤◌, List, [], ◌∷◌, ◌++◌, length, take, drop, get_or, slice_get, Some, Bool, true, false, nat_lt, append_assoc, append-nil, take-add, drop-drop, length-drop, length-take-le, Option, None, MatchOption, arith}
use Rattle.std.proofs.Math.Seq.{take-append_seam}
use Rattle.std.proofs.lemmas.List.{length_push, take_all}
use Rattle.std.proofs.lemmas.Bool.Decides.{nat_tests}
use Rattle.std.proofs.lemmas.Option.{slice_get-get_or}

first_of_first : {X : Type 0} (less count : ℕ) (xs : List X) → less ≤ count → take less (take count xs) ≡ take less xs
first_of_first zero count xs few = refl
first_of_first (suc less) zero xs few = absurd (omega arith)
first_of_first (suc less) (suc count) [] few = refl
first_of_first (suc less) (suc count) (x ∷ xs) few = ap (λ rest. x ∷ rest) (first_of_first less count xs (omega arith))

-- nothing so far
pub none_added : {X : Type 0} (old other : List X) (place from : ℕ) → from ≡ place → old ≡ old ++ take (from - place) (drop place other)
none_added old other place from is =
    let n : from - place ≡ 0 = omega arith in
    sym (ap (λ k. old ++ take k (drop place other)) n ∙ append-nil old)

-- some more
pub some_added : {X : Type 0} (old now next other : List X) (place from count : ℕ) → now ≡ old ++ take (from - place) (drop place other) →
    next ≡ now ++ take count (drop from other) → place ≤ from → next ≡ old ++ take (from + count - place) (drop place other)
some_added old now next other place from count before is begun =
    let after : from + count - place ≡ (from - place) + count = omega arith in
    let there : place + (from - place) ≡ from = omega arith in
    let both : take ((from - place) + count) (drop place other) ≡ take (from - place) (drop place other) ++ take count (drop from other) =
    take-add (from - place) count (drop place other)
    ∙ ap (λ l. take (from - place) (drop place other) ++ take count l) (drop-drop (from - place) place other ∙ ap (λ n. drop n other) there) in
    is ∙ ap (λ l. l ++ take count (drop from other)) before ∙ append_assoc old (take (from - place) (drop place other)) (take count (drop from other))
    ∙ ap (λ l. old ++ l) (sym both) ∙ ap (λ k. old ++ take k (drop place other)) (sym after)

-- the one at a place
one_there : {X : Type 0} (xs : List X) (from : ℕ) (item : X) → from < length xs → item ≡ get_or xs from item → take 1 (drop from xs) ≡ item ∷ []
one_there [] from item within at = absurd (omega arith)
one_there (x ∷ xs) zero item within at = ap (λ y. y ∷ []) (sym at)
one_there (x ∷ xs) (suc from) item within at = one_there xs from item (omega arith) at

pub one_pushed : {X : Type 0} (old new other : List X) (from : ℕ) (item : X) → new ≡ old ++ item ∷ [] → from < length other → item ≡ get_or other from item →
    new ≡ old ++ take 1 (drop from other)
one_pushed old new other from item is within at = is ∙ ap (λ l. old ++ l) (sym (one_there other from item within at))

-- lists that are the same at a place
pub same_there : {X : Type 0} (xs ys : List X) (from k : ℕ) (x y : X) → from < length xs → from < length ys → x ≡ get_or xs from x → y ≡ get_or ys from y → x ≡ y →
    from ≤ k → k < from + 1 → slice_get xs k ≡ slice_get ys k
same_there xs ys from k x y within within' is is' same begun less =
    let here : from ≡ k = omega arith in
    ap (slice_get xs) (sym here) ∙ slice_get-get_or xs from x within ∙ ap Some (sym is ∙ same ∙ is') ∙ sym (slice_get-get_or ys from y within') ∙ ap (slice_get ys) here

-- all that there are
whole_added : {X : Type 0} (old now other : List X) (place from most : ℕ) → now ≡ old ++ take (from - place) (drop place other) → place ≤ from → from - place ≤ most →
    length other ≤ from → now ≡ old ++ take most (drop place other)
whole_added old now other place from most is begun few all =
    let long = length-drop place other in
    let one : take (from - place) (drop place other) ≡ drop place other = take_all (from - place) (drop place other) (omega arith) in
    let two : take most (drop place other) ≡ drop place other = take_all most (drop place other) (omega arith) in
    is ∙ ap (λ l. old ++ l) (one ∙ sym two)

ended_by : {X : Type 0} (old now other : List X) (place from most end : ℕ) (b : Bool) → nat_lt end (length other) ≡ b → now ≡ old ++ take (from - place) (drop place other) →
    place ≤ from → from - place ≤ most → end ≤ from → (end < length other → place + most ≤ end) → now ≡ old ++ take most (drop place other)
ended_by old now other place from most end true test is begun few there all =
    let less : end < length other = grind (arith, nat_tests) in
    let enough = all less in
    let same : from - place ≡ most = omega arith in
    is ∙ ap (λ n. old ++ take n (drop place other)) same
ended_by old now other place from most end false test is begun few there all =
    let beyond : length other ≤ end = grind (arith, nat_tests) in
    whole_added old now other place from most is begun few (omega arith)

-- at the end as many as were asked for, or all
pub added_at_end : {X : Type 0} (old now other : List X) (place from most end : ℕ) → now ≡ old ++ take (from - place) (drop place other) → place ≤ from → from - place ≤ most →
    end ≤ from → (end < length other → place + most ≤ end) → now ≡ old ++ take most (drop place other)
added_at_end old now other place from most end is begun few there all =
    ended_by old now other place from most end (nat_lt end (length other)) refl is begun few there all

-- the first ones are those that were there before
pub kept_front : {X : Type 0} (old now more : List X) → now ≡ old ++ more → take (length old) now ≡ old
kept_front old now more is = ap (take (length old)) is ∙ take-append_seam old more

-- all of them are the first ones, if there are this many
pub all_taken : {X : Type 0} (xs : List X) (count : ℕ) → length xs ≤ count → xs ≡ take count xs
all_taken xs count few = sym (take_all count xs few)

-- one of the first ones was taken off
pub one_taken_off : {X : Type 0} (xs old new : List X) (count less : ℕ) (taken : Option X) → old ≡ take count xs → less + 1 ≡ count → count ≤ length xs →
    MatchOption taken (old ≡ []) (λ item. old ≡ new ++ item ∷ []) → new ≡ take less xs
one_taken_off xs old new count less None is next within none =
    let long : length old ≡ count = ap length is ∙ length-take-le count xs within in
    let short : length old ≡ 0 = ap length none in
    absurd (omega arith)
one_taken_off xs old new count less (Some item) is next within left =
    let long : length old ≡ count = ap length is ∙ length-take-le count xs within in
    let more : length old ≡ length new + 1 = ap length left ∙ length_push new item in
    let same : length new ≡ less = omega arith in
    let first : take less old ≡ new = ap (λ n. take n old) (sym same) ∙ ap (take (length new)) left ∙ take-append_seam new (item ∷ []) in
    sym first ∙ ap (take less) is ∙ first_of_first less count xs (omega arith)
