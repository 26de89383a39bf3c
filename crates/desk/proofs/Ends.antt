-- Lists that end with an item.
use Rattle.std.proofs.Common.{◌≡◌, ◌≢◌, ◌∙◌, ◌↔◌, sym, ap, ◌+◌, Bool, true, false, Option, None, Some, MatchOption, List, [], ◌∷◌, ◌++◌, length, take, slice_get, arith}
use Rattle.std.proofs.lemmas.List.{length_push}
use Rattle.std.proofs.Math.Seq.{take-append_seam}
use Rattle.node_journal.proofs.Places.{get_right}

-- an item was added, and taken off again
pub undone : {X : Type 0} (old more new : List X) (item : X) (taken : Option X) → more ≡ old ++ item ∷ [] →
    MatchOption taken (more ≡ []) (λ other. more ≡ new ++ other ∷ []) → new ≡ old
undone old more new item None added none =
    let long : length more ≡ length old + 1 = ap length added ∙ length_push old item in
    let short : length more ≡ 0 = ap length none in
    absurd (omega arith)
undone old more new item (Some other) added left =
    let one : length more ≡ length old + 1 = ap length added ∙ length_push old item in
    let two : length more ≡ length new + 1 = ap length left ∙ length_push new other in
    let same : length new ≡ length old = omega arith in
    sym (take-append_seam new (other ∷ [])) ∙ ap (take (length new)) (sym left ∙ added) ∙ ap (λ n. take n (old ++ item ∷ [])) same ∙ take-append_seam old (item ∷ [])

-- what is taken off is the last one
pub taken_last : {X : Type 0} (old front new : List X) (item : X) (taken : Option X) → old ≡ front ++ item ∷ [] →
    MatchOption taken (old ≡ []) (λ other. old ≡ new ++ other ∷ []) → old ≡ new ++ item ∷ []
taken_last old front new item taken is left = is ∙ ap (λ l. l ++ item ∷ []) (sym (undone front old new item taken is left))

last_is : {X : Type 0} (xs ys : List X) (x y : X) → xs ++ x ∷ [] ≡ ys ++ y ∷ [] → x ≡ y
last_is xs ys x y is =
    let one = length_push xs x in
    let two = length_push ys y in
    let same : length (xs ++ x ∷ []) ≡ length (ys ++ y ∷ []) = ap length is in
    let both : Some x ≡ Some y = sym (get_right xs (x ∷ []) 0 (length xs) (omega arith)) ∙ ap (λ l. slice_get l (length xs)) is
    ∙ get_right ys (y ∷ []) 0 (length xs) (omega arith) in
    grind (arith, both)

-- a list that ends with another item doesn't end with this one
pub not_last : {X : Type 0} (old front other : List X) (last item : X) (b : Bool) → old ≡ front ++ last ∷ [] → (b ≡ true) ↔ (last ≡ item) → b ≡ false → old ≢ other ++ item ∷ []
not_last old front other last item b is decides differs same =
    let ends : b ≡ true = decides.1 (last_is front other last item (sym is ∙ same)) in
    grind (arith, ends, differs)

-- nor does one without items
pub none_last : {X : Type 0} (old other : List X) (item : X) → old ≡ [] → old ≢ other ++ item ∷ []
none_last old other item none same =
    let long : length old ≡ length other + 1 = ap length same ∙ length_push other item in
    let short : length old ≡ 0 = ap length none in
    omega arith
