-- A tag before the least arrival is before each of them.
use Rattle.std.proofs.Common.{◌≡◌, ◌<◌, ◌≤◌, ◌+◌, ℕ, zero, suc, Bool, true, false, List, [], ◌∷◌, ◌++◌, sym, ap, ◌∙◌, subst, arith, length, take, slice_index_or}
use Rattle.std.specs.List.{fold}
use Rattle.std.proofs.lemmas.Bool.Decides.{nat_tests}
use Rattle.std.proofs.lemmas.List.{take_more, take_all}
use Rattle.std.proofs.lemmas.List.Sums.{fold-append}
use Rattle.tag.specs.LogicalTime.{LogicalTime, is_before, lesser, greater, forever}

passes_first : (tag g h : LogicalTime) → is_before tag g ≡ true → is_before tag (lesser g h) ≡ is_before tag h
passes_first tag g h p = grind (arith, nat_tests)

fails_first : (tag g h : LogicalTime) → is_before tag g ≡ false → is_before tag (lesser g h) ≡ false
fails_first tag g h p = grind (arith, nat_tests)

fails_second : (tag g h : LogicalTime) → is_before tag h ≡ false → is_before tag (lesser g h) ≡ false
fails_second tag g h p = grind (arith, nat_tests)

pub passes_other : (tag g h : LogicalTime) → is_before tag h ≡ false → is_before tag (greater g h) ≡ is_before tag g
passes_other tag g h p = grind (arith, nat_tests)

abbrev pub least : {A : Type 0} → (A → LogicalTime) → List A → LogicalTime
least arrival xs = fold (λ first x. lesser (arrival x) first) forever xs

-- it passes one more
pub passes_on : {A : Type 0} (arrival : A → LogicalTime) (tag : LogicalTime) (xs : List A) (i : ℕ) (x : A) → i < length xs → x ≡ slice_index_or xs i x →
    is_before tag (arrival x) ≡ true → is_before tag (least arrival (take i xs)) ≡ is_before tag forever →
    is_before tag (least arrival (take (i + 1) xs)) ≡ is_before tag forever
passes_on arrival tag xs i x within here passes so_far =
    ap (λ ys. is_before tag (least arrival ys)) (take_more xs i x within ∙ ap (λ y. take i xs ++ y ∷ []) (sym here))
    ∙ ap (is_before tag) (fold-append (λ first y. lesser (arrival y) first) forever (take i xs) (x ∷ []))
    ∙ passes_first tag (arrival x) (least arrival (take i xs)) passes ∙ so_far

-- it has passed all
pub passes_all : {A : Type 0} (arrival : A → LogicalTime) (tag : LogicalTime) (xs : List A) (i : ℕ) (b : Bool) → length xs ≤ i → b ≡ is_before tag forever →
    is_before tag (least arrival (take i xs)) ≡ is_before tag forever → b ≡ is_before tag (least arrival xs)
passes_all arrival tag xs i b done last so_far = last ∙ sym so_far ∙ ap (λ ys. is_before tag (least arrival ys)) (take_all i xs done)

fails_still : {A : Type 0} (arrival : A → LogicalTime) (tag first : LogicalTime) (xs : List A) → is_before tag first ≡ false →
    is_before tag (fold (λ first x. lesser (arrival x) first) first xs) ≡ false
fails_still arrival tag first [] p = p
fails_still arrival tag first (x ∷ xs) p = fails_still arrival tag (lesser (arrival x) first) xs (fails_second tag (arrival x) first p)

fails_from : {A : Type 0} (arrival : A → LogicalTime) (tag first : LogicalTime) (xs : List A) (i : ℕ) (x : A) → i < length xs → x ≡ slice_index_or xs i x →
    is_before tag (arrival x) ≡ false → is_before tag (fold (λ first x. lesser (arrival x) first) first xs) ≡ false
fails_from arrival tag first [] i x within here p = absurd (omega (arith, within))
fails_from arrival tag first (y ∷ xs) zero x within here p =
    fails_still arrival tag (lesser (arrival y) first) xs (fails_first tag (arrival y) first (subst (λ z. is_before tag (arrival z) ≡ false) here p))
fails_from arrival tag first (y ∷ xs) (suc i) x within here p = fails_from arrival tag (lesser (arrival y) first) xs i x (omega (arith, within)) here p

-- where it isn't before one arrival, it isn't before the least
pub fails_at : {A : Type 0} (arrival : A → LogicalTime) (tag : LogicalTime) (xs : List A) (i : ℕ) (x : A) → i < length xs → x ≡ slice_index_or xs i x →
    is_before tag (arrival x) ≡ false → false ≡ is_before tag (least arrival xs)
fails_at arrival tag xs i x within here p = sym (fails_from arrival tag forever xs i x within here p)
