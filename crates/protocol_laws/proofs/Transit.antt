-- The least tag of those in transit, from a place on.
use Rattle.std.proofs.Common.{◌≡◌, ℕ, ◌+◌, ◌<◌, ◌≤◌, Bool, true, false, cond, List, [], ◌∷◌, refl, ap, arith, min, max}
use Rattle.std.specs.Prelude.{filter, nat_lt, if◌then◌else◌}
use Rattle.std.proofs.lemmas.Bool.Decides.{nat_tests}
use Rattle.tag.specs.LogicalTime.{LogicalTime, IsLogicalTime, is_before, is_same, lesser, place}
use Rattle.tag.proofs.Order.{either_of, before_places, not_before_places, place_bound, same_is_equal, top}
use Rattle.protocol.specs.FederateRecord.{least_with, with_tag}

-- the least of these from a place on
abbrev pub least_above : ℕ → List LogicalTime → ℕ
least_above low [] = top
least_above low (x ∷ rest) = if nat_lt (place x) low then least_above low rest else min (place x) (least_above low rest)

-- tags in range
abbrev pub AreTags : List LogicalTime → Type 0
AreTags [] = Unit {0}
AreTags (x ∷ rest) = IsLogicalTime x × AreTags rest

-- a tag, or a lesser one from any place on below it, is there
abbrev pub Covers : List LogicalTime → LogicalTime → Type 0
Covers tags g = (low : ℕ) → low ≤ place g → least_above low tags ≤ place g

pub above_rises : (b c : ℕ) (xs : List LogicalTime) → b ≤ c → least_above b xs ≤ least_above c xs
above_rises b c [] h = omega arith
above_rises b c (x ∷ rest) h = let r = above_rises b c rest h in grind (arith, nat_tests)

one_more_before : (low : ℕ) (g x : LogicalTime) (rest : List LogicalTime) (b c : Bool) → (c ≡ true → g ≡ x) → (least_above low (with_tag g rest) ≡ least_above low (g ∷ rest)) → least_above low (if b then g ∷ x ∷ rest else (if c then x ∷ rest else x ∷ with_tag g rest)) ≡ least_above low (g ∷ x ∷ rest)
one_more_before low g x rest true c same r = refl
one_more_before low g x rest false true same r = let e = ap place (same refl) in grind (arith, nat_tests)
one_more_before low g x rest false false same r = grind (arith, nat_tests)

pub above_one_more : (low : ℕ) (g : LogicalTime) (xs : List LogicalTime) → least_above low (with_tag g xs) ≡ least_above low (g ∷ xs)
above_one_more low g [] = refl
above_one_more low g (x ∷ rest) = one_more_before low g x rest (is_before g x) (is_same g x) (same_is_equal g x) (above_one_more low g rest)

one_more_tag : (g x : LogicalTime) (rest : List LogicalTime) (b c : Bool) → IsLogicalTime g → IsLogicalTime x → AreTags rest → AreTags (with_tag g rest) → AreTags (if b then g ∷ x ∷ rest else (if c then x ∷ rest else x ∷ with_tag g rest))
one_more_tag g x rest true c p q a r = (p, (q, a))
one_more_tag g x rest false true p q a r = (q, a)
one_more_tag g x rest false false p q a r = (q, r)

pub tags_one_more : (g : LogicalTime) (xs : List LogicalTime) → IsLogicalTime g → AreTags xs → AreTags (with_tag g xs)
tags_one_more g [] p a = (p, tt)
tags_one_more g (x ∷ rest) p a = one_more_tag g x rest (is_before g x) (is_same g x) p a.0 a.1 (tags_one_more g rest p a.1)

later_cases : (low : ℕ) (c x : LogicalTime) (rest kept : List LogicalTime) (b : Bool) → (b ≡ true → place c < place x) → (b ≡ false → place x ≤ place c) → least_above low kept ≡ least_above (max low (place c + 1)) rest → least_above low (cond b (x ∷ kept) kept) ≡ least_above (max low (place c + 1)) (x ∷ rest)
later_cases low c x rest kept true t f r = let h = t refl in grind (arith, nat_tests)
later_cases low c x rest kept false t f r = let h = f refl in grind (arith, nat_tests)

-- of those that are later than c
pub above_later : (low : ℕ) (c : LogicalTime) (xs : List LogicalTime) → IsLogicalTime c → AreTags xs → least_above low (filter (λ t. is_before c t) xs) ≡ least_above (max low (place c + 1)) xs
above_later low c [] p a = refl
above_later low c (x ∷ rest) p a =
    later_cases low c x rest (filter (λ t. is_before c t) rest) (is_before c x) (before_places c x p a.0) (not_before_places c x p a.0) (above_later low c rest p a.1)

tags_kept : (x : LogicalTime) (kept : List LogicalTime) (b : Bool) → IsLogicalTime x → AreTags kept → AreTags (cond b (x ∷ kept) kept)
tags_kept x kept true p a = (p, a)
tags_kept x kept false p a = a

pub tags_later : (c : LogicalTime) (xs : List LogicalTime) → AreTags xs → AreTags (filter (λ t. is_before c t) xs)
tags_later c [] a = tt
tags_later c (x ∷ rest) a = tags_kept x (filter (λ t. is_before c t) rest) (is_before c x) a.0 (tags_later c rest a.1)

pub lesser_is_tag : (g h : LogicalTime) → IsLogicalTime g → IsLogicalTime h → IsLogicalTime (lesser g h)
lesser_is_tag g h p q = either_of IsLogicalTime g h (is_before g h) p q

place_of_one : (g h : LogicalTime) (b : Bool) → (b ≡ true → place g < place h) → (b ≡ false → place h ≤ place g) → place (if b then g else h) ≡ min (place g) (place h)
place_of_one g h true t f = let l = t refl in omega arith
place_of_one g h false t f = let l = f refl in omega arith

pub place_of_lesser : (g h : LogicalTime) → IsLogicalTime g → IsLogicalTime h → place (lesser g h) ≡ min (place g) (place h)
place_of_lesser g h p q = place_of_one g h (is_before g h) (before_places g h p q) (not_before_places g h p q)

pub least_is_tag : (g : LogicalTime) (xs : List LogicalTime) → IsLogicalTime g → AreTags xs → IsLogicalTime (least_with g xs)
least_is_tag g [] p a = p
least_is_tag g (x ∷ rest) p a = lesser_is_tag x (least_with g rest) a.0 (least_is_tag g rest p a.1)

pub place_of_least : (g : LogicalTime) (xs : List LogicalTime) → IsLogicalTime g → AreTags xs → place (least_with g xs) ≡ min (place g) (least_above 0 xs)
place_of_least g [] p a = let w = place_bound g p in omega arith
place_of_least g (x ∷ rest) p a =
    let r = place_of_least g rest p a.1 in
    let s = place_of_lesser x (least_with g rest) a.0 (least_is_tag g rest p a.1) in
    grind (arith, nat_tests)

-- with one more tag, all are covered that were, and it is
pub covers_one_more : (x : LogicalTime) (xs : List LogicalTime) (g : LogicalTime) → Covers xs g → Covers (with_tag x xs) g
covers_one_more x xs g h low l =
    let e = above_one_more low x xs in
    let k = h low l in
    grind (arith, nat_tests)

pub covers_it : (g : LogicalTime) (xs : List LogicalTime) → Covers (with_tag g xs) g
covers_it g xs low l = let e = above_one_more low g xs in grind (arith, nat_tests)

pub covers_later : (c : LogicalTime) (xs : List LogicalTime) (g : LogicalTime) → IsLogicalTime c → AreTags xs → place c < place g → Covers xs g → Covers (filter (λ t. is_before c t) xs) g
covers_later c xs g p a l h low m =
    let e = above_later low c xs p a in
    let k = h (max low (place c + 1)) (omega arith) in
    omega arith
