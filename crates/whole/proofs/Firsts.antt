-- The first of turns that are next, in blocks and of all.
use Rattle.std.proofs.Common.{◌≡◌, ◌≢◌, ℕ, ◌+◌, ◌*◌, ◌/◌, ◌<◌, ◌≤◌, true, false, List, [], ◌∷◌, ◌++◌, length, length-set, get_or, set, Some, slice_get, slice_set, sym, ap, subst, ◌∙◌, arith, inl, inr}
use Rattle.std.proofs.lemmas.Bool.{false_from_ne_true, cases_lt, cases_eq}
use Rattle.std.proofs.lemmas.Bool.Decides.{nat_tests}
use Rattle.std.proofs.lemmas.List.{set-get_or}
use Rattle.std.proofs.lemmas.Option.{slice_get-get_or, slice_get_within}
use Rattle.tag.specs.LogicalTime.{LogicalTime}
use Rattle.whole.specs.declared.nexts.Next.{Next}
use Rattle.whole.specs.Next.{is_earlier, IsFirstAt, IsFirstAmong, AreFirsts}
use Rattle.whole.proofs.Filled.{get_early, get_last, get_beyond}
use Rattle.whole.proofs.NextTurns.{earlier_then, not_itself, same_some}
use Rattle.network.proofs.Items.{get_set_within, get_set_other}

pub here : (nexts : List Next) (place : ℕ) (x : Next) → place < length nexts → x ≡ get_or nexts place x → slice_get nexts place ≡ Some x
here nexts place x there is = slice_get-get_or nexts place x there ∙ ap (λ n. Some n) (sym is)

pub first_alone : (nexts : List Next) (low : ℕ) (x : Next) → low < length nexts → x ≡ get_or nexts low x → IsFirstAmong nexts low (low + 1) x
first_alone nexts low x there is = record {
  place = low;
  not_below = omega arith;
  below = omega arith;
  there = here nexts low x there is;
  first = λ other a from to at.
      let it : other ≡ low = omega arith in
      let mine : a ≡ x = same_some (slice_get nexts low) a x (ap (slice_get nexts) (sym it) ∙ at) (here nexts low x there is) in
      ap (λ n. is_earlier n x) mine ∙ not_itself x;
}

-- one more is looked at, and is earlier than the first so far
pub earlier_among : (nexts : List Next) (low place : ℕ) (x y : Next) → low < place → place < length nexts → x ≡ get_or nexts place x → is_earlier x y ≡ true → IsFirstAmong nexts low place y → IsFirstAmong nexts low (place + 1) x
earlier_among nexts low place x y some there is h w = record {
  place = place;
  not_below = omega arith;
  below = omega arith;
  there = here nexts place x there is;
  first = λ other a from to at. elim (cases_lt other place) [
    | inl less ↦ (
        let not : is_earlier a y ≡ false = w.first other a from less at in
        false_from_ne_true (is_earlier a x) (λ k. (let yes = earlier_then a x y k h in absurd cc)))
    | inr more ↦ (
        let it : other ≡ place = omega arith in
        let mine : a ≡ x = same_some (slice_get nexts place) a x (ap (slice_get nexts) (sym it) ∙ at) (here nexts place x there is) in
        ap (λ n. is_earlier n x) mine ∙ not_itself x)
  ];
}

-- and is not earlier
pub later_among : (nexts : List Next) (low place : ℕ) (x y : Next) → low < place → place < length nexts → x ≡ get_or nexts place x → is_earlier x y ≡ false → IsFirstAmong nexts low place y → IsFirstAmong nexts low (place + 1) y
later_among nexts low place x y some there is h w = record {
  place = w.place;
  not_below = w.not_below;
  below = (let b = w.below in omega arith);
  there = w.there;
  first = λ other a from to at. elim (cases_lt other place) [
    | inl less ↦ w.first other a from less at
    | inr more ↦ (
        let it : other ≡ place = omega arith in
        let mine : a ≡ x = same_some (slice_get nexts place) a x (ap (slice_get nexts) (sym it) ∙ at) (here nexts place x there is) in
        ap (λ n. is_earlier n y) mine ∙ h)
  ];
}

-- past the end there are none
pub widened : (nexts : List Next) (low high wide : ℕ) (x : Next) → high ≤ wide → ((k : ℕ) → k < length nexts → k < wide → k < high) → IsFirstAmong nexts low high x → IsFirstAmong nexts low wide x
widened nexts low high wide x h fits w = record {
  place = w.place;
  not_below = w.not_below;
  below = (let b = w.below in omega arith);
  there = w.there;
  first = λ other a from to at. w.first other a from (fits other (slice_get_within nexts other a at) to) at;
}

not_earlier : (a b c : Next) → is_earlier a b ≡ false → is_earlier b c ≡ false → is_earlier a c ≡ false
not_earlier a b c h k = grind (arith, nat_tests)

in_block : (k : ℕ) → (k / 8 * 8 ≤ k) × (k < k / 8 * 8 + 8)
in_block k = (omega arith, omega arith)

-- the first of the firsts of blocks is the first of all
pub first_of_all : (nexts firsts : List Next) (x : Next) → AreFirsts nexts firsts → IsFirstAmong firsts 0 (length firsts) x → IsFirstAmong nexts 0 (length nexts) x
first_of_all nexts firsts x w top =
    let at = w.each top.place x top.there in record {
      place = at.place;
      not_below = omega arith;
      below = slice_get_within nexts at.place x at.there;
      there = at.there;
      first = λ other a from to at_a.
          let cover = w.cover in
          let block = in_block other in
          let low = block.0 in
          let high = block.1 in
          let there : other / 8 < length firsts = omega arith in
          let mine : slice_get firsts (other / 8) ≡ Some (get_or firsts (other / 8) x) = slice_get-get_or firsts (other / 8) x there in
          not_earlier a (get_or firsts (other / 8) x) x
          ((w.each (other / 8) (get_or firsts (other / 8) x) mine).first other a low high at_a)
          (top.first (other / 8) (get_or firsts (other / 8) x) (omega arith) there mine);
    }

moved : (nexts : List Next) (f low high : ℕ) (v x : Next) → ((k : ℕ) → low ≤ k → k < high → k ≢ f) → IsFirstAmong nexts low high x → IsFirstAmong (set nexts f v) low high x
moved nexts f low high v x apart w = record {
  place = w.place;
  not_below = w.not_below;
  below = w.below;
  there = get_set_other nexts f w.place v (apart w.place w.not_below w.below) ∙ w.there;
  first = λ other a from to at. w.first other a from to (sym (get_set_other nexts f other v (apart other from to)) ∙ at);
}

-- one is replaced by another that is earlier than the first
put_first : (nexts : List Next) (f low high : ℕ) (v x : Next) → f < length nexts → low ≤ f → f < high → is_earlier v x ≡ true → IsFirstAmong nexts low high x → IsFirstAmong (set nexts f v) low high v
put_first nexts f low high v x there from to h w = record {
  place = f;
  not_below = from;
  below = to;
  there = get_set_within nexts f v there;
  first = λ other a above under at. elim (cases_eq other f) [
    | inl e ↦ (
        let mine : a ≡ v = same_some (slice_get (set nexts f v) f) a v (ap (slice_get (set nexts f v)) (sym e) ∙ at) (get_set_within nexts f v there) in
        ap (λ n. is_earlier n v) mine ∙ not_itself v)
    | inr apart ↦ (
        let not : is_earlier a x ≡ false = w.first other a above under (sym (get_set_other nexts f other v apart) ∙ at) in
        false_from_ne_true (is_earlier a v) (λ k. (let yes = earlier_then a v x k h in absurd cc)))
  ];
}

-- one that is later than the first is replaced by another that is not earlier
kept_first : (nexts : List Next) (f low high : ℕ) (u v x : Next) → f < length nexts → slice_get nexts f ≡ Some u → is_earlier v x ≡ false → is_earlier x u ≡ true →
    IsFirstAmong nexts low high x → IsFirstAmong (set nexts f v) low high x
kept_first nexts f low high u v x there was h k w =
    let apart : w.place ≢ f = λ e. (
    let same : x ≡ u = same_some (slice_get nexts f) x u (ap (slice_get nexts) (sym e) ∙ w.there) was in
    let not : is_earlier x u ≡ false = ap (is_earlier x) (sym same) ∙ not_itself x in
    absurd cc) in record {
      place = w.place;
      not_below = w.not_below;
      below = w.below;
      there = get_set_other nexts f w.place v apart ∙ w.there;
      first = λ other a above under at. elim (cases_eq other f) [
        | inl e ↦ (
            let mine : a ≡ v = same_some (slice_get (set nexts f v) f) a v (ap (slice_get (set nexts f v)) (sym e) ∙ at) (get_set_within nexts f v there) in
            ap (λ n. is_earlier n x) mine ∙ h)
        | inr other_one ↦ w.first other a above under (sym (get_set_other nexts f other v other_one) ∙ at)
      ];
    }

-- the same in a block, where what stands there now is known by an equation
pub earlier_in_block : (before nexts : List Next) (f block : ℕ) (v x : Next) → f < length before → f / 8 ≡ block → nexts ≡ set before f v → is_earlier v x ≡ true →
    IsFirstAmong before (block * 8) (block * 8 + 8) x → IsFirstAmong nexts (block * 8) (block * 8 + 8) v
earlier_in_block before nexts f block v x there in_it now h w =
    let held = in_block f in
    let low = held.0 in
    let high = held.1 in
    subst (λ ns. IsFirstAmong ns (block * 8) (block * 8 + 8) v) (sym now) (put_first before f (block * 8) (block * 8 + 8) v x there (omega arith) (omega arith) h w)

pub same_in_block : (before nexts : List Next) (f block : ℕ) (u v x : Next) → f < length before → slice_get before f ≡ Some u → nexts ≡ set before f v →
    is_earlier v x ≡ false → is_earlier x u ≡ true → IsFirstAmong before (block * 8) (block * 8 + 8) x → IsFirstAmong nexts (block * 8) (block * 8 + 8) x
same_in_block before nexts f block u v x there was now h k w =
    subst (λ ns. IsFirstAmong ns (block * 8) (block * 8 + 8) x) (sym now) (kept_first before f (block * 8) (block * 8 + 8) u v x there was h k w)

-- one is replaced, and the first of its block with it
pub set_firsts : (nexts firsts : List Next) (f block : ℕ) (v x : Next) → block ≡ f / 8 → block < length firsts → AreFirsts nexts firsts →
    IsFirstAmong (set nexts f v) (block * 8) (block * 8 + 8) x → AreFirsts (set nexts f v) (set firsts block x)
set_firsts nexts firsts f block v x is there w mine = record {
  cover = (let cover = w.cover in let many = length-set nexts f v in let as_many = length-set firsts block x in omega arith);
  each = λ k n at. elim (cases_eq k block) [
    | inl e ↦ (
        let same : x ≡ n = same_some (slice_get (set firsts block x) block) x n (get_set_within firsts block x there) (ap (slice_get (set firsts block x)) (sym e) ∙ at) in
        subst (λ j. IsFirstAmong (set nexts f v) (j * 8) (j * 8 + 8) n) (sym e) (subst (IsFirstAmong (set nexts f v) (block * 8) (block * 8 + 8)) same mine))
    | inr other ↦ moved nexts f (k * 8) (k * 8 + 8) v n (λ j from to same. other (let held = in_block f in let low = held.0 in let high = held.1 in omega arith))
        (w.each k n (sym (get_set_other firsts block k x other) ∙ at))
  ];
}

pub first_at : (nexts : List Next) (x : Next) (w : IsFirstAmong nexts 0 (length nexts) x) → IsFirstAt nexts (length nexts) w.place
first_at nexts x w = record {
  there = w.below;
  first = λ other a b below at_a at_b.
      ap (is_earlier a) (same_some (slice_get nexts w.place) b x at_b w.there) ∙ w.first other a (omega arith) below at_a;
}

-- a tag that was there already changes nothing
pub unchanged : (nexts : List Next) (place : ℕ) (next : Next) (tag : LogicalTime) → slice_get nexts place ≡ Some next → next.tag ≡ tag → nexts ≡ slice_set nexts place (record next { tag = tag })
unchanged nexts place next tag at same =
    let within : place < length nexts = slice_get_within nexts place next at in
    let is : get_or nexts place next ≡ next = same_some (slice_get nexts place) (get_or nexts place next) next (slice_get-get_or nexts place next within) at in
    subst (λ t. nexts ≡ slice_set nexts place (record next { tag = t })) same (sym (ap (set nexts place) (sym is) ∙ set-get_or nexts place next))

-- the first ones of the blocks so far, and of one block more
pub firsts_more :
    (nexts firsts more : List Next) (block : ℕ) (x : Next) → length firsts ≡ block → ((k : ℕ) (n : Next) → slice_get firsts k ≡ Some n → IsFirstAmong nexts (k * 8) (k * 8 + 8) n) →
    more ≡ firsts ++ x ∷ [] → IsFirstAmong nexts (block * 8) (block * 8 + 8) x → (k : ℕ) (n : Next) → slice_get more k ≡ Some n → IsFirstAmong nexts (k * 8) (k * 8 + 8) n
firsts_more nexts firsts more block x many so_far is mine k n at =
    let found : slice_get (firsts ++ x ∷ []) k ≡ Some n = sym (ap (λ ns. slice_get ns k) is) ∙ at in
    elim (cases_lt k block) [
      | inl low ↦ so_far k n (sym (get_early firsts (x ∷ []) k (omega arith)) ∙ found)
      | inr high ↦ (elim (cases_eq k block) [
        | inl e ↦ (
            let last : slice_get (firsts ++ x ∷ []) k ≡ Some x = ap (slice_get (firsts ++ x ∷ [])) (e ∙ sym many) ∙ get_last firsts x in
            let same : x ≡ n = same_some (slice_get (firsts ++ x ∷ []) k) x n last found in
            subst (λ j. IsFirstAmong nexts (j * 8) (j * 8 + 8) n) (sym e) (subst (IsFirstAmong nexts (block * 8) (block * 8 + 8)) same mine))
        | inr other ↦ (let none = get_beyond firsts x k (omega arith) in absurd cc)
      ])
    ]
