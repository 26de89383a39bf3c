-- Slips that are taken off the ends of shares, as their journal is walked backwards.
use Rattle.std.proofs.Common.{◌≡◌, ◌≢◌, ◌↔◌, ℕ, suc, zero, ◌+◌, ◌<◌, ◌≤◌, Bool, true, false, cond, nat_eq, List, [], ◌∷◌, ◌++◌, length, set, get_or, slice_get, Some, All, refl, sym, ap, ◌∙◌, arith}
use Rattle.std.specs.List.{count_by, list_all}
use Rattle.std.proofs.lemmas.List.{length_push, get_or_append_left, append-nil, append_assoc}
use Rattle.std.proofs.lemmas.List.Elements.{All-nil, All-cons, All-head, All-tail, All-append}
use Rattle.std.proofs.lemmas.List.Quantifiers.{all_pairs_push}
use Rattle.std.proofs.lemmas.List.Sums.{sum_by-append, sum_by-cons}
use Rattle.std.proofs.lemmas.Bool.Decides.{nat_tests}
use Rattle.std.proofs.lemmas.Option.{slice_get_within}
use Rattle.node.specs.declared.event.Event.{Event}
use Rattle.node_journal.specs.declared.slip.Slip.{Slip}
use Rattle.node_journal.specs.Slips.{slips_from}
use Rattle.desk.specs.Shares.{all_slips, PlacesRise, IsTrueOf, is_for, Agree}

-- what a journal has at a place, with one event more
get_before : (journal : List Event) (event : Event) (place : ℕ) → place < length journal → slice_get (journal ++ event ∷ []) place ≡ slice_get journal place
get_before [] event place less = absurd (omega arith)
get_before (e ∷ journal) event zero less = refl
get_before (e ∷ journal) event (suc place) less = get_before journal event place (omega arith)

get_last : (journal : List Event) (event : Event) → slice_get (journal ++ event ∷ []) (length journal) ≡ Some event
get_last [] event = refl
get_last (e ∷ journal) event = get_last journal event

-- a slip is true of a journal with one event more
widens : (journal : List Event) (event : Event) (slip : Slip) → IsTrueOf journal slip → IsTrueOf (journal ++ event ∷ []) slip
widens journal event slip is = get_before journal event slip.place (slice_get_within journal slip.place slip.event is) ∙ is

narrows : (journal : List Event) (event : Event) (slip : Slip) → slip.place ≢ length journal → IsTrueOf (journal ++ event ∷ []) slip → IsTrueOf journal slip
narrows journal event slip other is =
    let within = slice_get_within (journal ++ event ∷ []) slip.place slip.event is in
    let less : slip.place < length journal = omega (arith, length_push journal event) in
    sym (get_before journal event slip.place less) ∙ is

all_widen : (journal : List Event) (event : Event) (slips : List Slip) → All (IsTrueOf journal) slips → All (IsTrueOf (journal ++ event ∷ [])) slips
all_widen journal event slips is = λ k d less. widens journal event (get_or slips k d) (is k d less)

counted : (place : ℕ) (slip : Slip) (slips : List Slip) → count_by (is_for place) (slip ∷ slips) ≡ 0 → (slip.place ≢ place) × (count_by (is_for place) slips ≡ 0)
counted place slip slips none =
    let sum = sum_by-cons (λ s. cond (is_for place s) 1 0) slip slips in
    (grind (arith, nat_tests, sum), grind (arith, nat_tests, sum))

all_narrow : (journal : List Event) (event : Event) (slips : List Slip) → count_by (is_for (length journal)) slips ≡ 0 →
    All (IsTrueOf (journal ++ event ∷ [])) slips → All (IsTrueOf journal) slips
all_narrow journal event [] none is = All-nil (IsTrueOf journal)
all_narrow journal event (slip ∷ slips) none is =
    let c = counted (length journal) slip slips none in
    All-cons (IsTrueOf journal) slip slips (narrows journal event slip c.0 (All-head (IsTrueOf (journal ++ event ∷ [])) slip slips is))
    (all_narrow journal event slips c.1 (All-tail (IsTrueOf (journal ++ event ∷ [])) slip slips is))

-- what holds of all elements of two lists, one after the other
all_front : {X : Type 0} (P : X → Type 0) (xs ys : List X) → All P (xs ++ ys) → All P xs
all_front P [] ys all = All-nil P
all_front P (x ∷ xs) ys all = All-cons P x xs (All-head P x (xs ++ ys) all) (all_front P xs ys (All-tail P x (xs ++ ys) all))

all_back : {X : Type 0} (P : X → Type 0) (xs ys : List X) → All P (xs ++ ys) → All P ys
all_back P [] ys all = all
all_back P (x ∷ xs) ys all = all_back P xs ys (All-tail P x (xs ++ ys) all)

module _ (slip : Slip) (front : List Slip) where
  -- all slips, of which one stands last in a share
  all_taken : (P : Slip → Type 0) (shares : List (List Slip)) (k : ℕ) → slice_get shares k ≡ Some (front ++ slip ∷ []) →
      All P (all_slips shares) → All P (all_slips (set shares k front)) × P slip
  all_taken P [] k here all = let bad : ⊥ = grind arith in absurd bad
  all_taken P (slips ∷ shares) zero here all =
      let is : slips ≡ front ++ slip ∷ [] = grind arith in
      let both = rw is at (all_front P slips (all_slips shares) all) in (
        All-append P front (all_slips shares) (all_front P front (slip ∷ []) both) (all_back P slips (all_slips shares) all),
        All-head P slip [] (all_back P front (slip ∷ []) both),
      )
  all_taken P (slips ∷ shares) (suc k) here all =
      let rest = all_taken P shares k here (all_back P slips (all_slips shares) all) in
      (All-append P slips (all_slips (set shares k front)) (all_front P slips (all_slips shares) all) rest.0, rest.1)

  all_put : (P : Slip → Type 0) (shares : List (List Slip)) (k : ℕ) → slice_get shares k ≡ Some (front ++ slip ∷ []) →
      All P (all_slips (set shares k front)) → P slip → All P (all_slips shares)
  all_put P [] k here all one = all
  all_put P (slips ∷ shares) zero here all one =
      let is : slips ≡ front ++ slip ∷ [] = grind arith in
      All-append P slips (all_slips shares)
      (rw is (All-append P front (slip ∷ []) (all_front P front (all_slips shares) all) (All-cons P slip [] one (All-nil P))))
      (all_back P front (all_slips shares) all)
  all_put P (slips ∷ shares) (suc k) here all one =
      All-append P slips (all_slips shares) (all_front P slips (all_slips (set shares k front)) all)
      (all_put P shares k here (all_back P slips (all_slips (set shares k front)) all) one)

  all_of_front : (P : Slip → Type 0) (shares : List (List Slip)) (k : ℕ) → slice_get shares k ≡ Some (front ++ slip ∷ []) →
      All P (all_slips (set shares k front)) → All P front
  all_of_front P [] k here all = let bad : ⊥ = grind arith in absurd bad
  all_of_front P (slips ∷ shares) zero here all = all_front P front (all_slips shares) all
  all_of_front P (slips ∷ shares) (suc k) here all = all_of_front P shares k here (all_back P slips (all_slips (set shares k front)) all)

  count_taken : (p : Slip → Bool) (shares : List (List Slip)) (k : ℕ) → slice_get shares k ≡ Some (front ++ slip ∷ []) →
      count_by p (all_slips shares) ≡ count_by p (all_slips (set shares k front)) + cond (p slip) 1 0
  count_taken p [] k here = let bad : ⊥ = grind arith in absurd bad
  count_taken p (slips ∷ shares) zero here =
      let is : slips ≡ front ++ slip ∷ [] = grind arith in
      let f : Slip → ℕ = λ s. cond (p s) 1 0 in
      rw (is, sum_by-append f (front ++ slip ∷ []) (all_slips shares), sum_by-append f front (slip ∷ []), sum_by-append f front (all_slips shares)) (omega arith)
  count_taken p (slips ∷ shares) (suc k) here =
      let f : Slip → ℕ = λ s. cond (p s) 1 0 in
      let rest = count_taken p shares k here in
      rw (sum_by-append f slips (all_slips shares), sum_by-append f slips (all_slips (set shares k front))) (omega arith)

module _ (journal : List Event) (event : Event) where
  -- a slip for the last place is the last of its share
  one_is_last : (slip : Slip) (slips : List Slip) → PlacesRise (slip ∷ slips) → All (IsTrueOf (journal ++ event ∷ [])) (slip ∷ slips) → slip.place ≡ length journal →
      slip ∷ slips ≡ record { place = length journal; event = event } ∷ []
  one_is_last slip [] rise true_of here =
      let found = All-head (IsTrueOf (journal ++ event ∷ [])) slip [] true_of in
      let last = get_last journal event in
      let same : slip.event ≡ event = grind (arith, here, found, last) in
      grind (arith, here, same)
  one_is_last slip (next ∷ slips) rise true_of here =
      let less : slip.place < next.place = rise 0 1 slip (omega arith) (omega arith) in
      let found = All-head (IsTrueOf (journal ++ event ∷ [])) next slips (All-tail (IsTrueOf (journal ++ event ∷ [])) slip (next ∷ slips) true_of) in
      let within = slice_get_within (journal ++ event ∷ []) next.place next.event found in
      let bad : ⊥ = omega (arith, length_push journal event) in
      absurd bad

  one_by_test : (slip : Slip) (slips : List Slip) (b : Bool) → nat_eq slip.place (length journal) ≡ b → PlacesRise (slip ∷ slips) →
      All (IsTrueOf (journal ++ event ∷ [])) (slip ∷ slips) → ((front : List Slip) → slip ∷ slips ≢ front ++ record { place = length journal; event = event } ∷ []) →
      count_by (is_for (length journal)) slips ≡ 0 → count_by (is_for (length journal)) (slip ∷ slips) ≡ 0
  one_by_test slip slips true is rise true_of other rest =
      let here : slip.place ≡ length journal = grind (arith, nat_tests) in
      absurd (other [] (one_is_last slip slips rise true_of here))
  one_by_test slip slips false is rise true_of other rest =
      rw (sum_by-cons (λ s. cond (is_for (length journal) s) 1 0) slip slips, is) (omega (arith, rest))

  rise_rest : (slip : Slip) (slips : List Slip) → PlacesRise (slip ∷ slips) → PlacesRise slips
  rise_rest slip slips rise = λ i j d less within. rise (suc i) (suc j) d (omega arith) (omega arith)

  -- a share that doesn't end with the last event's slip has no slip for the last place
  one_none : (slips : List Slip) → PlacesRise slips → All (IsTrueOf (journal ++ event ∷ [])) slips →
      ((front : List Slip) → slips ≢ front ++ record { place = length journal; event = event } ∷ []) → count_by (is_for (length journal)) slips ≡ 0
  one_none [] rise true_of other = refl
  one_none (slip ∷ slips) rise true_of other =
      one_by_test slip slips (nat_eq slip.place (length journal)) refl rise true_of other
      (one_none slips (rise_rest slip slips rise) (All-tail (IsTrueOf (journal ++ event ∷ [])) slip slips true_of)
      (λ front is. other (slip ∷ front) (ap (λ l. slip ∷ l) is)))

  all_none : (shares : List (List Slip)) → All PlacesRise shares → All (IsTrueOf (journal ++ event ∷ [])) (all_slips shares) →
      ((k : ℕ) (front : List Slip) → slice_get shares k ≢ Some (front ++ record { place = length journal; event = event } ∷ [])) →
      count_by (is_for (length journal)) (all_slips shares) ≡ 0
  all_none [] rise true_of other = refl
  all_none (slips ∷ shares) rise true_of other =
      let one = one_none slips (All-head PlacesRise slips shares rise) (all_front (IsTrueOf (journal ++ event ∷ [])) slips (all_slips shares) true_of)
      (λ front is. other 0 front (ap Some is)) in
      let rest = all_none shares (All-tail PlacesRise slips shares rise) (all_back (IsTrueOf (journal ++ event ∷ [])) slips (all_slips shares) true_of)
      (λ k. other (suc k)) in
      rw (sum_by-append (λ s. cond (is_for (length journal) s) 1 0) slips (all_slips shares), one) (omega (arith, rest))

-- shares of which none ends with the last event's slip aren't the journal
pub none_ends : (journal : List Event) (event : Event) (shares : List (List Slip)) →
    ((k : ℕ) (front : List Slip) → slice_get shares k ≢ Some (front ++ record { place = length journal; event = event } ∷ [])) →
    ¬ Agree (journal ++ event ∷ []) shares
none_ends journal event shares other agree =
    let none = all_none journal event shares agree.rise agree.true_of other in
    let once = agree.once (length journal) (omega (arith, length_push journal event)) in
    let bad : ⊥ = omega arith in
    absurd bad

rise_front : (front : List Slip) (slip : Slip) → PlacesRise (front ++ slip ∷ []) → PlacesRise front
rise_front front slip rise = λ i j d less within.
    rw (← get_or_append_left front (slip ∷ []) d i (omega arith), ← get_or_append_left front (slip ∷ []) d j within)
    (rise i j d less (omega (arith, length_push front slip)))

module _ (slip : Slip) (front : List Slip) where
  rise_taken : (shares : List (List Slip)) (k : ℕ) → slice_get shares k ≡ Some (front ++ slip ∷ []) → All PlacesRise shares → All PlacesRise (set shares k front)
  rise_taken [] k here rise = rise
  rise_taken (slips ∷ shares) zero here rise =
      let is : slips ≡ front ++ slip ∷ [] = grind arith in
      All-cons PlacesRise front shares (rise_front front slip (rw is at (All-head PlacesRise slips shares rise))) (All-tail PlacesRise slips shares rise)
  rise_taken (slips ∷ shares) (suc k) here rise =
      All-cons PlacesRise slips (set shares k front) (All-head PlacesRise slips shares rise) (rise_taken shares k here (All-tail PlacesRise slips shares rise))

  rise_put : (shares : List (List Slip)) (k : ℕ) → slice_get shares k ≡ Some (front ++ slip ∷ []) → All (λ s. s.place < slip.place) front →
      All PlacesRise (set shares k front) → All PlacesRise shares
  rise_put [] k here less rise = rise
  rise_put (slips ∷ shares) zero here less rise =
      let is : slips ≡ front ++ slip ∷ [] = grind arith in
      All-cons PlacesRise slips shares
      (rw is (all_pairs_push (λ earlier later. earlier.place < later.place) front slip (All-head PlacesRise front shares rise) less))
      (All-tail PlacesRise front shares rise)
  rise_put (slips ∷ shares) (suc k) here less rise =
      All-cons PlacesRise slips shares (All-head PlacesRise slips (set shares k front) rise) (rise_put shares k here less (All-tail PlacesRise slips (set shares k front) rise))

-- slips that are true of a journal are for its places
true_within : (journal : List Event) (slips : List Slip) → All (IsTrueOf journal) slips → All (λ s. s.place < length journal) slips
true_within journal slips is = λ k d less. slice_get_within journal (get_or slips k d).place (get_or slips k d).event (is k d less)

none_beyond : (journal : List Event) (slips : List Slip) → All (IsTrueOf journal) slips → count_by (is_for (length journal)) slips ≡ 0
none_beyond journal [] is = refl
none_beyond journal (slip ∷ slips) is =
    let within = slice_get_within journal slip.place slip.event (All-head (IsTrueOf journal) slip slips is) in
    let rest = none_beyond journal slips (All-tail (IsTrueOf journal) slip slips is) in
    let other : nat_eq slip.place (length journal) ≡ false = grind (arith, nat_tests) in
    rw (sum_by-cons (λ s. cond (is_for (length journal) s) 1 0) slip slips, other) (omega (arith, rest))

module _ (journal : List Event) (event : Event) (shares : List (List Slip)) (k : ℕ) (front : List Slip)
    (here : slice_get shares k ≡ Some (front ++ record { place = length journal; event = event } ∷ [])) where
  abbrev last : Slip
  last = record { place = length journal; event = event }

  count : (place : ℕ) → count_by (is_for place) (all_slips shares) ≡ count_by (is_for place) (all_slips (set shares k front)) + cond (nat_eq (length journal) place) 1 0
  count place = count_taken last front (is_for place) shares k here

  backwards : Agree (journal ++ event ∷ []) shares → Agree journal (set shares k front)
  backwards agree =
      let taken = all_taken last front (IsTrueOf (journal ++ event ∷ [])) shares k here agree.true_of in
      let one = agree.once (length journal) (omega (arith, length_push journal event)) in
      let counted = count (length journal) in
      let none : count_by (is_for (length journal)) (all_slips (set shares k front)) ≡ 0 = grind (arith, nat_tests, one, counted) in
      record {
        rise = rise_taken last front shares k here agree.rise;
        true_of = all_narrow journal event (all_slips (set shares k front)) none taken.0;
        once = λ place less.
            let first = agree.once place (omega (arith, length_push journal event)) in
            let second = count place in
            let other : nat_eq (length journal) place ≡ false = grind (arith, nat_tests) in
            grind (arith, first, second, other);
      }

  -- one slip more, for the last place
  once_more : (place : ℕ) (b : Bool) → nat_eq (length journal) place ≡ b → Agree journal (set shares k front) → place < length (journal ++ event ∷ []) →
      count_by (is_for place) (all_slips shares) ≡ 1
  once_more place true is agree within =
      let here : length journal ≡ place = grind (arith, nat_tests) in
      let beyond = none_beyond journal (all_slips (set shares k front)) agree.true_of in
      let none : count_by (is_for place) (all_slips (set shares k front)) ≡ 0 = rw (← here) beyond in
      count place ∙ rw (none, is) refl
  once_more place false is agree within =
      let other : length journal ≢ place = grind (arith, nat_tests) in
      let less : place < length journal = omega (arith, length_push journal event) in
      count place ∙ rw (agree.once place less, is) refl

  onwards : Agree journal (set shares k front) → Agree (journal ++ event ∷ []) shares
  onwards agree =
      let less = true_within journal front (all_of_front last front (IsTrueOf journal) shares k here agree.true_of) in
      record {
        rise = rise_put last front shares k here less agree.rise;
        true_of = all_put last front (IsTrueOf (journal ++ event ∷ [])) shares k here
            (all_widen journal event (all_slips (set shares k front)) agree.true_of) (get_last journal event);
        once = λ place within. once_more place (nat_eq (length journal) place) refl agree within;
      }

place_is : (slips : List Slip) (slip : Slip) (n : ℕ) → n ≡ slip.place → slips ++ slip ∷ [] ≡ slips ++ record { place = n; event = slip.event } ∷ []
place_is slips slip n is = ap (λ (p : ℕ). slips ++ record { place = p; event = slip.event } ∷ []) (sym is)

-- the last event's slip is taken off a share: what is left agrees with the journal before it
pub step_back : (journal : List Event) (slip : Slip) (shares : List (List Slip)) (k : ℕ) (front : List Slip) → slice_get shares k ≡ Some (front ++ slip ∷ []) →
    length journal ≡ slip.place → Agree (journal ++ slip.event ∷ []) shares ↔ Agree journal (set shares k front)
step_back journal slip shares k front here is =
    let there = here ∙ ap Some (place_is front slip (length journal) is) in
    (backwards journal slip.event shares k front there, onwards journal slip.event shares k front there)

-- a share at its place
put_back : (shares : List (List Slip)) (k : ℕ) (slips : List Slip) → slice_get shares k ≡ Some slips → set shares k slips ≡ shares
put_back [] k slips found = refl
put_back (first ∷ shares) zero slips found = let same : first ≡ slips = grind arith in ap (λ x. x ∷ shares) (sym same)
put_back (first ∷ shares) (suc k) slips found = ap (λ xs. first ∷ xs) (put_back shares k slips found)

set_twice : (shares : List (List Slip)) (k : ℕ) (one two : List Slip) → set (set shares k one) k two ≡ set shares k two
set_twice [] k one two = refl
set_twice (first ∷ shares) zero one two = refl
set_twice (first ∷ shares) (suc k) one two = ap (λ xs. first ∷ xs) (set_twice shares k one two)

get_set : (shares : List (List Slip)) (k : ℕ) (before slips : List Slip) → slice_get shares k ≡ Some before → slice_get (set shares k slips) k ≡ Some slips
get_set [] k before slips found = let bad : ⊥ = grind arith in absurd bad
get_set (first ∷ shares) zero before slips found = refl
get_set (first ∷ shares) (suc k) before slips found = get_set shares k before slips found

-- the slips of the last events, which follow one another, are taken off a share
pub block_back : (events journal : List Event) (place : ℕ) (shares : List (List Slip)) (k : ℕ) (front : List Slip) → slice_get shares k ≡ Some (front ++ slips_from place events) →
    length journal ≡ place → Agree (journal ++ events) shares ↔ Agree journal (set shares k front)
block_back [] journal place shares k front here is =
    let whole : journal ++ [] ≡ journal = append-nil journal in
    let same : set shares k front ≡ shares = put_back shares k front (here ∙ ap Some (append-nil front)) in
    rw (whole, same) ((λ agree. agree), (λ agree. agree))
block_back (event ∷ events) journal place shares k front here is =
    let slip : Slip = record { place = place; event = event } in
    let more : List Slip = front ++ slip ∷ [] in
    let long : length (journal ++ event ∷ []) ≡ suc place = length_push journal event ∙ (let next : length journal + 1 ≡ suc place = omega (arith, is) in next) in
    let there : slice_get shares k ≡ Some (more ++ slips_from (suc place) events) = here ∙ ap Some (sym (append_assoc front (slip ∷ []) (slips_from (suc place) events))) in
    let rest = block_back events (journal ++ event ∷ []) (suc place) shares k more there long in
    let one = step_back journal slip (set shares k more) k front (get_set shares k (front ++ slips_from place (event ∷ events)) more here) is in
    let joined : (journal ++ event ∷ []) ++ events ≡ journal ++ event ∷ events = append_assoc journal (event ∷ []) events in
    let twice : set (set shares k more) k front ≡ set shares k front = set_twice shares k more front in
    let all = rw joined at rest in
    let last = rw twice at one in
    ((λ agree. last.0 (all.0 agree)), (λ agree. all.1 (last.1 agree)))

-- no share ends with the last event's slip
pub no_step_back : (journal : List Event) (slip : Slip) (shares : List (List Slip)) → ((k : ℕ) (front : List Slip) → slice_get shares k ≢ Some (front ++ slip ∷ [])) →
    length journal ≡ slip.place → ¬ Agree (journal ++ slip.event ∷ []) shares
no_step_back journal slip shares other is =
    none_ends journal slip.event shares (λ k front there. other k front (there ∙ ap Some (sym (place_is front slip (length journal) is))))

-- no share before a place that is past them all ends with a slip, so none does
pub none_of_all : (shares : List (List Slip)) (slip : Slip) (k : ℕ) → length shares ≤ k →
    ((j : ℕ) → j < k → (front : List Slip) → slice_get shares j ≢ Some (front ++ slip ∷ [])) → (j : ℕ) (front : List Slip) → slice_get shares j ≢ Some (front ++ slip ∷ [])
none_of_all shares slip k all before j front is =
    before j (let within = slice_get_within shares j (front ++ slip ∷ []) is in omega arith) front is

-- with no event left, the shares are used up
used_up_then : (shares : List (List Slip)) → list_all (λ slips. nat_eq (length slips) 0) shares ≡ true → All PlacesRise shares × (all_slips shares ≡ [])
used_up_then [] is = (All-nil PlacesRise, refl)
used_up_then ([] ∷ shares) is =
    let rest = used_up_then shares is in
    (All-cons PlacesRise [] shares (λ i j d less within. absurd (omega arith)) rest.0, rest.1)
used_up_then ((slip ∷ slips) ∷ shares) is = let bad : ⊥ = grind (arith, nat_tests) in absurd bad

used_up_if : (shares : List (List Slip)) → All (IsTrueOf []) (all_slips shares) → list_all (λ slips. nat_eq (length slips) 0) shares ≡ true
used_up_if [] true_of = refl
used_up_if ([] ∷ shares) true_of = used_up_if shares true_of
used_up_if ((slip ∷ slips) ∷ shares) true_of =
    let within = slice_get_within [] slip.place slip.event (All-head (IsTrueOf []) slip (slips ++ all_slips shares) true_of) in
    let bad : ⊥ = omega arith in
    absurd bad

pub used_up : (shares : List (List Slip)) → (list_all (λ slips. nat_eq (length slips) 0) shares ≡ true) ↔ Agree [] shares
used_up shares = (
  (λ is.
      let then = used_up_then shares is in
      record { rise = then.0; true_of = rw then.1 (All-nil (IsTrueOf [])); once = λ place less. absurd (omega arith) }),
  (λ agree. used_up_if shares agree.true_of),
)
