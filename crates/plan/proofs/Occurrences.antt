-- Inputs are for one action at one tag exactly where they are one occurrence.
use Rattle.std.proofs.Common.{◌≡◌, ◌≢◌, ℕ, ◌<◌, Bool, ◌&&◌, nat_eq, List, length, map, refl, ap, sym, ◌∙◌, subst, arith, rules, get_or, [], pos}
use Rattle.std.specs.Prelude.{All, AllPairs, Any, IsSome, Option, None, Some, slice_get}
use Rattle.std.specs.Bool.{Decides}
use Rattle.std.specs.Cmp.{IsEquivalence}
use Rattle.std.specs.Option.{option_map}
use Rattle.std.proofs.lemmas.Bool.Decides.{nat_tests, same_from_decides}
use Rattle.std.proofs.lemmas.List.{length-map, get_or-map, get_or_default}
use Rattle.tag.specs.LogicalTime.{origin}
use Rattle.plan.specs.declared.draft.Federate.{Federate}
use Rattle.plan.specs.declared.input.Input.{Input}
use Rattle.plan.specs.declared.input.Occurrence.{Occurrence}
use Rattle.plan.specs.Federation.{Found, federate_names, found_in}
use Rattle.plan.specs.External.{found_action, AreForDifferentActions}
use Rattle.plan.specs.Occurrences.{occurrence_of}
use Rattle.plan.proofs.Joined.{found_in_parts, same_name, same_name_in}

-- ---- the test of occurrences

abbrev pub is_one : Occurrence → Occurrence → Bool
is_one a b =
    nat_eq a.federate b.federate
    && (nat_eq a.place b.place && (nat_eq a.tag.time b.tag.time && nat_eq a.tag.microstep b.tag.microstep))

pub is_one-Decides : (a b : Occurrence) → Decides (is_one a b) (a ≡ b)
is_one-Decides a b = (grind (arith, nat_tests), grind (arith, nat_tests))

pub is_one-equivalence : IsEquivalence is_one
is_one-equivalence =
    record {
      refl = λ x. (is_one-Decides x x).1 refl;
      symm = λ x y.
          same_from_decides (is_one x y) (is_one y x) (is_one-Decides x y)
          (λ e. sym ((is_one-Decides y x).0 e), λ e. (is_one-Decides y x).1 (sym e));
      congr = λ x y z e. ap (λ w. is_one w z) ((is_one-Decides x y).0 e);
    }

-- ---- one input

-- what was found of an input that is this occurrence
pub record IsThat (fs : List Federate) (i : Input) (o : Occurrence) : Type 0 where
  pub found : found_action fs i ≡ Some (record { federate = o.federate; place = o.place })
  pub tag : i.tag ≡ o.tag

that_from : (fs : List Federate) (i : Input) (o : Occurrence) (r : Option Found) → found_action fs i ≡ r
    → option_map (λ found. record { federate = found.federate; place = found.place; tag = i.tag }) r ≡ Some o → IsThat fs i o
that_from fs i o None found e = cc
that_from fs i o (Some r) found e =
    let whole : record { federate = r.federate; place = r.place; tag = i.tag } ≡ o = cc in
    record {
      found = found ∙ ap (λ (z : Occurrence). Some (record { federate = z.federate; place = z.place })) whole;
      tag = ap (λ (z : Occurrence). z.tag) whole;
    }

pub that_from_occurrence_of : (fs : List Federate) (i : Input) (o : Occurrence) → occurrence_of fs i ≡ Some o → IsThat fs i o
that_from_occurrence_of fs i o e = that_from fs i o (found_action fs i) refl e

-- two inputs that are one occurrence aren't for different actions
pub one_occurrence : (fs : List Federate) (i j : Input) (o : Occurrence) → IsThat fs i o → IsThat fs j o → AreForDifferentActions i j → ⊥
one_occurrence fs i j o that_i that_j apart =
    let r : Found = record { federate = o.federate; place = o.place } in
    let of_i = found_in_parts (λ s. s.physical) fs i.federate i.action r that_i.found in
    let of_j = found_in_parts (λ s. s.physical) fs j.federate j.action r that_j.found in
    apart (same_name (federate_names fs) i.federate j.federate r.federate of_i.0 of_j.0)
    (same_name_in (λ s. s.physical) (slice_get fs r.federate) i.action j.action r.place of_i.1 of_j.1)
    (that_i.tag ∙ sym that_j.tag)

-- two inputs that are different occurrences are for different actions
pub two_occurrences : (fs : List Federate) (i j : Input) (o p : Occurrence) → IsThat fs i o → IsThat fs j p → (o ≡ p → ⊥) → AreForDifferentActions i j
two_occurrences fs i j o p that_i that_j other federate action tag =
    let same : found_action fs i ≡ found_action fs j
    = ap (λ f. found_in (λ s. s.physical) fs f i.action) federate ∙ ap (λ a. found_in (λ s. s.physical) fs j.federate a) action in
    let at_o : Found = record { federate = o.federate; place = o.place } in
    let at_p : Found = record { federate = p.federate; place = p.place } in
    let found : Some at_o ≡ Some at_p = sym that_i.found ∙ same ∙ that_j.found in
    let both : at_o ≡ at_p = cc in
    let number : o.federate ≡ p.federate = ap (λ (z : Found). z.federate) both in
    let place : o.place ≡ p.place = ap (λ (z : Found). z.place) both in
    let tags : o.tag ≡ p.tag = sym that_i.tag ∙ tag ∙ that_j.tag in
    other (λ step. record { federate = number step; place = place step; tag = tags step })

-- ---- all of them

-- what stands past the end of a list
abbrev no_occurrence : Occurrence
no_occurrence = record { federate = 0; place = 0; tag = origin }

abbrev no_input : Input
no_input = record { federate = []; action = []; tag = origin; value = pos 0 }

module _ (fs : List Federate) (inputs : List Input) (occurrences : List Occurrence)
    (are_those : map (λ o. Some o) occurrences ≡ map (occurrence_of fs) inputs) where
  same_count : length occurrences ≡ length inputs
  same_count =
      let counts : length (map (λ (o : Occurrence). Some o) occurrences) ≡ length (map (occurrence_of fs) inputs) = ap length are_those in
      omega (arith, length-map occurrences (λ (o : Occurrence). Some o), length-map inputs (occurrence_of fs))

  that_at : (k : ℕ) (i : Input) (o : Occurrence) → k < length inputs → IsThat fs (get_or inputs k i) (get_or occurrences k o)
  that_at k i o below =
      that_from_occurrence_of fs (get_or inputs k i) (get_or occurrences k o)
      (sym (get_or-map (occurrence_of fs) inputs k i None below)
      ∙ sym (ap (λ l. get_or l k None) are_those)
      ∙ get_or-map (λ (o : Occurrence). Some o) occurrences k o None (subst (λ n. k < n) (sym same_count) below))

  pub all_known : All (λ i. IsSome (found_action fs i)) inputs
  all_known k i below = subst IsSome (sym (that_at k i no_occurrence below).found) (search rules)

  pub apart_from_distinct : AllPairs (λ a b. a ≢ b) occurrences → AllPairs AreForDifferentActions inputs
  apart_from_distinct distinct j k i first below =
      two_occurrences fs (get_or inputs j i) (get_or inputs k i) (get_or occurrences j no_occurrence) (get_or occurrences k no_occurrence)
      (that_at j i no_occurrence (omega arith)) (that_at k i no_occurrence below)
      (distinct j k no_occurrence first (subst (λ n. k < n) (sym same_count) below))

  pub distinct_from_apart : AllPairs AreForDifferentActions inputs → AllPairs (λ a b. a ≢ b) occurrences
  distinct_from_apart apart j k o first below same =
      let there : k < length inputs = subst (λ n. k < n) same_count below in
      one_occurrence fs (get_or inputs j no_input) (get_or inputs k no_input) (get_or occurrences k o)
      (subst (IsThat fs (get_or inputs j no_input)) same (that_at j no_input o (omega arith)))
      (that_at k no_input o there) (apart j k no_input first there)

  pub some_known : 0 < length occurrences → Any (λ i. IsSome (found_action fs i)) inputs
  some_known some =
      let below : 0 < length inputs = subst (λ n. 0 < n) same_count some in
      (0, get_or inputs 0 no_input, below, get_or_default inputs 0 (get_or inputs 0 no_input) no_input below, all_known 0 no_input below)
