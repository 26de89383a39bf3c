-- A row tells what was present, and rows tell the trace.
use Rattle.std.proofs.Common.{◌≡◌, ℕ, zero, suc, ◌+◌, ◌<◌, ◌≤◌, List, [], ◌∷◌, ◌++◌, Bool, true, false, cond, refl, sym, ap, ◌∙◌, ℤ, arith}
use Rattle.std.specs.Prelude.{nat_eq, nat_lt, Option, None, Some, filter, map, reverse, if◌then◌else◌}
use Rattle.std.specs.Option.{option_map}
use Rattle.std.specs.List.{AllByRecursion}
use Rattle.std.proofs.lemmas.Bool.{false_from_ne_true, eqb-false, eqb-true}
use Rattle.std.proofs.lemmas.Bool.Decides.{nat_tests}
use Rattle.std.proofs.lemmas.List.{map-append, reverse-append}
use Rattle.std.proofs.lemmas.List.Elements.{filter-append}
use Rattle.tag.specs.LogicalTime.{LogicalTime}
use Rattle.network.specs.Event.{Event, Entry, entry_at, listed_from, listed, latest, present_at, value_at}
use Rattle.network.specs.Network.{Network}
use Rattle.network.specs.Undivided.{Row, part}
use Rattle.network.specs.Lawful.{IsExternal}
use Rattle.network_laws.specs.History.{Turn, with_turn, turn_of_row, trace_of}
use Rattle.network_laws.proofs.Lists.{each_more, none_kept}
use Rattle.network_laws.proofs.Agree.{is_for}
use Rattle.network_laws.proofs.Maker.{is_for_parts}

entry_read : (first place : ℕ) (o : Option ℤ) (rest : List Entry) (v : Option ℤ) → value_at rest place ≡ (if nat_lt place (first + 1) then None else v) → (first ≡ place → o ≡ v) → value_at (entry_at first o ++ rest) place ≡ (if nat_lt place first then None else v)
entry_read first place None rest v h e = grind (arith, nat_tests)
entry_read first place (Some x) rest v h e = grind (arith, nat_tests)

listed_read : (count first place : ℕ) (f : ℕ → Option ℤ) → ((q : ℕ) → first + count ≤ q → f q ≡ None) → value_at (listed_from first count f) place ≡ (if nat_lt place first then None else f place)
listed_read zero first place f h = no_more (nat_lt place first) refl
  where
    no_more : (b : Bool) → nat_lt place first ≡ b → None ≡ (if b then None else f place)
    no_more true e = refl
    no_more false e = sym (h place (grind (arith, nat_tests)))
listed_read (suc count) first place f h =
    entry_read first place (f first) (listed_from (first + 1) count f) (f place)
    (listed_read count (first + 1) place f (λ q k. h q (omega arith))) (λ e. ap f e)

pub listing_reads : (count : ℕ) (f : ℕ → Option ℤ) → ((q : ℕ) → count ≤ q → f q ≡ None) → value_at (listed count f) ≡ f
listing_reads count f h = λ i place. (listed_read count 0 place f (λ q k. h q (omega arith)) ∙ from_start place (f place)) i
  where
    from_start : (place : ℕ) (v : Option ℤ) → (if nat_lt place 0 then None else v) ≡ v
    from_start place v = grind (arith, nat_tests)

-- nothing is present where there is no slot
pub nothing_beyond : (n : Network) (es : List Event) → AllByRecursion (IsExternal n) es → (j : ℕ) (t : LogicalTime) (slot : ℕ) → n.slots j ≤ slot → present_at es j t slot ≡ None
nothing_beyond n es a j t slot h =
    let none : filter (is_for j t slot) es ≡ [] =
    none_kept (is_for j t slot) es (each_more (IsExternal n) (λ e. is_for j t slot e ≡ false)
    (λ e w. false_from_ne_true (is_for j t slot e) (λ k. let parts = is_for_parts j t slot e k in absurd (beyond e w parts.0 parts.1.1))) es a) in
    ap (λ (l : List Event). option_map (λ (e : Event). e.value) (latest l)) none
  where
    beyond : (e : Event) → IsExternal n e → e.reactor ≡ j → e.slot ≡ slot → ⊥
    beyond e w p q = let low : e.slot < n.slots j = rw (← p) w.slot in omega arith

one_row : (row : Row) (old : List Turn) (b : Bool) → reverse (map turn_of_row (cond b (row ∷ []) [])) ++ old ≡ cond b (turn_of_row row ∷ old) old
one_row row old true = refl
one_row row old false = refl

pub trace_grows : (rows : List Row) (row : Row) → trace_of (rows ++ row ∷ []) ≡ with_turn (trace_of rows) row.reactor (turn_of_row row)
trace_grows rows row = λ y i. at_reactor i y
  where
    at_reactor : (i : ℕ) → trace_of (rows ++ row ∷ []) i ≡ with_turn (trace_of rows) row.reactor (turn_of_row row) i
    at_reactor i =
        ap (λ (l : List Row). reverse (map turn_of_row l)) (filter-append (λ (r : Row). nat_eq r.reactor i) rows (row ∷ []))
        ∙ (ap reverse (map-append turn_of_row (part i rows) (part i (row ∷ [])))
        ∙ (reverse-append (map turn_of_row (part i rows)) (map turn_of_row (part i (row ∷ [])))
        ∙ one_row row (trace_of rows i) (nat_eq row.reactor i)))

with_turn_if : (P : List Turn → Type 0) (b : Bool) (turn : Turn) (old : List Turn) → (b ≡ true → P (turn ∷ old)) → (b ≡ false → P old) → P (cond b (turn ∷ old) old)
with_turn_if P true turn old f g = f refl
with_turn_if P false turn old f g = g refl

-- what holds of the reactor with its turn and of the others holds of all
pub in_trace : (P : ℕ → List Turn → Type 0) (trace : ℕ → List Turn) (j : ℕ) (turn : Turn) → P j (turn ∷ trace j) → ((i : ℕ) → (j ≡ i → ⊥) → P i (trace i)) → (i : ℕ) → P i (with_turn trace j turn i)
in_trace P trace j turn mine others i = with_turn_if (P i) (nat_eq j i) turn (trace i) (λ e. at j i (eqb-true j i e) turn mine) (λ e. others i (eqb-false j i e))
  where
    at : (j i : ℕ) → j ≡ i → (turn : Turn) → P j (turn ∷ trace j) → P i (turn ∷ trace i)
    at j i e turn p = rw (← e) p
