-- Events handed in one after the other.
use Rattle.std.proofs.Common.{◌≡◌, refl, suc, drop, ℕ, ◌+◌, ◌<◌, ◌≤◌, ◌∷◌, ◌++◌, [], List, length, take, get_or, subst, sym, ap, ◌∙◌}
use Rattle.std.proofs.lemmas.List.{append_assoc, append-nil, take_all, take_more, take-append-drop}
use Rattle.node.specs.declared.event.Event.{Event}
use Rattle.node_journal.specs.declared.slip.Slip.{Slip}
use Rattle.node_journal.specs.Slips.{slips_from}
use Rattle.wires_workers.specs.HandedIn.{AreHandedIn, HandedIn, handled, none, one_more}

-- more of them, behind those before
pub handed_in_then : (old middle : List Slip) (xs : List Event) → AreHandedIn old xs middle → {ys : List Event} {last : List Slip} → AreHandedIn middle ys last → AreHandedIn old (xs ++ ys) last
handed_in_then old middle xs before none = subst (λ list. AreHandedIn old list middle) (sym (append-nil xs)) before
handed_in_then old middle xs before (one_more {events} {share} {event} {new} more handed) =
    subst (λ list. AreHandedIn old list new) (append_assoc xs events (event ∷ [])) (one_more (handed_in_then old middle xs before more) handed)

-- one event of a list more
next_of : (events : List Event) (k : ℕ) (event : Event) → k < length events → event ≡ get_or events k event → take (k + 1) events ≡ take k events ++ event ∷ []
next_of events k event within is = take_more events k event within ∙ ap (λ (x : Event). take k events ++ x ∷ []) (sym is)

pub next_handed_in : (old share new : List Slip) (events : List Event) (k : ℕ) (event : Event) → k < length events → event ≡ get_or events k event →
    AreHandedIn old (take k events) share → HandedIn share event new → AreHandedIn old (take (k + 1) events) new
next_handed_in old share new events k event within is before handed =
    subst (λ list. AreHandedIn old list new) (sym (next_of events k event within is)) (one_more before handed)

-- the same where it was handed in as a list
pub next_listed : (old share new : List Slip) (events : List Event) (k : ℕ) (event : Event) → k < length events → event ≡ get_or events k event →
    AreHandedIn old (take k events) share → AreHandedIn share (event ∷ []) new → AreHandedIn old (take (k + 1) events) new
next_listed old share new events k event within is before handed =
    subst (λ list. AreHandedIn old list new) (sym (next_of events k event within is)) (handed_in_then old share (take k events) before handed)

-- a list to its end
pub all_handed_in : (old new : List Slip) (events : List Event) (k : ℕ) → length events ≤ k → AreHandedIn old (take k events) new → AreHandedIn old events new
all_handed_in old new events k done before = subst (λ list. AreHandedIn old list new) (take_all k events done) before

-- events whose slips follow one another
pub batch_handed_in : (old new : List Slip) (first : ℕ) (events : List Event) → new ≡ old ++ slips_from first events → AreHandedIn old events new
batch_handed_in old new first [] is = subst (AreHandedIn old []) (sym (is ∙ append-nil old)) none
batch_handed_in old new first (event ∷ events) is =
    let slip : Slip = record { place = first; event = event } in
    let one : AreHandedIn old (event ∷ []) (old ++ slip ∷ []) = one_more none (handled first refl) in
    let rest = batch_handed_in (old ++ slip ∷ []) new (suc first) events (is ∙ sym (append_assoc old (slip ∷ []) (slips_from (suc first) events))) in
    handed_in_then old (old ++ slip ∷ []) (event ∷ []) one rest

-- the first events, and then the others
pub first_and_others : (old middle new : List Slip) (events : List Event) (made : ℕ) → AreHandedIn old (take made events) middle → AreHandedIn middle (drop made events) new → AreHandedIn old events new
first_and_others old middle new events made first others =
    subst (λ list. AreHandedIn old list new) (take-append-drop made events) (handed_in_then old middle (take made events) first others)
