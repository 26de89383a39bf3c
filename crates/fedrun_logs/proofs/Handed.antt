-- Events of a journal that are handed in one part after the other.
use Rattle.std.proofs.Common.{◌≡◌, ◌∙◌, sym, ap, ℕ, ◌+◌, ◌-◌, ◌<◌, ◌≤◌, min, List, [], ◌∷◌, ◌++◌, length, take, drop, get_or, append_assoc, take-add, length-drop, arith}
use Rattle.std.proofs.lemmas.List.{length-take, take_all, take_min}
use Rattle.node.specs.declared.event.Event.{Event}
use Rattle.node_journal.specs.declared.slip.Slip.{Slip}
use Rattle.node_journal.specs.Numbered.{events_of}
use Rattle.node_journal.specs.Slips.{slips_from}
use Rattle.node_journal.proofs.Appended.{one_pushed, some_added}
use Rattle.node_journal.proofs.Numbered.{more_events}

-- one event more is taken
pub one_more : (events next journal : List Event) (event : Event) (place at : ℕ) → events ≡ take (at - place) (drop place journal) → place ≤ at → at < length journal
    → event ≡ get_or journal at event → next ≡ events ++ event ∷ [] → next ≡ take (at + 1 - place) (drop place journal)
one_more events next journal event place at before begun there is pushed =
    some_added [] events next journal place at 1 before (one_pushed events next journal at event pushed there is) begun

-- a front has its own length
pub a_front : (events rest : List Event) (count : ℕ) → events ≡ take count rest → events ≡ take (length events) rest
a_front events rest count is =
    let size : length events ≡ min count (length rest) = ap length is ∙ length-take count rest in
    is ∙ sym (ap (λ (n : ℕ). take n rest) size ∙ take_min count rest)

-- it has events, where some are to be taken, and some are there
pub some_there : (events journal : List Event) (place end : ℕ) → events ≡ take (end - place) (drop place journal) → place < end → end ≤ length journal → 0 < length events
some_there events journal place end is less within =
    omega (arith, ap length is, length-take (end - place) (drop place journal), length-drop place journal)

-- all of a batch is handed in
pub all_in : (old new : List Slip) (batch : List Event) (made : ℕ) → (first : ℕ) × (new ≡ old ++ slips_from first (take made batch)) → length batch ≤ made
    → events_of new ≡ events_of old ++ batch
all_in old new batch made slips all =
    more_events old new slips.0 batch (slips.1 ∙ ap (λ (es : List Event). old ++ slips_from slips.0 es) (take_all made batch all))

-- a part more is handed in
pub part_in : (old now new journal part seen : List Event) (place : ℕ) → now ≡ old ++ take place journal → new ≡ now ++ part → part ≡ take (length part) (drop place journal) → seen ≡ part
    → new ≡ old ++ take (place + length seen) journal
part_in old now new journal part seen place before is front same =
    is ∙ ap (λ (es : List Event). es ++ part) before ∙ append_assoc old (take place journal) part
    ∙ ap (λ (es : List Event). old ++ es) (ap (λ (es : List Event). take place journal ++ es) front ∙ sym (take-add place (length part) journal))
    ∙ ap (λ (es : List Event). old ++ take (place + length es) journal) (sym same)

-- no more than there are
pub within : (journal part seen : List Event) (place : ℕ) → part ≡ take (length part) (drop place journal) → seen ≡ part → place ≤ length journal → place + length seen ≤ length journal
within journal part seen place front same begun =
    omega (arith, ap length front, ap length same, length-take (length part) (drop place journal), length-drop place journal)
