-- What is present at a tag, slot by slot.
use Rattle.std.proofs.Common.{◌≡◌, Bool, true, false, cond, List, [], ◌∷◌, refl, sym, ap, ◌∙◌, arith, map}
use Rattle.std.specs.Prelude.{if◌then◌else◌, nat_lt, nat_eq}
use Rattle.std.specs.List.{AllByRecursion}
use Rattle.std.proofs.lemmas.Bool.Decides.{nat_tests}
use Rattle.tag.specs.LogicalTime.{LogicalTime, is_same}
use Rattle.network.specs.Undone.{PendingEvent, is_held_before, is_for_same, put, put_all}
use Rattle.reactor_agenda.specs.declared.firings.Firings.{Firings}
use Rattle.reactor_agenda.specs.Agenda.{present_in}
use Rattle.reactor_agenda.specs.Invariant.{all_firings, undone_of}
use Rattle.reactor_agenda.specs.Present.{entry_of, set_entry, set_entries}
use Rattle.reactor_agenda.proofs.Filtered.{all_put, kept_put_all}
use Rattle.reactor_agenda.proofs.Fired.{those_at}
use Rattle.reactor_agenda.proofs.Views.{firings_in}
use Rattle.reactor_agenda.proofs.Putting.{ordered_put_all}

abbrev pub AreAt : LogicalTime → List PendingEvent → Type 0
AreAt tag u = AllByRecursion (λ e. is_same e.tag tag ≡ true) u

before_by_slot : (e x : PendingEvent) (tag : LogicalTime) → is_same e.tag tag ≡ true → is_same x.tag tag ≡ true → is_held_before e x ≡ nat_lt e.slot x.slot
before_by_slot e x tag h k = grind (arith, nat_tests)

same_by_slot : (e x : PendingEvent) (tag : LogicalTime) → is_same e.tag tag ≡ true → is_same x.tag tag ≡ true → is_for_same e x ≡ nat_eq e.slot x.slot
same_by_slot e x tag h k = grind (arith, nat_tests)

over_if : (a b : Bool) (xs ys zs : List PendingEvent) → map entry_of (if a then xs else (if b then ys else zs)) ≡ (if a then map entry_of xs else (if b then map entry_of ys else map entry_of zs))
over_if true b xs ys zs = refl
over_if false true xs ys zs = refl
over_if false false xs ys zs = refl

entries_put : (tag : LogicalTime) (e : PendingEvent) (u : List PendingEvent) → is_same e.tag tag ≡ true → AreAt tag u → map entry_of (put e u) ≡ set_entry (entry_of e) (map entry_of u)
entries_put tag e [] h a = refl
entries_put tag e (x ∷ u) h a =
    over_if (is_held_before e x) (is_for_same e x) (e ∷ x ∷ u) (e ∷ u) (x ∷ put e u)
    ∙ ap (λ b. if b then map entry_of (e ∷ x ∷ u) else (if is_for_same e x then map entry_of (e ∷ u) else map entry_of (x ∷ put e u))) (before_by_slot e x tag h a.0)
    ∙ ap (λ b. if nat_lt e.slot x.slot then map entry_of (e ∷ x ∷ u) else (if b then map entry_of (e ∷ u) else map entry_of (x ∷ put e u))) (same_by_slot e x tag h a.0)
    ∙ ap (λ rest. if nat_lt e.slot x.slot then map entry_of (e ∷ x ∷ u) else (if nat_eq e.slot x.slot then map entry_of (e ∷ u) else entry_of x ∷ rest)) (entries_put tag e u h a.1)

entries_put_all : (tag : LogicalTime) (es u : List PendingEvent) → AreAt tag es → AreAt tag u → map entry_of (put_all es u) ≡ set_entries (map entry_of es) (map entry_of u)
entries_put_all tag [] u h a = refl
entries_put_all tag (e ∷ es) u h a =
    entries_put_all tag es (put e u) h.1 (all_put (λ x. is_same x.tag tag ≡ true) e u h.0 a)
    ∙ ap (set_entries (map entry_of es)) (entries_put tag e u h.0 a)

those_if : (tag : LogicalTime) (e : PendingEvent) (rest : List PendingEvent) (b : Bool) → is_same e.tag tag ≡ b → AreAt tag rest → AreAt tag (cond b (e ∷ rest) rest)
those_if tag e rest true h a = (h, a)
those_if tag e rest false h a = a

are_at : (tag : LogicalTime) (u : List PendingEvent) → AreAt tag (those_at tag u)
are_at tag [] = tt
are_at tag (e ∷ u) = those_if tag e (those_at tag u) (is_same e.tag tag) refl (are_at tag u)

-- what is present is what was put at the tag, over the firings there
pub present_is : (tag : LogicalTime) (events : List PendingEvent) (timers : List Firings) →
    set_entries (map entry_of (those_at tag events)) (set_entries (map entry_of (those_at tag (all_firings timers))) []) ≡ present_in (undone_of events timers) tag
present_is tag events timers =
    let firings : those_at tag (firings_in timers) ≡ put_all (those_at tag (all_firings timers)) [] = kept_put_all (λ g. is_same g tag) (all_firings timers) [] tt in
    ap (set_entries (map entry_of (those_at tag events)))
    (sym (ap (map entry_of) firings ∙ entries_put_all tag (those_at tag (all_firings timers)) [] (are_at tag (all_firings timers)) tt))
    ∙ sym (ap (map entry_of) (kept_put_all (λ g. is_same g tag) events (firings_in timers) (ordered_put_all (all_firings timers) [] tt))
    ∙ entries_put_all tag (those_at tag events) (those_at tag (firings_in timers)) (are_at tag events) (are_at tag (firings_in timers)))
