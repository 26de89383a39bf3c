-- Lists of events that are prefixes of journals.
use Rattle.std.proofs.Common.{◌≡◌, ◌∙◌, ℕ, zero, suc, ◌<◌, ◌≤◌, List, [], ◌∷◌, ◌++◌, length, map, set, get_or, take, drop, refl, sym, ap, arith, Some, ⊎_elim}
use Rattle.std.specs.Prelude.{slice_get, Result, Ok, Err, OnOk, OnErr}
use Rattle.std.proofs.lemmas.List.{get_or_default, set-get_or, set_past, take_all}
use Rattle.std.proofs.lemmas.Bool.{cases_lt}
use Rattle.network_laws.specs.Settled.{BeginsWith}
use Rattle.node.specs.declared.event.Event.{Event}
use Rattle.recorder_search.specs.Reading.{GrewTo}

-- a list whose events are those of another at each place is a prefix of it
pub begins_so : (events journal : List Event) → length events ≤ length journal →
    ((k : ℕ) → k < length events → slice_get events k ≡ slice_get journal k) → BeginsWith journal events
begins_so [] journal len same = (journal, refl)
begins_so (e ∷ events) [] len same = absurd (omega arith)
begins_so (e ∷ events) (f ∷ journal) len same =
    let first : Some e ≡ Some f = same 0 (omega arith) in
    let rest = begins_so events journal (omega arith) (λ k less. same (suc k) (omega arith)) in
    (rest.0, grind (arith, first, rest.1))

left_of : {X : Type 0} (xs ys : List X) (i : ℕ) → i < length xs → slice_get (xs ++ ys) i ≡ slice_get xs i
left_of [] ys i less = absurd (omega arith)
left_of (x ∷ xs) ys zero less = refl
left_of (x ∷ xs) ys (suc i) less = left_of xs ys i (omega arith)

-- a journal that begins with events has each of them at its place
pub begins_at : (events journal : List Event) (k : ℕ) → k < length events → BeginsWith journal events → slice_get events k ≡ slice_get journal k
begins_at events journal k less begins = sym (ap (λ (l : List Event). slice_get l k) begins.1 ∙ left_of events begins.0 k less)

-- what is said of each of a list is said of the one at a place
pub mapped_at : {X : Type 0} (f : X → List Event) (xs : List X) (k : ℕ) (x : X) → k < length xs → x ≡ get_or xs k x → get_or (map f xs) k [] ≡ f x
mapped_at f [] k x less is = absurd (omega arith)
mapped_at f (y ∷ xs) zero x less is = ap f (sym is)
mapped_at f (y ∷ xs) (suc k) x less is = mapped_at f xs k x (omega arith) is

pub known_at : (known : List (List Event)) (k : ℕ) (x : List Event) → k < length known → x ≡ get_or known k x → get_or known k [] ≡ x
known_at known k x less is = get_or_default known k [] x less ∙ sym is

none_known : (known : List (List Event)) (k : ℕ) → length known ≤ k → let none : List Event = [] in get_or known k none ≡ none
none_known [] k past = refl
none_known (x ∷ known) zero past = absurd (omega arith)
none_known (x ∷ known) (suc k) past = none_known known k (omega arith)

-- where the journals of all that is known begin so, so do all
pub all_begin : (known : List (List Event)) (journals : List (List Event)) (n : ℕ) → length known ≤ n →
    ((k : ℕ) → k < n → BeginsWith (get_or journals k []) (get_or known k [])) → GrewTo known journals
all_begin known journals n all so place =
    ⊎_elim
    (λ (less : place < n). so place less)
    (λ (past : n ≤ place). (get_or journals place [], rw (none_known known place (omega arith)) refl))
    (cases_lt place n)

-- where all begin so, the journal at each place does
pub begins_there : (known journals : List (List Event)) (k : ℕ) (events journal : List Event) → get_or known k [] ≡ events → get_or journals k [] ≡ journal →
    GrewTo known journals → BeginsWith journal events
begins_there known journals k events journal there whole grew = ((grew k).0, sym whole ∙ (grew k).1 ∙ ap (λ l. l ++ (grew k).0) there)

-- a journal goes on with events
pub added_at : {E : Type 0} (r : Result (Unit {0}) E) (known now : List (List Event)) (place count : ℕ) (before after events : List Event) → now ≡ set known place after →
    place < length known → before ≡ get_or known place before → count ≡ length events → OnOk r (after ≡ before ++ take count (drop 0 events)) →
    OnOk r (now ≡ set known place (get_or known place [] ++ events))
added_at (Ok u) known now place count before after events is less there all more =
    let whole : take count events ≡ events = take_all count events (omega arith) in
    is ∙ ap (set known place) (more ∙ ap (λ l. before ++ l) whole ∙ ap (λ journal. journal ++ events) (there ∙ get_or_default known place before [] less))
added_at (Err e) known now place count before after events is less there all more = tt

-- or it stays
pub same_at : {E : Type 0} (r : Result (Unit {0}) E) (known now : List (List Event)) (place : ℕ) (before after : List Event) → now ≡ set known place after →
    before ≡ get_or known place before → OnErr r (after ≡ before) → OnErr r (now ≡ known)
same_at (Ok u) known now place before after is there same = tt
same_at (Err e) known now place before after is there same = is ∙ ap (set known place) (same ∙ there) ∙ set-get_or known place before

-- or there is none
pub none_goes_on : (known now : List (List Event)) (place : ℕ) (events : List Event) → now ≡ known → length known ≤ place → now ≡ set known place (get_or known place [] ++ events)
none_goes_on known now place events is past = is ∙ sym (set_past known place (get_or known place [] ++ events) past)
