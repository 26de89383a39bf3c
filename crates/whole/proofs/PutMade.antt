-- What a turn puts to a federate is what it makes for it.
use Rattle.std.proofs.Common.{◌≡◌, ℕ, ◌+◌, Bool, true, false, cond, List, [], ◌∷◌, ◌++◌, map, filter, nat_eq, ◌&&◌, Option, None, Some, refl, sym, ap, ◌∙◌, arith, ℤ}
use Rattle.std.specs.Prelude.{if◌then◌else◌}
use Rattle.std.specs.List.{flat_map}
use Rattle.std.proofs.lemmas.Bool.Decides.{nat_tests}
use Rattle.std.proofs.lemmas.List.{map-append}
use Rattle.std.proofs.lemmas.List.Elements.{filter-append}
use Rattle.tag.specs.LogicalTime.{LogicalTime, is_at_most, sum_of}
use Rattle.network.specs.Connection.{Connection}
use Rattle.network.specs.Event.{Event, value_at}
use Rattle.network.specs.Network.{Scheduling}
use Rattle.network.specs.Undivided.{message_of, carried_by, scheduled_from}
use Rattle.network.specs.Undone.{PendingEvent, pending_event_of}
use Rattle.reactor_agenda.specs.Agenda.{in_time}
use Rattle.whole.specs.Targets.{between}
use Rattle.whole.specs.Construction.{TurnMade, held_if, carried_over, deferred_by, put_to}

abbrev no_held : List PendingEvent
no_held = []

-- what of these events goes to a federate, up to a tag
abbrev pub held_up_to : LogicalTime → ℕ → List Event → List PendingEvent
held_up_to stop a es = map pending_event_of (filter (λ e. nat_eq e.reactor a) (filter (λ e. is_at_most e.tag stop) es))

held-append : (stop : LogicalTime) (a : ℕ) (xs ys : List Event) → held_up_to stop a (xs ++ ys) ≡ held_up_to stop a xs ++ held_up_to stop a ys
held-append stop a xs ys =
    let up_to : Event → Bool = λ e. is_at_most e.tag stop in
    let mine : Event → Bool = λ e. nat_eq e.reactor a in
    ap (λ es. map pending_event_of (filter mine es)) (filter-append up_to xs ys)
    ∙ (ap (map pending_event_of) (filter-append mine (filter up_to xs) (filter up_to ys))
    ∙ map-append pending_event_of (filter mine (filter up_to xs)) (filter mine (filter up_to ys)))

none_if : (b : Bool) → (if b then no_held else no_held) ≡ no_held
none_if true = refl
none_if false = refl

one_held : (stop tag : LogicalTime) (target slot : ℕ) (e : Event) (v : ℤ) (a : ℕ) → e.tag ≡ tag → e.reactor ≡ target → pending_event_of e ≡ record { tag = tag; slot = slot; value = v } → (b : Bool) → is_at_most tag stop ≡ b →
    held_up_to stop a (e ∷ []) ≡ (if nat_eq target a then in_time stop (record { tag = tag; slot = slot; value = v } ∷ []) else [])
one_held stop tag target slot e v a p q r true h =
    let up_to : Event → Bool = λ e. is_at_most e.tag stop in
    let early : is_at_most e.tag stop ≡ true = ap (λ g. is_at_most g stop) p ∙ h in
    ap (λ b. map pending_event_of (filter (λ x. nat_eq x.reactor a) (cond b (e ∷ []) []))) early
    ∙ (ap (λ b. map pending_event_of (cond b (e ∷ []) [])) (ap (λ k. nat_eq k a) q) ∙ (by_test (nat_eq target a)
    ∙ sym (ap (λ b. if nat_eq target a then cond b (record { tag = tag; slot = slot; value = v } ∷ []) [] else []) h)))
  where
    by_test : (b : Bool) → map pending_event_of (cond b (e ∷ []) []) ≡ (if b then record { tag = tag; slot = slot; value = v } ∷ [] else [])
    by_test true = ap (λ x. x ∷ []) r
    by_test false = refl
one_held stop tag target slot e v a p q r false h =
    let late : is_at_most e.tag stop ≡ false = ap (λ g. is_at_most g stop) p ∙ h in
    ap (λ b. map pending_event_of (filter (λ x. nat_eq x.reactor a) (cond b (e ∷ []) []))) late
    ∙ (sym (none_if (nat_eq target a)) ∙ sym (ap (λ b. if nat_eq target a then cond b (record { tag = tag; slot = slot; value = v } ∷ []) [] else []) h))

-- what one connection carries
carried_one : (t : TurnMade) (a : ℕ) (c : Connection) (o : Option ℤ) (b d : Bool) → nat_eq c.source t.federate ≡ b → nat_eq c.target a ≡ d →
    (if b && d then held_if t.stop (sum_of t.tag c.delay) c.slot o else []) ≡ held_up_to t.stop a (if b then message_of t.tag c o else [])
carried_one t a c o false d p q = refl
carried_one t a c None true true p q = refl
carried_one t a c None true false p q = refl
carried_one t a c (Some v) true d p q =
    ap (λ x. if x then in_time t.stop (record { tag = sum_of t.tag c.delay; slot = c.slot; value = v } ∷ []) else []) (sym q)
    ∙ sym (one_held t.stop (sum_of t.tag c.delay) c.target c.slot _ v a refl refl refl (is_at_most (sum_of t.tag c.delay) t.stop) refl)

over_if : {X Y : Type 0} (f : X → List Y) (b : Bool) (x : X) (rest : List X) → flat_map f (cond b (x ∷ rest) rest) ≡ (if b then f x else []) ++ flat_map f rest
over_if f true x rest = refl
over_if f false x rest = refl

carried_all : (t : TurnMade) (a : ℕ) (cs : List Connection) → flat_map (carried_over t) (between t.federate a cs) ≡ held_up_to t.stop a (flat_map (carried_by t.federate t.tag (value_at t.outputs)) cs)
carried_all t a [] = refl
carried_all t a (c ∷ cs) =
    let outputs = value_at t.outputs in
    over_if (carried_over t) (nat_eq c.source t.federate && nat_eq c.target a) c (between t.federate a cs)
    ∙ ((λ i. carried_one t a c (outputs c.port) (nat_eq c.source t.federate) (nat_eq c.target a) refl refl i ++ carried_all t a cs i)
    ∙ sym (held-append t.stop a (carried_by t.federate t.tag outputs c) (flat_map (carried_by t.federate t.tag outputs) cs)))

if_append : {X : Type 0} (b : Bool) (xs ys : List X) → (if b then xs ++ ys else []) ≡ (if b then xs else []) ++ (if b then ys else [])
if_append true xs ys = refl
if_append false xs ys = refl

deferred_all : (t : TurnMade) (a place : ℕ) (ss : List Scheduling) → (if nat_eq t.federate a then flat_map (deferred_by t) ss else []) ≡ held_up_to t.stop a (scheduled_from t.federate t.tag place ss)
deferred_all t a place [] = none_if (nat_eq t.federate a)
deferred_all t a place (s ∷ ss) =
    let e : Event = record { tag = sum_of t.tag s.delay; reactor = t.federate; slot = s.slot; source = record { tag = t.tag; place = place }; value = s.value } in
    if_append (nat_eq t.federate a) (deferred_by t s) (flat_map (deferred_by t) ss)
    ∙ ((λ i. sym (one_held t.stop (sum_of t.tag s.delay) t.federate s.slot e s.value a refl refl refl (is_at_most (sum_of t.tag s.delay) t.stop) refl) i ++ deferred_all t a (place + 1) ss i)
    ∙ sym (held-append t.stop a (e ∷ []) (scheduled_from t.federate t.tag (place + 1) ss)))

pub eq_swaps : (a b : ℕ) → nat_eq a b ≡ nat_eq b a
eq_swaps a b = grind (arith, nat_tests)

-- what is put to a federate
pub put_is_made : (t : TurnMade) (a : ℕ) (cs : List Connection) →
    put_to t (a, between t.federate a cs) ≡ held_up_to t.stop a (flat_map (carried_by t.federate t.tag (value_at t.outputs)) cs ++ scheduled_from t.federate t.tag 0 t.schedulings)
put_is_made t a cs =
    let outputs = value_at t.outputs in
    (λ i. carried_all t a cs i ++ (if eq_swaps a t.federate i then flat_map (deferred_by t) t.schedulings else []))
    ∙ (ap (λ es. held_up_to t.stop a (flat_map (carried_by t.federate t.tag outputs) cs) ++ es) (deferred_all t a 0 t.schedulings)
    ∙ sym (held-append t.stop a (flat_map (carried_by t.federate t.tag outputs) cs) (scheduled_from t.federate t.tag 0 t.schedulings)))

-- all of it is in time
still_in_time : (stop : LogicalTime) (a : ℕ) (es : List Event) → in_time stop (held_up_to stop a es) ≡ held_up_to stop a es
still_in_time stop a [] = refl
still_in_time stop a (e ∷ es) = by_test (is_at_most e.tag stop) refl (nat_eq e.reactor a) refl (still_in_time stop a es)
  where
    by_test : (b : Bool) → is_at_most e.tag stop ≡ b → (d : Bool) → nat_eq e.reactor a ≡ d → in_time stop (held_up_to stop a es) ≡ held_up_to stop a es →
        in_time stop (map pending_event_of (filter (λ x. nat_eq x.reactor a) (cond b (e ∷ filter (λ x. is_at_most x.tag stop) es) (filter (λ x. is_at_most x.tag stop) es))))
        ≡ map pending_event_of (filter (λ x. nat_eq x.reactor a) (cond b (e ∷ filter (λ x. is_at_most x.tag stop) es) (filter (λ x. is_at_most x.tag stop) es)))
    by_test false p d q h = h
    by_test true p true q h =
        ap (λ c. in_time stop (map pending_event_of (cond c (e ∷ filter (λ x. nat_eq x.reactor a) (filter (λ x. is_at_most x.tag stop) es)) (filter (λ x. nat_eq x.reactor a) (filter (λ x. is_at_most x.tag stop) es))))) q
        ∙ (ap (λ c. cond c (pending_event_of e ∷ in_time stop (held_up_to stop a es)) (in_time stop (held_up_to stop a es))) p ∙ (ap (λ r. pending_event_of e ∷ r) h
        ∙ sym (ap (λ c. map pending_event_of (cond c (e ∷ filter (λ x. nat_eq x.reactor a) (filter (λ x. is_at_most x.tag stop) es)) (filter (λ x. nat_eq x.reactor a) (filter (λ x. is_at_most x.tag stop) es)))) q)))
    by_test true p false q h =
        ap (λ c. in_time stop (map pending_event_of (cond c (e ∷ filter (λ x. nat_eq x.reactor a) (filter (λ x. is_at_most x.tag stop) es)) (filter (λ x. nat_eq x.reactor a) (filter (λ x. is_at_most x.tag stop) es))))) q
        ∙ (h ∙ sym (ap (λ c. map pending_event_of (cond c (e ∷ filter (λ x. nat_eq x.reactor a) (filter (λ x. is_at_most x.tag stop) es)) (filter (λ x. nat_eq x.reactor a) (filter (λ x. is_at_most x.tag stop) es)))) q))

pub put_in_time : (t : TurnMade) (a : ℕ) (cs : List Connection) →
    in_time t.stop (put_to t (a, between t.federate a cs)) ≡ held_up_to t.stop a (flat_map (carried_by t.federate t.tag (value_at t.outputs)) cs ++ scheduled_from t.federate t.tag 0 t.schedulings)
put_in_time t a cs =
    let es = flat_map (carried_by t.federate t.tag (value_at t.outputs)) cs ++ scheduled_from t.federate t.tag 0 t.schedulings in
    ap (in_time t.stop) (put_is_made t a cs) ∙ still_in_time t.stop a es
