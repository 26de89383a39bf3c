-- Of the events that a turn makes for a slot at a tag the last counts, and so do the external events.
use Rattle.std.proofs.Common.{◌≡◌, ℕ, ◌+◌, ◌≤◌, List, [], ◌∷◌, ◌++◌, Bool, true, false, cond, ◌&&◌, IsTrue, refl, sym, ap, ◌∙◌, ℤ}
use Rattle.std.specs.Prelude.{nat_eq, map, Option, None, Some, filter, AllPairs, if◌then◌else◌}
use Rattle.std.specs.List.{AllByRecursion, flat_map}
use Rattle.tag.specs.LogicalTime.{LogicalTime, is_at_most, is_same, sum_of}
use Rattle.tag.proofs.Order.{same_is_equal}
use Rattle.network.specs.Connection.{Connection}
use Rattle.network.specs.Event.{Event, is_later, present_at}
use Rattle.network.specs.Network.{Network, Scheduling, Effect}
use Rattle.network.specs.Undivided.{message_of, carried_by, scheduled_from, made_by}
use Rattle.network.specs.Lawful.{IsLawful, IsOwn, HaveDifferentEnds, AreForDifferentSlots}
use Rattle.network.specs.Undone.{PendingEvent, pending_event_of}
use Rattle.network_laws.specs.Newest.{or_else}
use Rattle.network_laws.specs.Pending.{Replaces, AreInOrder}
use Rattle.network.proofs.Items.{first_pair, later_pairs}
use Rattle.network_laws.proofs.Lists.{each, each_more, each_both, each_append, each_filter}
use Rattle.network_laws.proofs.LookUps.{last_held, or_nothing}
use Rattle.network_laws.proofs.Agree.{is_for}
use Rattle.network_laws.proofs.Newest.{latest_value, latest_value_after, IsFrom, all_scheduled_from, same_turn_later}
use Rattle.network_laws.proofs.Maker.{is_for_parts}

-- those of one reactor, as they are put
abbrev pub held_for : ℕ → List Event → List PendingEvent
held_for a events = map pending_event_of (filter (λ e. nat_eq e.reactor a) events)

one_found : (x : Event) (xs : List Event) (a : ℕ) (t : LogicalTime) (slot : ℕ) → AllByRecursion (Replaces x) xs → (b c d : Bool) → nat_eq x.reactor a ≡ b → is_same x.tag t ≡ c → nat_eq x.slot slot ≡ d →
    last_held (held_for a xs) t slot ≡ present_at xs a t slot →
    last_held (map pending_event_of (cond b (x ∷ filter (λ e. nat_eq e.reactor a) xs) (filter (λ e. nat_eq e.reactor a) xs))) t slot
    ≡ latest_value (cond ((b && c) && d) (x ∷ filter (is_for a t slot) xs) (filter (is_for a t slot) xs))
one_found x xs a t slot w false c d p q r h = h
one_found x xs a t slot w true false d p q r h =
    let other : (is_same x.tag t && nat_eq x.slot slot) ≡ false = ap (λ (b : Bool). b && nat_eq x.slot slot) q in
    ap (λ (b : Bool). or_else (last_held (held_for a xs) t slot) (if b then Some x.value else None)) other ∙ (or_nothing (last_held (held_for a xs) t slot) ∙ h)
one_found x xs a t slot w true true false p q r h =
    let other : (is_same x.tag t && nat_eq x.slot slot) ≡ false = (λ y. q y && r y) in
    ap (λ (b : Bool). or_else (last_held (held_for a xs) t slot) (if b then Some x.value else None)) other ∙ (or_nothing (last_held (held_for a xs) t slot) ∙ h)
one_found x xs a t slot w true true true p q r h =
    let here : (is_same x.tag t && nat_eq x.slot slot) ≡ true = (λ y. q y && r y) in
    let mine : is_for a t slot x ≡ true = (λ y. (p y && q y) && r y) in
    let own = is_for_parts a t slot x mine in
    (λ y. or_else (h y) (if here y then Some x.value else None))
    ∙ sym (latest_value_after (x ∷ []) (filter (is_for a t slot) xs) (
      each_filter (Replaces x) (λ y. IsTrue (is_later y.source x.source)) (is_for a t slot)
          (λ y k replaces. (let parts = is_for_parts a t slot y k in replaces (parts.0 ∙ sym own.0) (same_is_equal y.tag t parts.1.0 ∙ sym (same_is_equal x.tag t own.1.0)) (parts.1.1 ∙ sym own.1.1))) xs w,
      tt,
    ))

-- put one after the other, they are found as they are present
pub found_as_present : (xs : List Event) → AreInOrder xs → (a : ℕ) (t : LogicalTime) (slot : ℕ) → last_held (held_for a xs) t slot ≡ present_at xs a t slot
found_as_present [] w a t slot = refl
found_as_present (x ∷ xs) w a t slot =
    one_found x xs a t slot w.0 (nat_eq x.reactor a) (is_same x.tag t) (nat_eq x.slot slot) refl refl refl (found_as_present xs w.1 a t slot)

in_order_if : (p : Event → Bool) (x : Event) (xs : List Event) → AllByRecursion (Replaces x) (filter p xs) → AreInOrder (filter p xs) → (b : Bool) → AreInOrder (cond b (x ∷ filter p xs) (filter p xs))
in_order_if p x xs w r true = (w, r)
in_order_if p x xs w r false = r

in_order_filter : (p : Event → Bool) (xs : List Event) → AreInOrder xs → AreInOrder (filter p xs)
in_order_filter p [] w = tt
in_order_filter p (x ∷ xs) w =
    in_order_if p x xs (each_filter (Replaces x) (Replaces x) p (λ y k r. r) xs w.0) (in_order_filter p xs w.1) (p x)

in_order_append : (xs ys : List Event) → AreInOrder xs → AreInOrder ys → AllByRecursion (λ x. AllByRecursion (Replaces x) ys) xs → AreInOrder (xs ++ ys)
in_order_append [] ys w r c = r
in_order_append (x ∷ xs) ys w r c = (each_append (Replaces x) xs ys w.0 c.0, in_order_append xs ys w.1 r c.1)

-- a connection carries one event at most, to its own slot
abbrev GoesTo : Connection → Event → Type 0
GoesTo c e = (e.reactor ≡ c.target) × (e.slot ≡ c.slot)

message_goes : (s : LogicalTime) (c : Connection) (o : Option ℤ) (b : Bool) → AllByRecursion (GoesTo c) (cond b (message_of s c o) [])
message_goes s c None true = tt
message_goes s c (Some v) true = ((refl, refl), tt)
message_goes s c o false = tt

message_in_order : (s : LogicalTime) (c : Connection) (o : Option ℤ) (b : Bool) → AreInOrder (cond b (message_of s c o) [])
message_in_order s c None true = tt
message_in_order s c (Some v) true = (tt, tt)
message_in_order s c o false = tt

-- they go to a slot of one of these connections
carried_goes : (P : Event → Type 0) (i : ℕ) (s : LogicalTime) (outputs : ℕ → Option ℤ) (cs : List Connection) → AllByRecursion (λ c. (e : Event) → GoesTo c e → P e) cs → AllByRecursion P (flat_map (carried_by i s outputs) cs)
carried_goes P i s outputs [] w = tt
carried_goes P i s outputs (c ∷ cs) w =
    each_append P (carried_by i s outputs c) (flat_map (carried_by i s outputs) cs)
    (each_more (GoesTo c) P w.0 (carried_by i s outputs c) (message_goes s c (outputs c.port) (nat_eq c.source i)))
    (carried_goes P i s outputs cs w.1)

carried_in_order : (i : ℕ) (s : LogicalTime) (outputs : ℕ → Option ℤ) (cs : List Connection) → AllPairs HaveDifferentEnds cs → AreInOrder (flat_map (carried_by i s outputs) cs)
carried_in_order i s outputs [] a = tt
carried_in_order i s outputs (c ∷ cs) a =
    let apart = each (HaveDifferentEnds c) cs (first_pair HaveDifferentEnds c cs a) in
    in_order_append (carried_by i s outputs c) (flat_map (carried_by i s outputs) cs)
    (message_in_order s c (outputs c.port) (nat_eq c.source i))
    (carried_in_order i s outputs cs (later_pairs HaveDifferentEnds c cs a))
    (each_more (GoesTo c) (λ x. AllByRecursion (Replaces x) (flat_map (carried_by i s outputs) cs))
    (λ x at. carried_goes (Replaces x) i s outputs cs (each_more (HaveDifferentEnds c) (λ d. (e : Event) → GoesTo d e → Replaces x e)
    (λ d end e to p q r. absurd (end (sym at.0 ∙ sym p ∙ to.0) (sym at.1 ∙ sym r ∙ to.1))) cs apart))
    (carried_by i s outputs c) (message_goes s c (outputs c.port) (nat_eq c.source i)))

scheduled_in_order : (i : ℕ) (s : LogicalTime) (place : ℕ) (ss : List Scheduling) → AreInOrder (scheduled_from i s place ss)
scheduled_in_order i s place [] = tt
scheduled_in_order i s place (x ∷ xs) =
    let e : Event = record { tag = sum_of s x.delay; reactor = i; slot = x.slot; source = record { tag = s; place = place }; value = x.value } in (
      each_more (λ y. IsFrom s y × (place + 1 ≤ y.source.place)) (Replaces e) (λ y w p q r. same_turn_later s place y.source w.0 w.1) (scheduled_from i s (place + 1) xs) (all_scheduled_from i s (place + 1) xs),
      scheduled_in_order i s (place + 1) xs,
    )

scheduled_goes : (P : Event → Type 0) (i : ℕ) (s : LogicalTime) (place : ℕ) (ss : List Scheduling) → AllByRecursion (λ x. (e : Event) → e.reactor ≡ i → e.slot ≡ x.slot → P e) ss → AllByRecursion P (scheduled_from i s place ss)
scheduled_goes P i s place [] w = tt
scheduled_goes P i s place (x ∷ xs) w = (w.0 _ refl refl, scheduled_goes P i s (place + 1) xs w.1)

-- a connection and a scheduling are for different slots
abbrev AreApart : ℕ → Connection → Scheduling → Type 0
AreApart i c x = c.target ≡ i → c.slot ≡ x.slot → ⊥

none_of : (i : ℕ) (ss : List Scheduling) (cs : List Connection) → AllByRecursion (λ x. AllByRecursion (λ c. AreApart i c x) cs) ss → AllByRecursion (λ c. AllByRecursion (AreApart i c) ss) cs
none_of i [] cs w = each_more (λ c. Unit {0}) (λ c. Unit {0}) (λ c u. tt) cs (all_units cs)
  where
    all_units : (cs : List Connection) → AllByRecursion (λ c. Unit {0}) cs
    all_units [] = tt
    all_units (c ∷ rest) = (tt, all_units rest)
none_of i (x ∷ xs) cs w = each_both (λ c. AreApart i c x) (λ c. AllByRecursion (AreApart i c) xs) cs w.0 (none_of i xs cs w.1)

-- what a turn makes
pub made_in_order : (n : Network) → IsLawful n → (i : ℕ) (s : LogicalTime) (states : List ℤ) (present : ℕ → Option ℤ) → AreInOrder (made_by n i s (n.effect i states present))
made_in_order n L i s states present =
    let effect : Effect = n.effect i states present in
    let carried : List Event = flat_map (carried_by i s effect.outputs) n.connections in
    let scheduled : List Event = scheduled_from i s 0 effect.schedulings in
    let own : AllByRecursion (IsOwn n i) effect.schedulings = each (IsOwn n i) effect.schedulings (L.schedulings i states present) in
    in_order_filter (λ e. is_at_most e.tag n.stop) (carried ++ scheduled)
    (in_order_append carried scheduled
    (carried_in_order i s effect.outputs n.connections L.one_source)
    (scheduled_in_order i s 0 effect.schedulings)
    (carried_goes (λ x. AllByRecursion (Replaces x) scheduled) i s effect.outputs n.connections
    (each_more (λ c. AllByRecursion (AreApart i c) effect.schedulings) (λ c. (e : Event) → GoesTo c e → AllByRecursion (Replaces e) scheduled)
    (λ c w e to. scheduled_goes (Replaces e) i s 0 effect.schedulings
    (each_more (AreApart i c) (λ x. (y : Event) → y.reactor ≡ i → y.slot ≡ x.slot → Replaces e y)
    (λ x none y at slot p q r. absurd (none (sym to.0 ∙ sym p ∙ at) (sym to.1 ∙ sym r ∙ slot))) effect.schedulings w))
    n.connections (none_of i effect.schedulings n.connections
    (each_more (IsOwn n i) (λ x. AllByRecursion (λ c. AreApart i c x) n.connections) (λ x w. each (λ c. AreApart i c x) n.connections w.no_port) effect.schedulings own)))))

-- external events
pub external_in_order : (es : List Event) → AllPairs AreForDifferentSlots es → AreInOrder es
external_in_order [] a = tt
external_in_order (e ∷ rest) a = (
  each_more (AreForDifferentSlots e) (Replaces e) (λ x w p q r. absurd (w (sym q) (sym p) (sym r))) rest (each (AreForDifferentSlots e) rest (first_pair AreForDifferentSlots e rest a)),
  external_in_order rest (later_pairs AreForDifferentSlots e rest a),
)
