-- Each slot has one reactor whose turns make its events: a port that of its connection, any other slot its own.
use Rattle.std.proofs.Common.{◌≡◌, ◌≢◌, ℕ, zero, suc, ◌+◌, ◌<◌, ◌≤◌, List, [], ◌∷◌, ◌++◌, Bool, true, false, cond, ◌&&◌, IsTrue, refl, sym, ap, ◌∙◌, inl, inr, ℤ, arith}
use Rattle.std.specs.Prelude.{nat_eq, Option, None, Some, filter, AllPairs, if◌then◌else◌}
use Rattle.std.specs.List.{AllByRecursion, flat_map}
use Rattle.std.proofs.lemmas.Bool.{and_parts, eqb-true, false_from_ne_true, cases_eq}
use Rattle.std.proofs.lemmas.Bool.Decides.{nat_tests}
use Rattle.std.proofs.lemmas.List.{append-nil}
use Rattle.std.proofs.lemmas.List.Elements.{filter-append}
use Rattle.tag.specs.LogicalTime.{LogicalTime, is_at_most, is_same}
use Rattle.network.specs.Connection.{Connection}
use Rattle.network.specs.Event.{Event, is_at}
use Rattle.network.specs.Network.{Network, Scheduling, Effect}
use Rattle.network.specs.Undivided.{message_of, carried_by, scheduled_from, made_by}
use Rattle.network.specs.Lawful.{IsLawful, IsConnected, IsOwn, HaveDifferentEnds}
use Rattle.network_laws.specs.History.{Turn, states_after, effect_after}
use Rattle.network_laws.specs.Sees.{made_in, made_by_first, events_of}
use Rattle.network.proofs.Items.{first_pair, later_pairs}
use Rattle.network_laws.proofs.Lists.{each, each_more, each_both, each_append, each_filter, none_kept}
use Rattle.network_laws.proofs.Agree.{is_for}

-- where the connection to a slot begins
abbrev pub port_source : List Connection → ℕ → ℕ → Option ℕ
port_source [] a slot = None
port_source (c ∷ cs) a slot = if nat_eq c.target a && nat_eq c.slot slot then Some c.source else port_source cs a slot

abbrev pub source_or : Option ℕ → ℕ → ℕ
source_or None a = a
source_or (Some i) a = i

-- the reactor whose turns make the events of a slot
abbrev pub maker : Network → ℕ → ℕ → ℕ
maker n a slot = source_or (port_source n.connections a slot) a

apart_test : (x c : Connection) → HaveDifferentEnds x c → (nat_eq x.target c.target && nat_eq x.slot c.slot) ≡ false
apart_test x c h = false_from_ne_true (nat_eq x.target c.target && nat_eq x.slot c.slot) (λ t. let parts = and_parts (nat_eq x.target c.target) (nat_eq x.slot c.slot) t in h (eqb-true x.target c.target parts.0) (eqb-true x.slot c.slot parts.1))

own_test : (x : Connection) (i slot : ℕ) → (x.target ≡ i → x.slot ≢ slot) → (nat_eq x.target i && nat_eq x.slot slot) ≡ false
own_test x i slot h = false_from_ne_true (nat_eq x.target i && nat_eq x.slot slot) (λ t. let parts = and_parts (nat_eq x.target i) (nat_eq x.slot slot) t in h (eqb-true x.target i parts.0) (eqb-true x.slot slot parts.1))

itself : (x : Connection) → (nat_eq x.target x.target && nat_eq x.slot x.slot) ≡ true
itself x = grind (arith, nat_tests)

abbrev pub FoundIn : List Connection → Connection → Type 0
FoundIn cs c = port_source cs c.target c.slot ≡ Some c.source

pub all_found : (cs : List Connection) → AllPairs HaveDifferentEnds cs → AllByRecursion (FoundIn cs) cs
all_found [] a = tt
all_found (x ∷ xs) a = (
  ap (λ (b : Bool). cond b (Some x.source) (port_source xs x.target x.slot)) (itself x),
  each_more (λ c. HaveDifferentEnds x c × FoundIn xs c) (FoundIn (x ∷ xs))
      (λ c w. ap (λ (b : Bool). cond b (Some x.source) (port_source xs c.target c.slot)) (apart_test x c w.0) ∙ w.1) xs
      (each_both (HaveDifferentEnds x) (FoundIn xs) xs (each (HaveDifferentEnds x) xs (first_pair HaveDifferentEnds x xs a)) (all_found xs (later_pairs HaveDifferentEnds x xs a))),
)

pub none_found : (cs : List Connection) (i slot : ℕ) → AllByRecursion (λ c. c.target ≡ i → c.slot ≢ slot) cs → port_source cs i slot ≡ None
none_found [] i slot a = refl
none_found (x ∷ xs) i slot a = ap (λ (b : Bool). cond b (Some x.source) (port_source xs i slot)) (own_test x i slot a.0) ∙ none_found xs i slot a.1

source_is_there : (n : Network) (cs : List Connection) → AllByRecursion (IsConnected n) cs → (a slot : ℕ) → a < n.reactors → source_or (port_source cs a slot) a < n.reactors
source_is_there n [] w a slot h = h
source_is_there n (c ∷ cs) w a slot h = by_test (nat_eq c.target a && nat_eq c.slot slot) w.0.source (source_is_there n cs w.1 a slot h)
  where
    by_test : (b : Bool) → c.source < n.reactors → source_or (port_source cs a slot) a < n.reactors → source_or (cond b (Some c.source) (port_source cs a slot)) a < n.reactors
    by_test true p q = p
    by_test false p q = q

pub maker_is_there : (n : Network) → IsLawful n → (a slot : ℕ) → a < n.reactors → maker n a slot < n.reactors
maker_is_there n L a slot h = source_is_there n n.connections (each (IsConnected n) n.connections L.connected) a slot h

-- reactor i is the one that makes such events
abbrev IsMadeBy : Network → ℕ → Event → Type 0
IsMadeBy n i e = maker n e.reactor e.slot ≡ i

message_made : (n : Network) (i : ℕ) (s : LogicalTime) (c : Connection) (o : Option ℤ) → c.source ≡ i → FoundIn n.connections c → AllByRecursion (IsMadeBy n i) (message_of s c o)
message_made n i s c None e f = tt
message_made n i s c (Some value) e f = (ap (λ (x : Option ℕ). source_or x c.target) f ∙ e, tt)

carried_made : (n : Network) (i : ℕ) (s : LogicalTime) (c : Connection) (o : Option ℤ) (b : Bool) → nat_eq c.source i ≡ b → FoundIn n.connections c → AllByRecursion (IsMadeBy n i) (cond b (message_of s c o) [])
carried_made n i s c o true e f = message_made n i s c o (eqb-true c.source i e) f
carried_made n i s c o false e f = tt

all_carried_made : (n : Network) (i : ℕ) (s : LogicalTime) (outputs : ℕ → Option ℤ) (cs : List Connection) → AllByRecursion (FoundIn n.connections) cs → AllByRecursion (IsMadeBy n i) (flat_map (carried_by i s outputs) cs)
all_carried_made n i s outputs [] f = tt
all_carried_made n i s outputs (c ∷ cs) f =
    each_append (IsMadeBy n i) (carried_by i s outputs c) (flat_map (carried_by i s outputs) cs)
    (carried_made n i s c (outputs c.port) (nat_eq c.source i) refl f.0) (all_carried_made n i s outputs cs f.1)

all_scheduled_made : (n : Network) (i : ℕ) (s : LogicalTime) (place : ℕ) (ss : List Scheduling) → AllByRecursion (IsOwn n i) ss → AllByRecursion (IsMadeBy n i) (scheduled_from i s place ss)
all_scheduled_made n i s place [] w = tt
all_scheduled_made n i s place (x ∷ xs) w = (
  ap (λ (o : Option ℕ). source_or o i) (none_found n.connections i x.slot (each (λ c. c.target ≡ i → c.slot ≢ x.slot) n.connections w.0.no_port)),
  all_scheduled_made n i s (place + 1) xs w.1,
)

pub all_made : (n : Network) → IsLawful n → (i : ℕ) (s : LogicalTime) (states : List ℤ) (present : ℕ → Option ℤ) → AllByRecursion (IsMadeBy n i) (made_by n i s (n.effect i states present))
all_made n L i s states present =
    let effect : Effect = n.effect i states present in
    let carried : List Event = flat_map (carried_by i s effect.outputs) n.connections in
    let scheduled : List Event = scheduled_from i s 0 effect.schedulings in
    each_filter (IsMadeBy n i) (IsMadeBy n i) (λ e. is_at_most e.tag n.stop) (λ e k a. a) (carried ++ scheduled)
    (each_append (IsMadeBy n i) carried scheduled
    (all_carried_made n i s effect.outputs n.connections (all_found n.connections L.one_source))
    (all_scheduled_made n i s 0 effect.schedulings (each (IsOwn n i) effect.schedulings (L.schedulings i states present))))

-- what a test for a slot at a tag says
pub is_for_parts : (a : ℕ) (t : LogicalTime) (slot : ℕ) (e : Event) → is_for a t slot e ≡ true → (e.reactor ≡ a) × (IsTrue (is_same e.tag t) × (e.slot ≡ slot))
is_for_parts a t slot e h =
    let both = and_parts (is_at a t e) (nat_eq e.slot slot) h in
    let at = and_parts (nat_eq e.reactor a) (is_same e.tag t) both.0 in
    (eqb-true e.reactor a at.0, (at.1, eqb-true e.slot slot both.1))

-- another reactor makes no event for a slot
pub not_made : (n : Network) → IsLawful n → (i a : ℕ) (t : LogicalTime) (slot : ℕ) → (maker n a slot ≡ i → ⊥) → (s : LogicalTime) (states : List ℤ) (present : ℕ → Option ℤ) → filter (is_for a t slot) (made_by n i s (n.effect i states present)) ≡ []
not_made n L i a t slot h s states present =
    none_kept (is_for a t slot) (made_by n i s (n.effect i states present))
    (each_more (IsMadeBy n i) (λ e. is_for a t slot e ≡ false)
    (λ e w. false_from_ne_true (is_for a t slot e) (λ k. let parts = is_for_parts a t slot e k in h ((λ x. maker n (sym parts.0 x) (sym parts.1.1 x)) ∙ w)))
    (made_by n i s (n.effect i states present)) (all_made n L i s states present))

not_made_in : (n : Network) → IsLawful n → (i a : ℕ) (t : LogicalTime) (slot : ℕ) → (maker n a slot ≡ i → ⊥) → (h : List Turn) → filter (is_for a t slot) (made_in n i h) ≡ []
not_made_in n L i a t slot k [] = refl
not_made_in n L i a t slot k (x ∷ xs) =
    let rest = not_made_in n L i a t slot k xs in
    let mine = not_made n L i a t slot k x.tag (states_after n i xs) x.present in
    filter-append (is_for a t slot) (made_in n i xs) (made_by n i x.tag (effect_after n i xs x)) ∙ (λ y. rest y ++ mine y)

none_yet : (n : Network) → IsLawful n → (a : ℕ) (t : LogicalTime) (slot : ℕ) (trace : ℕ → List Turn) (count : ℕ) → count ≤ maker n a slot → filter (is_for a t slot) (made_by_first n count trace) ≡ []
none_yet n L a t slot trace zero h = refl
none_yet n L a t slot trace (suc count) h =
    let rest = none_yet n L a t slot trace count (omega arith) in
    let mine = not_made_in n L count a t slot (λ e. omega arith) (trace count) in
    filter-append (is_for a t slot) (made_by_first n count trace) (made_in n count (trace count)) ∙ (λ y. rest y ++ mine y)

one_made : (n : Network) → IsLawful n → (a : ℕ) (t : LogicalTime) (slot : ℕ) (trace : ℕ → List Turn) (count : ℕ) → maker n a slot < count → filter (is_for a t slot) (made_by_first n count trace) ≡ filter (is_for a t slot) (made_in n (maker n a slot) (trace (maker n a slot)))
one_made n L a t slot trace zero h = absurd (omega arith)
one_made n L a t slot trace (suc count) h = elim (cases_eq (maker n a slot) count) [
  | inl e ↦
      (let rest = none_yet n L a t slot trace count (omega arith) in
      filter-append (is_for a t slot) (made_by_first n count trace) (made_in n count (trace count))
      ∙ (λ y. rest y ++ filter (is_for a t slot) (made_in n (sym e y) (trace (sym e y)))))
  | inr e ↦
      (let rest = one_made n L a t slot trace count (omega arith) in
      let none = not_made_in n L count a t slot e (trace count) in
      filter-append (is_for a t slot) (made_by_first n count trace) (made_in n count (trace count))
      ∙ ((λ y. rest y ++ none y) ∙ append-nil (filter (is_for a t slot) (made_in n (maker n a slot) (trace (maker n a slot))))))
]

-- the events of a trace for a slot: those from outside, and those of its maker
pub events_for : (n : Network) → IsLawful n → (a : ℕ) → a < n.reactors → (t : LogicalTime) (slot : ℕ) (trace : ℕ → List Turn) → filter (is_for a t slot) (events_of n trace) ≡ filter (is_for a t slot) n.external ++ filter (is_for a t slot) (made_in n (maker n a slot) (trace (maker n a slot)))
events_for n L a h t slot trace =
    filter-append (is_for a t slot) n.external (made_by_first n n.reactors trace)
    ∙ ap (λ (l : List Event). filter (is_for a t slot) n.external ++ l) (one_made n L a t slot trace n.reactors (maker_is_there n L a slot h))
