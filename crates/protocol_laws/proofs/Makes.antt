-- What a turn makes for a slot at a tag: over the slot's connection its message, elsewhere its last scheduling.
use Rattle.std.proofs.Common.{◌≡◌, ◌≢◌, ℕ, zero, suc, ◌+◌, ◌⊎◌, inl, inr, Bool, true, false, cond, List, [], ◌∷◌, refl, sym, ap, ◌∙◌, arith, Option, None, Some, ℤ}
use Rattle.std.specs.Prelude.{slice_get, filter, map, nat_eq, if◌then◌else◌, ◌&&◌, AllPairs}
use Rattle.std.specs.List.{AllByRecursion}
use Rattle.std.proofs.lemmas.Bool.{false_from_ne_true, eq-eqb, eqb-true}
use Rattle.std.proofs.lemmas.Bool.Decides.{nat_tests}
use Rattle.tag.specs.LogicalTime.{LogicalTime, is_at_most, is_same, sum_of}
use Rattle.tag.proofs.Order.{same_is_equal}
use Rattle.network.specs.Connection.{Connection}
use Rattle.network.specs.Network.{Network, Scheduling, Effect}
use Rattle.network.specs.Lawful.{IsLawful, IsOwn, HaveDifferentEnds}
use Rattle.network_laws.specs.Newest.{or_else, carried_to, last_in_list}
use Rattle.network.proofs.Items.{first_pair, later_pairs}
use Rattle.network_laws.proofs.Lists.{Among, each, each_more, each_both, each_among}
use Rattle.network_laws.proofs.Newest.{PortFacts, port_facts}
use Rattle.signal.specs.declared.signal.Signal.{Signal}
use Rattle.signal.specs.declared.signal.Signal.TheVariants.{Net, Ltc, Tag, Msg}
use Rattle.network.specs.Undone.{PendingEvent}
use Rattle.protocol.specs.Federate.{scheduled_at, scheduled_by, message_over, sent_over, messages_from}
use Rattle.protocol_laws.proofs.Tests.{both_left, both_right}
use Rattle.network_laws.proofs.LookUps.{found_in, last_held, or_nothing}
use Rattle.protocol_laws.proofs.Waiting.{leads_to, brought_over, last_message, last_message-append, brought_none}

-- a tag up to stop isn't one after stop
not_after : (n : Network) (g t : LogicalTime) → is_at_most t n.stop ≡ true → is_at_most g n.stop ≡ false → is_same g t ≡ false
not_after n g t p q = false_from_ne_true (is_same g t) (λ k. let same : is_at_most g n.stop ≡ is_at_most t n.stop = ap (λ (x : LogicalTime). is_at_most x n.stop) (same_is_equal g t k) in cc)

none_of : (b : Bool) (v : ℤ) → b ≡ false → (if b then Some v else None) ≡ None
none_of true v e = cc
none_of false v e = refl

-- what isn't up to stop is sent nowhere else
brought_along : (n : Network) (number : ℕ) (c : Connection) (s : LogicalTime) (v : ℤ) (a : ℕ) (t : LogicalTime) (slot : ℕ) → slice_get n.connections number ≡ Some c → last_message n a t slot (Msg number s v ∷ []) ≡ brought_over (Some c) s v a t slot
brought_along n number c s v a t slot e = ap (λ (o : Option Connection). brought_over o s v a t slot) e

over_elsewhere : (n : Network) (number : ℕ) (g : LogicalTime) (c : Connection) (o : Option ℤ) (a : ℕ) (t : LogicalTime) (slot : ℕ) (b : Bool) → slice_get n.connections number ≡ Some c → (leads_to (Some c) a slot ≡ true → ⊥) → last_message n a t slot (if b then message_over n g number c o else []) ≡ None
over_elsewhere n number g c o a t slot false e h = refl
over_elsewhere n number g c None a t slot true e h = refl
over_elsewhere n number g c (Some v) a t slot true e h = by_test (is_at_most (sum_of g c.delay) n.stop)
  where
    by_test : (b : Bool) → last_message n a t slot (if b then Msg number (sum_of g c.delay) v ∷ [] else []) ≡ None
    by_test true = brought_along n number c (sum_of g c.delay) v a t slot e ∙ brought_none (Some c) (sum_of g c.delay) v a t slot (λ k s. h k)
    by_test false = refl

over_here : (n : Network) (number : ℕ) (g : LogicalTime) (c : Connection) (o : Option ℤ) (t : LogicalTime) → slice_get n.connections number ≡ Some c → is_at_most t n.stop ≡ true → last_message n c.target t c.slot (message_over n g number c o) ≡ carried_to c g t o
over_here n number g c None t e below = by_test (is_same (sum_of g c.delay) t)
  where
    by_test : (b : Bool) → last_message n c.target t c.slot [] ≡ (if b then None else None)
    by_test true = refl
    by_test false = refl
over_here n number g c (Some v) t e below = by_test (is_at_most (sum_of g c.delay) n.stop) refl
  where
    here : leads_to (Some c) c.target c.slot ≡ true
    here = grind (arith, nat_tests)

    by_test : (b : Bool) → is_at_most (sum_of g c.delay) n.stop ≡ b → last_message n c.target t c.slot (if b then Msg number (sum_of g c.delay) v ∷ [] else []) ≡ carried_to c g t (Some v)
    by_test true q = brought_along n number c (sum_of g c.delay) v c.target t c.slot e ∙ ap (λ (b : Bool). if b && is_same (sum_of g c.delay) t then Some v else None) here
    by_test false q = sym (none_of (is_same (sum_of g c.delay) t) v (not_after n (sum_of g c.delay) t below q))

-- where connections stand in the network
abbrev Stand : Network → ℕ → List Connection → Type 0
Stand n number cs = (m : ℕ) → slice_get cs m ≡ slice_get n.connections (number + m)

stand_first : (n : Network) (number : ℕ) (c : Connection) (rest : List Connection) → Stand n number (c ∷ rest) → slice_get n.connections number ≡ Some c
stand_first n number c rest here = let zeroth : number + 0 ≡ number = omega arith in ap (slice_get n.connections) (sym zeroth) ∙ sym (here 0)

stand_rest : (n : Network) (number : ℕ) (c : Connection) (rest : List Connection) → Stand n number (c ∷ rest) → Stand n (number + 1) rest
stand_rest n number c rest here m = let moved : number + suc m ≡ (number + 1) + m = omega arith in here (suc m) ∙ ap (slice_get n.connections) moved

-- no connection leads to this slot
abbrev pub NoPort : List Connection → ℕ → ℕ → Type 0
NoPort cs a slot = AllByRecursion (λ c. c.target ≡ a → c.slot ≢ slot) cs

not_led : (c : Connection) (a slot : ℕ) → (c.target ≡ a → c.slot ≢ slot) → leads_to (Some c) a slot ≡ true → ⊥
not_led c a slot h k = h (eqb-true c.target a (both_left (nat_eq c.target a) (nat_eq c.slot slot) k)) (eqb-true c.slot slot (both_right (nat_eq c.target a) (nat_eq c.slot slot) k))

messages_elsewhere : (n : Network) (j : ℕ) (g : LogicalTime) (outputs : ℕ → Option ℤ) (number : ℕ) (cs : List Connection) (a : ℕ) (t : LogicalTime) (slot : ℕ) → Stand n number cs → NoPort cs a slot → last_message n a t slot (messages_from n j g outputs number cs) ≡ None
messages_elsewhere n j g outputs number [] a t slot here w = refl
messages_elsewhere n j g outputs number (c ∷ rest) a t slot here w =
    let first = over_elsewhere n number g c (outputs c.port) a t slot (nat_eq c.source j) (stand_first n number c rest here) (not_led c a slot w.0) in
    let others = messages_elsewhere n j g outputs (number + 1) rest a t slot (stand_rest n number c rest here) w.1 in
    last_message-append n a t slot (sent_over n j g outputs number c) (messages_from n j g outputs (number + 1) rest) ∙ (λ y. or_else (others y) (first y))

-- over a connection goes what its port was set to
abbrev pub SentAlone : Network → LogicalTime → (ℕ → Option ℤ) → ℕ → List Connection → Connection → Type 0
SentAlone n g outputs number cs c = (t : LogicalTime) → is_at_most t n.stop ≡ true → last_message n c.target t c.slot (messages_from n c.source g outputs number cs) ≡ carried_to c g t (outputs c.port)

apart_from : (x : Connection) (xs : List Connection) → AllByRecursion (HaveDifferentEnds x) xs → NoPort xs x.target x.slot
apart_from x xs w = each_more (HaveDifferentEnds x) (λ c. c.target ≡ x.target → c.slot ≢ x.slot) (λ c h p q. h (sym p) (sym q)) xs w

sent_alone : (n : Network) (g : LogicalTime) (outputs : ℕ → Option ℤ) (number : ℕ) (cs : List Connection) → Stand n number cs → AllPairs HaveDifferentEnds cs → AllByRecursion (SentAlone n g outputs number cs) cs
sent_alone n g outputs number [] here a = tt
sent_alone n g outputs number (x ∷ xs) here a =
    let apart = each (HaveDifferentEnds x) xs (first_pair HaveDifferentEnds x xs a) in
    let onward = stand_rest n number x xs here in
    let at = stand_first n number x xs here in
    let mine : nat_eq x.source x.source ≡ true = eq-eqb x.source x.source refl in (
      (λ t below. (
          let none = messages_elsewhere n x.source g outputs (number + 1) xs x.target t x.slot onward (apart_from x xs apart) in
          last_message-append n x.target t x.slot (sent_over n x.source g outputs number x) (messages_from n x.source g outputs (number + 1) xs)
          ∙ ((λ y. or_else (none y) (last_message n x.target t x.slot (cond (mine y) (message_over n g number x (outputs x.port)) [])))
          ∙ over_here n number g x (outputs x.port) t at below))),
      each_more (λ c. HaveDifferentEnds x c × SentAlone n g outputs (number + 1) xs c) (SentAlone n g outputs number (x ∷ xs))
          (λ c w t below. (
          let none = over_elsewhere n number g x (outputs x.port) c.target t c.slot (nat_eq x.source c.source) at (not_led x c.target c.slot w.0) in
          let rest = w.1 t below in
          last_message-append n c.target t c.slot (sent_over n c.source g outputs number x) (messages_from n c.source g outputs (number + 1) xs)
          ∙ ((λ y. or_else (rest y) (none y)) ∙ or_nothing (carried_to c g t (outputs c.port)))))
          xs (each_both (HaveDifferentEnds x) (SentAlone n g outputs (number + 1) xs) xs apart (sent_alone n g outputs (number + 1) xs onward (later_pairs HaveDifferentEnds x xs a))),
    )

-- of a turn's messages that for a connection's slot
pub turn_sends : (n : Network) → IsLawful n → (c : Connection) → Among c n.connections → (g : LogicalTime) (outputs : ℕ → Option ℤ) (t : LogicalTime) → is_at_most t n.stop ≡ true → last_message n c.target t c.slot (messages_from n c.source g outputs 0 n.connections) ≡ carried_to c g t (outputs c.port)
turn_sends n L c among g outputs =
    each_among (SentAlone n g outputs 0 n.connections) c n.connections
    (sent_alone n g outputs 0 n.connections (λ m. let e : m ≡ 0 + m = omega arith in ap (slice_get n.connections) e) L.one_source) among

-- where no connection leads, no message does
led_nowhere : (cs : List Connection) (k a slot : ℕ) → NoPort cs a slot → leads_to (slice_get cs k) a slot ≡ true → ⊥
led_nowhere [] k a slot w h = cc
led_nowhere (c ∷ rest) zero a slot w h = not_led c a slot w.0 h
led_nowhere (c ∷ rest) (suc k) a slot w h = led_nowhere rest k a slot w.1 h

pub no_messages : (n : Network) (a : ℕ) (t : LogicalTime) (slot : ℕ) (xs : List Signal) → NoPort n.connections a slot → last_message n a t slot xs ≡ None
no_messages n a t slot [] w = refl
no_messages n a t slot (Net g ∷ rest) w = no_messages n a t slot rest w
no_messages n a t slot (Ltc g ∷ rest) w = no_messages n a t slot rest w
no_messages n a t slot (Tag g ∷ rest) w = no_messages n a t slot rest w
no_messages n a t slot (Msg k s v ∷ rest) w =
    let first = brought_none (slice_get n.connections k) s v a t slot (λ b e. led_nowhere n.connections k a slot w b) in
    let others = no_messages n a t slot rest w in
    λ y. or_else (others y) (first y)

kept_held : (n : Network) (e : PendingEvent) (kept : List PendingEvent) (r : Option ℤ) (t : LogicalTime) (slot : ℕ) (b : Bool) → is_at_most t n.stop ≡ true → is_at_most e.tag n.stop ≡ b → last_held kept t slot ≡ r → last_held (cond b (e ∷ kept) kept) t slot ≡ or_else r (found_in e t slot)
kept_held n e kept r t slot true below q h = ap (λ (o : Option ℤ). or_else o (found_in e t slot)) h
kept_held n e kept r t slot false below q h =
    let other : (is_same e.tag t && nat_eq e.slot slot) ≡ false = ap (λ (b : Bool). b && nat_eq e.slot slot) (not_after n e.tag t below q) in
    h ∙ (sym (or_nothing r) ∙ ap (or_else r) (sym (none_of (is_same e.tag t && nat_eq e.slot slot) e.value other)))

all_scheduled : (n : Network) (g : LogicalTime) (ss : List Scheduling) (t : LogicalTime) (slot : ℕ) → is_at_most t n.stop ≡ true → last_held (filter (λ e. is_at_most e.tag n.stop) (map (scheduled_at g) ss)) t slot ≡ last_in_list ss g slot t
all_scheduled n g [] t slot below = refl
all_scheduled n g (s ∷ rest) t slot below =
    kept_held n (scheduled_at g s) (filter (λ e. is_at_most e.tag n.stop) (map (scheduled_at g) rest)) (last_in_list rest g slot t) t slot (is_at_most (scheduled_at g s).tag n.stop) below refl
    (all_scheduled n g rest t slot below)

-- of a turn's schedulings the last
pub turn_holds : (n : Network) (g : LogicalTime) (effect : Effect) (t : LogicalTime) (slot : ℕ) → is_at_most t n.stop ≡ true → last_held (scheduled_by n g effect) t slot ≡ last_in_list effect.schedulings g slot t
turn_holds n g effect t slot below = all_scheduled n g effect.schedulings t slot below

unscheduled : (ss : List Scheduling) (g : LogicalTime) (slot : ℕ) (t : LogicalTime) → AllByRecursion (λ s. s.slot ≢ slot) ss → last_in_list ss g slot t ≡ None
unscheduled [] g slot t w = refl
unscheduled (s ∷ rest) g slot t w =
    let other : (is_same (sum_of g s.delay) t && nat_eq s.slot slot) ≡ false = false_from_ne_true (is_same (sum_of g s.delay) t && nat_eq s.slot slot) (λ k. w.0 (eqb-true s.slot slot (both_right (is_same (sum_of g s.delay) t) (nat_eq s.slot slot) k))) in
    let first = none_of (is_same (sum_of g s.delay) t && nat_eq s.slot slot) s.value other in
    let others = unscheduled rest g slot t w.1 in
    λ y. or_else (others y) (first y)

-- nothing is scheduled at a port
pub port_unscheduled : (n : Network) → IsLawful n → (c : Connection) → Among c n.connections → (j : ℕ) → c.target ≡ j → (states : List ℤ) (present : ℕ → Option ℤ) (g t : LogicalTime) → is_at_most t n.stop ≡ true → last_held (scheduled_by n g (n.effect j states present)) t c.slot ≡ None
port_unscheduled n L c among j there states present g t below =
    turn_holds n g (n.effect j states present) t c.slot below
    ∙ unscheduled (n.effect j states present).schedulings g c.slot t
    (each_more (IsOwn n j) (λ s. s.slot ≢ c.slot) (λ s own e. each_among (λ d. d.target ≡ j → d.slot ≢ s.slot) c n.connections (each (λ d. d.target ≡ j → d.slot ≢ s.slot) n.connections own.no_port) among there (sym e))
    (n.effect j states present).schedulings (each (IsOwn n j) (n.effect j states present).schedulings (L.schedulings j states present)))

-- a slot is that of a connection, or of none
abbrev pub IsPort : Network → ℕ → ℕ → Type 0
IsPort n a slot = (c : Connection) × PortFacts n c × (c.target ≡ a) × (c.slot ≡ slot)

led : (c : Connection) (a slot : ℕ) → c.target ≡ a → c.slot ≡ slot → leads_to (Some c) a slot ≡ true
led c a slot p q = grind (arith, nat_tests)

find_port : (n : Network) (cs : List Connection) (a slot : ℕ) → AllByRecursion (PortFacts n) cs → IsPort n a slot ⊎ NoPort cs a slot
find_port n [] a slot w = inr tt
find_port n (c ∷ rest) a slot w = by_test (leads_to (Some c) a slot) refl (find_port n rest a slot w.1)
  where
    by_test : (b : Bool) → leads_to (Some c) a slot ≡ b → IsPort n a slot ⊎ NoPort rest a slot → IsPort n a slot ⊎ NoPort (c ∷ rest) a slot
    by_test true e more = inl (c, w.0, eqb-true c.target a (both_left (nat_eq c.target a) (nat_eq c.slot slot) e), eqb-true c.slot slot (both_right (nat_eq c.target a) (nat_eq c.slot slot) e))
    by_test false e more = elim more [
      | inl found ↦ inl found
      | inr none ↦ inr ((λ p q. (let there : leads_to (Some c) a slot ≡ true = led c a slot p q in cc)), none)
    ]

pub port_or_not : (n : Network) → IsLawful n → (a slot : ℕ) → IsPort n a slot ⊎ NoPort n.connections a slot
port_or_not n L a slot = find_port n n.connections a slot (port_facts n L)
