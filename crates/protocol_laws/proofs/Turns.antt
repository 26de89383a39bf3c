-- What a turn makes: messages over its federate's connections and then an LTC, and later events.
use Rattle.std.proofs.Common.{◌≡◌, ℕ, suc, ◌+◌, ◌<◌, ◌≤◌, Bool, true, false, cond, IsTrue, List, [], ◌∷◌, ◌++◌, refl, sym, ap, subst, ◌∙◌, arith, min, Option, None, Some, ℤ}
use Rattle.std.specs.Prelude.{slice_get, if◌then◌else◌, filter, map, All, nat_eq}
use Rattle.std.proofs.lemmas.Bool.{eqb-true}
use Rattle.tag.specs.LogicalTime.{LogicalTime, IsLogicalTime, is_at_most, sum_of, place}
use Rattle.tag.proofs.Order.{at_most_places, before_places, finite_is_logical, not_forever, top}
use Rattle.tag.proofs.SumLaws.{sum_is_logical, sum_later}
use Rattle.tag.proofs.Paths.{plain_is_logical}
use Rattle.network.specs.Connection.{Connection}
use Rattle.network.specs.Event.{Event}
use Rattle.network.specs.Network.{Network, Scheduling}
use Rattle.network.specs.Lawful.{IsOwn, IsExternal}
use Rattle.signal.specs.declared.signal.Signal.{Signal}
use Rattle.signal.specs.declared.signal.Signal.TheVariants.{Net, Ltc, Tag, Msg}
use Rattle.network.specs.Undone.{PendingEvent, pending_event_of}
use Rattle.protocol.specs.Federate.{scheduled_at, message_over, sent_over, messages_from}
use Rattle.protocol_laws.proofs.Upward.{next_ltc, IsOver, last_ltc, IsUp, least_key, AreNets}
use Rattle.protocol_laws.proofs.StillUndone.{AreHeld}

-- messages of a turn at this tag of federate j
abbrev pub AreMessages : Network → ℕ → LogicalTime → List Signal → Type 0
AreMessages n j g [] = Unit {0}
AreMessages n j g (Net t ∷ rest) = ⊥
AreMessages n j g (Ltc t ∷ rest) = ⊥
AreMessages n j g (Tag t ∷ rest) = ⊥
AreMessages n j g (Msg k t v ∷ rest) = IsOver n j (slice_get n.connections k) g t × AreMessages n j g rest

messages-append : (n : Network) (j : ℕ) (g : LogicalTime) (xs ys : List Signal) → AreMessages n j g xs → AreMessages n j g ys → AreMessages n j g (xs ++ ys)
messages-append n j g [] ys h k = k
messages-append n j g (Net t ∷ rest) ys h k = absurd h
messages-append n j g (Ltc t ∷ rest) ys h k = absurd h
messages-append n j g (Tag t ∷ rest) ys h k = absurd h
messages-append n j g (Msg m t v ∷ rest) ys h k = (h.0, messages-append n j g rest ys h.1 k)

message_if : (n : Network) (j number : ℕ) (g : LogicalTime) (c : Connection) (value : ℤ) (b : Bool) → slice_get n.connections number ≡ Some c → c.source ≡ j → (b ≡ true → IsTrue (is_at_most (sum_of g c.delay) n.stop)) → AreMessages n j g (if b then Msg number (sum_of g c.delay) value ∷ [] else [])
message_if n j number g c value true e s t =
    let P : Option Connection → Type 0 = λ o. IsOver n j o g (sum_of g c.delay) in
    (subst P (sym e) (s, refl, t refl), tt)
message_if n j number g c value false e s t = tt

message_is : (n : Network) (j number : ℕ) (g : LogicalTime) (c : Connection) (o : Option ℤ) → slice_get n.connections number ≡ Some c → c.source ≡ j → AreMessages n j g (message_over n g number c o)
message_is n j number g c None e s = tt
message_is n j number g c (Some value) e s = message_if n j number g c value (is_at_most (sum_of g c.delay) n.stop) e s (λ t. t)

sent_if : (n : Network) (j number : ℕ) (g : LogicalTime) (c : Connection) (o : Option ℤ) (b : Bool) → slice_get n.connections number ≡ Some c → (b ≡ true → c.source ≡ j) → AreMessages n j g (if b then message_over n g number c o else [])
sent_if n j number g c o true e s = message_is n j number g c o e (s refl)
sent_if n j number g c o false e s = tt

pub messages_of_turn : (n : Network) (j : ℕ) (g : LogicalTime) (outputs : ℕ → Option ℤ) (number : ℕ) (connections : List Connection) → ((m : ℕ) → slice_get connections m ≡ slice_get n.connections (number + m)) → AreMessages n j g (messages_from n j g outputs number connections)
messages_of_turn n j g outputs number [] here = tt
messages_of_turn n j g outputs number (c ∷ rest) here =
    let zeroth : number + 0 ≡ number = omega arith in
    let first : slice_get n.connections number ≡ Some c = ap (slice_get n.connections) (sym zeroth) ∙ sym (here 0) in
    let onward : (m : ℕ) → slice_get rest m ≡ slice_get n.connections ((number + 1) + m) =
    λ m. (let moved : number + suc m ≡ (number + 1) + m = omega arith in here (suc m) ∙ ap (slice_get n.connections) moved) in
    messages-append n j g (sent_over n j g outputs number c) (messages_from n j g outputs (number + 1) rest)
    (sent_if n j number g c (outputs c.port) (nat_eq c.source j) first (eqb-true c.source j))
    (messages_of_turn n j g outputs (number + 1) rest onward)

pub next_of_turn : (n : Network) (j : ℕ) (g : LogicalTime) (xs : List Signal) → AreMessages n j g xs → next_ltc (xs ++ Ltc g ∷ []) ≡ Some g
next_of_turn n j g [] h = refl
next_of_turn n j g (Net t ∷ rest) h = absurd h
next_of_turn n j g (Ltc t ∷ rest) h = absurd h
next_of_turn n j g (Tag t ∷ rest) h = absurd h
next_of_turn n j g (Msg k t v ∷ rest) h = next_of_turn n j g rest h.1

pub turn_is_up : (n : Network) (j low : ℕ) (g : LogicalTime) (xs : List Signal) → IsLogicalTime g → low ≤ place g → IsTrue (is_at_most g n.stop) → AreMessages n j g xs → IsUp n j low (xs ++ Ltc g ∷ [])
turn_is_up n j low g [] p l s h = (p, l, s, tt)
turn_is_up n j low g (Net t ∷ rest) p l s h = absurd h
turn_is_up n j low g (Ltc t ∷ rest) p l s h = absurd h
turn_is_up n j low g (Tag t ∷ rest) p l s h = absurd h
turn_is_up n j low g (Msg k t v ∷ rest) p l s h = (g, next_of_turn n j g rest h.1, h.0, turn_is_up n j low g rest p l s h.1)

pub last_of_turn : (n : Network) (j low : ℕ) (g : LogicalTime) (xs : List Signal) → AreMessages n j g xs → last_ltc low (xs ++ Ltc g ∷ []) ≡ place g + 1
last_of_turn n j low g [] h = refl
last_of_turn n j low g (Net t ∷ rest) h = absurd h
last_of_turn n j low g (Ltc t ∷ rest) h = absurd h
last_of_turn n j low g (Tag t ∷ rest) h = absurd h
last_of_turn n j low g (Msg k t v ∷ rest) h = last_of_turn n j low g rest h.1

pub key_of_turn : (n : Network) (j : ℕ) (g : LogicalTime) (xs : List Signal) → AreMessages n j g xs → least_key (xs ++ Ltc g ∷ []) ≡ min (place g) top
key_of_turn n j g [] h = refl
key_of_turn n j g (Net t ∷ rest) h = absurd h
key_of_turn n j g (Ltc t ∷ rest) h = absurd h
key_of_turn n j g (Tag t ∷ rest) h = absurd h
key_of_turn n j g (Msg k t v ∷ rest) h = key_of_turn n j g rest h.1

pub nets_of_turn : (n : Network) (j low undone : ℕ) (transit : List LogicalTime) (g : LogicalTime) (xs : List Signal) → AreMessages n j g xs → AreNets low transit undone (xs ++ Ltc g ∷ [])
nets_of_turn n j low undone transit g [] h = tt
nets_of_turn n j low undone transit g (Net t ∷ rest) h = absurd h
nets_of_turn n j low undone transit g (Ltc t ∷ rest) h = absurd h
nets_of_turn n j low undone transit g (Tag t ∷ rest) h = absurd h
nets_of_turn n j low undone transit g (Msg k t v ∷ rest) h = nets_of_turn n j low undone transit g rest h.1

pub all_first : {X : Type 0} (P : X → Type 0) (x : X) (xs : List X) → All P (x ∷ xs) → P x
all_first P x xs h = h 0 x (omega arith)

pub all_rest : {X : Type 0} (P : X → Type 0) (x : X) (xs : List X) → All P (x ∷ xs) → All P xs
all_rest P x xs h = λ k d l. h (suc k) d (omega arith)

held_if : (stop : LogicalTime) (low : ℕ) (x : PendingEvent) (more : List PendingEvent) (b : Bool) → IsLogicalTime x.tag → low ≤ place x.tag → (b ≡ true → place x.tag ≤ place stop) → AreHeld stop low more → AreHeld stop low (cond b (x ∷ more) more)
held_if stop low x more true p l t r = (p, l, t refl, r)
held_if stop low x more false p l t r = r

-- what a turn schedules is later
pub scheduled_are_held : (n : Network) (j : ℕ) (g : LogicalTime) (ss : List Scheduling) → IsLogicalTime g → IsLogicalTime n.stop → place g < top → All (IsOwn n j) ss → AreHeld n.stop (place g + 1) (filter (λ e. is_at_most e.tag n.stop) (map (scheduled_at g) ss))
scheduled_are_held n j g [] p q l a = tt
scheduled_are_held n j g (s ∷ rest) p q l a =
    let own : IsOwn n j s = all_first (IsOwn n j) s rest a in
    let delay = plain_is_logical s.delay own.delay in
    let sum = sum_is_logical g s.delay p delay in
    let later = before_places g (sum_of g s.delay) p sum (sum_later g s.delay p (not_forever g l) own.later) in
    held_if n.stop (place g + 1) (scheduled_at g s) (filter (λ e. is_at_most e.tag n.stop) (map (scheduled_at g) rest)) (is_at_most (sum_of g s.delay) n.stop)
    sum (omega arith) (at_most_places (sum_of g s.delay) n.stop sum q) (scheduled_are_held n j g rest p q l (all_rest (IsOwn n j) s rest a))

external_if : (stop : LogicalTime) (e : Event) (j : ℕ) (rest : List Event) (b : Bool) → IsLogicalTime e.tag → place e.tag ≤ place stop → AreHeld stop 0 (map pending_event_of (filter (λ x. nat_eq x.reactor j) rest)) → AreHeld stop 0 (map pending_event_of (cond b (e ∷ filter (λ x. nat_eq x.reactor j) rest) (filter (λ x. nat_eq x.reactor j) rest)))
external_if stop e j rest true p l r = (p, omega arith, l, r)
external_if stop e j rest false p l r = r

-- what comes from outside
pub external_are_held : (n : Network) (j : ℕ) (es : List Event) → IsLogicalTime n.stop → All (IsExternal n) es → AreHeld n.stop 0 (map pending_event_of (filter (λ e. nat_eq e.reactor j) es))
external_are_held n j [] q a = tt
external_are_held n j (e ∷ rest) q a =
    let here : IsExternal n e = all_first (IsExternal n) e rest a in
    let p = finite_is_logical e.tag here.tag in
    external_if n.stop e j rest (nat_eq e.reactor j) p (at_most_places e.tag n.stop p q here.in_time) (external_are_held n j rest q (all_rest (IsExternal n) e rest a))
