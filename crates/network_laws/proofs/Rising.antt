-- Each turn of the undivided program is later than the one before.
use Rattle.std.proofs.Common.{◌≡◌, ℕ, ◌+◌, ◌<◌, ◌≤◌, inl, inr, ℤ, List, [], ◌∷◌, ◌++◌, Bool, true, false, cond, IsTrue, refl, arith}
use Rattle.std.specs.Prelude.{nat_eq, Option, None, Some}
use Rattle.std.specs.List.{AllByRecursion, flat_map}
use Rattle.std.proofs.lemmas.Bool.{eqb-true}
use Rattle.tag.specs.LogicalTime.{LogicalTime, IsLogicalTime, IsFinite, is_at_most, place, origin, sum_of}
use Rattle.tag.specs.Total.{IsConnectionDelay}
use Rattle.tag.proofs.Order.{finite_is_logical, before_places, at_most_places, finite_is_not_forever, finite_up_to}
use Rattle.tag.proofs.SumLaws.{sum_is_logical, sum_at_least_first, sum_later}
use Rattle.tag.proofs.Paths.{plain_is_logical, none_or_some}
use Rattle.network.specs.Connection.{Connection}
use Rattle.network.specs.Event.{Event}
use Rattle.network.specs.Network.{Network, Scheduling, Effect}
use Rattle.network.specs.Undivided.{message_of, carried_by, scheduled_from, made_by}
use Rattle.network.specs.Lawful.{IsLawful, IsConnected, IsExternal, IsOwn}
use Rattle.network_laws.proofs.Lists.{each, each_append, each_filter}
use Rattle.network_laws.proofs.Keys.{key, low_rank}

-- the number of an event's turn
abbrev pub event_key : Network → Event → ℕ
event_key n e = key n e.reactor e.tag

-- an event that can be pending, later than the turn of this number
pub record IsLater (n : Network) (bound : ℕ) (e : Event) : Type 0 where
  pub sound : IsExternal n e
  pub later : bound < event_key n e

sum_place : (g d : LogicalTime) → IsFinite g → IsLogicalTime d → place g ≤ place (sum_of g d)
sum_place g d p q = at_most_places _ _ (finite_is_logical _ p) (sum_is_logical g d (finite_is_logical _ p) q) (sum_at_least_first g d (finite_is_logical _ p))

sum_place_later : (g d : LogicalTime) → IsFinite g → IsLogicalTime d → (d ≡ origin → ⊥) → place g < place (sum_of g d)
sum_place_later g d p q h =
    before_places _ _ (finite_is_logical _ p) (sum_is_logical g d (finite_is_logical _ p) q) (sum_later g d (finite_is_logical _ p) (finite_is_not_forever g p) h)

-- a turn at the end of a connection is later than the one at its beginning
pub connection_key : (n : Network) → IsLawful n → (c : Connection) → IsConnected n c → (c.delay ≡ origin → n.rank c.source < n.rank c.target) → (t : LogicalTime) → IsFinite t → key n c.source t < key n c.target (sum_of t c.delay)
connection_key n L c w r t p =
    let low = low_rank n L c.source w.source in
    let d = plain_is_logical c.delay w.delay in
    elim (none_or_some c.delay w.delay) [
      | inl e ↦ let rise = r e in let stay = sum_place t c.delay p d in omega arith
      | inr e ↦ let rise = sum_place_later t c.delay p d e in omega arith
    ]

pub scheduling_key : (n : Network) → IsLawful n → (j : ℕ) → j < n.reactors → (d t : LogicalTime) → IsConnectionDelay d → (d ≡ origin → ⊥) → IsFinite t → key n j t < key n j (sum_of t d)
scheduling_key n L j h d t w e p = let rise = sum_place_later t d p (plain_is_logical d w) e in omega arith

pub sum_is_finite : (n : Network) → IsLawful n → (t d : LogicalTime) → IsFinite t → IsConnectionDelay d → IsTrue (is_at_most (sum_of t d) n.stop) → IsFinite (sum_of t d)
sum_is_finite n L t d p w h = finite_up_to (sum_of t d) n.stop (sum_is_logical t d (finite_is_logical _ p) (plain_is_logical d w)) L.stop h

-- what a connection keeps in a lawful network
pub record Lawfully (n : Network) (c : Connection) : Type 0 where
  pub connected : IsConnected n c
  pub rises : c.delay ≡ origin → n.rank c.source < n.rank c.target

pub connections_lawful : (n : Network) → IsLawful n → AllByRecursion (Lawfully n) n.connections
connections_lawful n L = both n.connections (each (IsConnected n) n.connections L.connected) (each Rises n.connections L.ranks_rise)
  where
    Rises : Connection → Type 0
    Rises c = c.delay ≡ origin → n.rank c.source < n.rank c.target

    both : (cs : List Connection) → AllByRecursion (IsConnected n) cs → AllByRecursion Rises cs → AllByRecursion (Lawfully n) cs
    both [] a b = tt
    both (c ∷ cs) a b = (record { connected = a.0; rises = b.0 }, both cs a.1 b.1)

-- an event that is later, if it is not after stop
abbrev Candidate : (n : Network) → ℕ → Event → Type 0
Candidate n bound e = IsTrue (is_at_most e.tag n.stop) → IsLater n bound e

message_candidate : (n : Network) → IsLawful n → (c : Connection) → Lawfully n c → (t : LogicalTime) → IsFinite t → (o : Option ℤ) → AllByRecursion (Candidate n (key n c.source t)) (message_of t c o)
message_candidate n L c w t p None = tt
message_candidate n L c w t p (Some value) = (
  (λ h. record {
    sound = record { reactor = w.connected.target; slot = w.connected.slot; tag = sum_is_finite n L t c.delay p w.connected.delay h; in_time = h };
    later = connection_key n L c w.connected w.rises t p;
  }),
  tt,
)

carried_candidate : (n : Network) → IsLawful n → (j : ℕ) (c : Connection) → Lawfully n c → (t : LogicalTime) → IsFinite t → (o : Option ℤ) → (b : Bool) → nat_eq c.source j ≡ b → AllByRecursion (Candidate n (key n j t)) (cond b (message_of t c o) [])
carried_candidate n L j c w t p o true e =
    let at : c.source ≡ j = eqb-true c.source j e in
    rw at at (message_candidate n L c w t p o)
carried_candidate n L j c w t p o false e = tt

all_carried : (n : Network) → IsLawful n → (j : ℕ) (t : LogicalTime) → IsFinite t → (outputs : ℕ → Option ℤ) (cs : List Connection) → AllByRecursion (Lawfully n) cs → AllByRecursion (Candidate n (key n j t)) (flat_map (carried_by j t outputs) cs)
all_carried n L j t p outputs [] w = tt
all_carried n L j t p outputs (c ∷ cs) w =
    each_append (Candidate n (key n j t)) (carried_by j t outputs c) (flat_map (carried_by j t outputs) cs)
    (carried_candidate n L j c w.0 t p (outputs c.port) (nat_eq c.source j) refl)
    (all_carried n L j t p outputs cs w.1)

all_scheduled : (n : Network) → IsLawful n → (j : ℕ) → j < n.reactors → (t : LogicalTime) → IsFinite t → (place : ℕ) (ss : List Scheduling) → AllByRecursion (IsOwn n j) ss → AllByRecursion (Candidate n (key n j t)) (scheduled_from j t place ss)
all_scheduled n L j h t p place [] w = tt
all_scheduled n L j h t p place (s ∷ ss) w = (
  (λ below. record {
    sound = record { reactor = h; slot = w.0.slot; tag = sum_is_finite n L t s.delay p w.0.delay below; in_time = below };
    later = scheduling_key n L j h s.delay t w.0.delay w.0.later p;
  }),
  all_scheduled n L j h t p (place + 1) ss w.1,
)

-- what a turn makes is later than the turn
pub made_later : (n : Network) → IsLawful n → (j : ℕ) → j < n.reactors → (t : LogicalTime) → IsFinite t → (states : List ℤ) (present : ℕ → Option ℤ) → AllByRecursion (IsLater n (key n j t)) (made_by n j t (n.effect j states present))
made_later n L j h t p states present =
    let effect : Effect = n.effect j states present in
    let carried : List Event = flat_map (carried_by j t effect.outputs) n.connections in
    let scheduled : List Event = scheduled_from j t 0 effect.schedulings in
    each_filter (Candidate n (key n j t)) (IsLater n (key n j t)) (λ e. is_at_most e.tag n.stop) (λ e below c. c below) (carried ++ scheduled)
    (each_append (Candidate n (key n j t)) carried scheduled
    (all_carried n L j t p effect.outputs n.connections (connections_lawful n L))
    (all_scheduled n L j h t p 0 effect.schedulings (each (IsOwn n j) effect.schedulings (L.schedulings j states present))))
