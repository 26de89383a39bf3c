-- At which tags a turn of one reactor can make something present at a tag of another (or the same), and that such a turn is earlier.
use Rattle.std.proofs.Common.{◌≡◌, ℕ, ◌+◌, ◌<◌, List, [], ◌∷◌, ◌++◌, Bool, true, false, cond, ◌&&◌, ◌||◌, IsTrue, inl, inr, ℤ, arith}
use Rattle.std.specs.Prelude.{nat_eq, Option, None, Some}
use Rattle.std.specs.List.{AllByRecursion, flat_map}
use Rattle.std.proofs.lemmas.Bool.{eqb-true, or_cases, or_parts, and_parts}
use Rattle.std.proofs.lemmas.Bool.Decides.{nat_tests}
use Rattle.tag.specs.LogicalTime.{LogicalTime, IsFinite, is_before, is_at_most, is_same, sum_of, place}
use Rattle.tag.proofs.Order.{finite_is_logical, before_places, same_is_equal, finite_is_not_forever}
use Rattle.tag.proofs.SumLaws.{sum_later}
use Rattle.network.specs.Connection.{Connection}
use Rattle.network.specs.Event.{Event, is_at}
use Rattle.network.specs.Network.{Network, Scheduling, Effect}
use Rattle.network.specs.Undivided.{message_of, carried_by, scheduled_from, made_by}
use Rattle.network.specs.Lawful.{IsLawful, IsOwn}
use Rattle.network_laws.proofs.Lists.{each, each_append, each_filter}
use Rattle.network_laws.proofs.Keys.{key}
use Rattle.network_laws.proofs.Rising.{Lawfully, connections_lawful, connection_key}

-- some connection leads from reactor i at s to reactor j at t
abbrev pub connects : ℕ → LogicalTime → ℕ → LogicalTime → List Connection → Bool
connects i s j t [] = false
connects i s j t (c ∷ cs) = (nat_eq c.source i && (nat_eq c.target j && is_same (sum_of s c.delay) t)) || connects i s j t cs

-- a turn of reactor i at s can make something present at reactor j at t
abbrev pub reaches : Network → ℕ → ℕ → LogicalTime → LogicalTime → Bool
reaches n i j t s = (nat_eq i j && is_before s t) || connects i s j t n.connections

abbrev pub NotAt : ℕ → LogicalTime → Event → Type 0
NotAt j t e = is_at j t e ≡ false

message_not_at : (j : ℕ) (t s : LogicalTime) (c : Connection) (o : Option ℤ) → (nat_eq c.target j && is_same (sum_of s c.delay) t) ≡ false → AllByRecursion (NotAt j t) (message_of s c o)
message_not_at j t s c None h = tt
message_not_at j t s c (Some value) h = (h, tt)

carried_not_at : (i j : ℕ) (t s : LogicalTime) (c : Connection) (o : Option ℤ) (b : Bool) → (b && (nat_eq c.target j && is_same (sum_of s c.delay) t)) ≡ false → AllByRecursion (NotAt j t) (cond b (message_of s c o) [])
carried_not_at i j t s c o true h = message_not_at j t s c o h
carried_not_at i j t s c o false h = tt

all_carried_not_at : (i j : ℕ) (t s : LogicalTime) (outputs : ℕ → Option ℤ) (cs : List Connection) → connects i s j t cs ≡ false → AllByRecursion (NotAt j t) (flat_map (carried_by i s outputs) cs)
all_carried_not_at i j t s outputs [] h = tt
all_carried_not_at i j t s outputs (c ∷ cs) h =
    let parts = or_parts (nat_eq c.source i && (nat_eq c.target j && is_same (sum_of s c.delay) t)) (connects i s j t cs) h in
    each_append (NotAt j t) (carried_by i s outputs c) (flat_map (carried_by i s outputs) cs)
    (carried_not_at i j t s c (outputs c.port) (nat_eq c.source i) parts.0)
    (all_carried_not_at i j t s outputs cs parts.1)

not_then : (b : Bool) (s u t : LogicalTime) → (b && is_before s t) ≡ false → IsTrue (is_before s u) → (b && is_same u t) ≡ false
not_then b s u t h p = grind (arith, nat_tests)

all_scheduled_not_at : (n : Network) (i j : ℕ) (t s : LogicalTime) → IsFinite s → (nat_eq i j && is_before s t) ≡ false → (place : ℕ) (ss : List Scheduling) → AllByRecursion (IsOwn n i) ss → AllByRecursion (NotAt j t) (scheduled_from i s place ss)
all_scheduled_not_at n i j t s p h place [] w = tt
all_scheduled_not_at n i j t s p h place (x ∷ xs) w = (
  not_then (nat_eq i j) s (sum_of s x.delay) t h (sum_later s x.delay (finite_is_logical _ p) (finite_is_not_forever s p) w.0.later),
  all_scheduled_not_at n i j t s p h (place + 1) xs w.1,
)

-- a turn that doesn't reach there makes nothing there
pub made_not_at : (n : Network) → IsLawful n → (i j : ℕ) (t s : LogicalTime) → IsFinite s → reaches n i j t s ≡ false → (states : List ℤ) (present : ℕ → Option ℤ) → AllByRecursion (NotAt j t) (made_by n i s (n.effect i states present))
made_not_at n L i j t s p h states present =
    let parts = or_parts (nat_eq i j && is_before s t) (connects i s j t n.connections) h in
    let effect : Effect = n.effect i states present in
    let carried : List Event = flat_map (carried_by i s effect.outputs) n.connections in
    let scheduled : List Event = scheduled_from i s 0 effect.schedulings in
    each_filter (NotAt j t) (NotAt j t) (λ e. is_at_most e.tag n.stop) (λ e k a. a) (carried ++ scheduled)
    (each_append (NotAt j t) carried scheduled
    (all_carried_not_at i j t s effect.outputs n.connections parts.1)
    (all_scheduled_not_at n i j t s p parts.0 0 effect.schedulings (each (IsOwn n i) effect.schedulings (L.schedulings i states present))))

-- settled is carried back along a connection at s
abbrev pub Backward : Network → (ℕ → LogicalTime → Type 0) → LogicalTime → Connection → Type 0
Backward n Settled s c = IsTrue (is_at_most (sum_of s c.delay) n.stop) → Settled c.target (sum_of s c.delay) → Settled c.source s

moved_back : (n : Network) (Settled : ℕ → LogicalTime → Type 0) (a b i j : ℕ) (u t s : LogicalTime) → a ≡ i → b ≡ j → u ≡ t → (IsTrue (is_at_most u n.stop) → Settled b u → Settled a s) → IsTrue (is_at_most t n.stop) → Settled j t → Settled i s
moved_back n Settled a b i j u t s p q e f h k = rw (← p) (f (rw e h) (rw (q, e) k))

moved_key : (n : Network) (a b i j : ℕ) (u t s : LogicalTime) → a ≡ i → b ≡ j → u ≡ t → key n a s < key n b u → key n i s < key n j t
moved_key n a b i j u t s p q e h = rw (← p, ← q, ← e) h

connected_before : (n : Network) → IsLawful n → (Settled : ℕ → LogicalTime → Type 0) (i j : ℕ) (t s : LogicalTime) → IsFinite s → IsTrue (is_at_most t n.stop) → Settled j t → (cs : List Connection) → AllByRecursion (Lawfully n) cs → AllByRecursion (Backward n Settled s) cs → connects i s j t cs ≡ true → Settled i s × (key n i s < key n j t)
connected_before n L Settled i j t s p below k [] w v h = cc
connected_before n L Settled i j t s p below k (c ∷ cs) w v h = elim (or_cases (nat_eq c.source i && (nat_eq c.target j && is_same (sum_of s c.delay) t)) (connects i s j t cs) h) [
  | inl here ↦
      (let parts = and_parts (nat_eq c.source i) (nat_eq c.target j && is_same (sum_of s c.delay) t) here in
      let more = and_parts (nat_eq c.target j) (is_same (sum_of s c.delay) t) parts.1 in
      let from : c.source ≡ i = eqb-true c.source i parts.0 in
      let to : c.target ≡ j = eqb-true c.target j more.0 in
      let at : sum_of s c.delay ≡ t = same_is_equal (sum_of s c.delay) t more.1 in (
        moved_back n Settled c.source c.target i j (sum_of s c.delay) t s from to at v.0 below k,
        moved_key n c.source c.target i j (sum_of s c.delay) t s from to at (connection_key n L c w.0.connected w.0.rises s p),
      ))
  | inr there ↦ connected_before n L Settled i j t s p below k cs w.1 v.1 there
]

-- a turn that reaches there is settled where that is, and earlier
pub reached_before : (n : Network) → IsLawful n → (Settled : ℕ → LogicalTime → Type 0) → ((s t : LogicalTime) (j : ℕ) → IsTrue (is_before s t) → Settled j t → Settled j s) → (i j : ℕ) (t s : LogicalTime) → IsFinite s → IsFinite t → IsTrue (is_at_most t n.stop) → Settled j t → AllByRecursion (Backward n Settled s) n.connections → reaches n i j t s ≡ true → Settled i s × (key n i s < key n j t)
reached_before n L Settled earlier i j t s p q below k v h = elim (or_cases (nat_eq i j && is_before s t) (connects i s j t n.connections) h) [
  | inl here ↦
      (let parts = and_parts (nat_eq i j) (is_before s t) here in
      let same : i ≡ j = eqb-true i j parts.0 in
      let less = before_places _ _ (finite_is_logical _ p) (finite_is_logical _ q) parts.1 in
      let mine : Settled j s = earlier s t j parts.1 k in
      let number : key n j s < key n j t = omega arith in
      (rw same mine, rw same number))
  | inr there ↦ connected_before n L Settled i j t s p below k n.connections (connections_lawful n L) v there
]
