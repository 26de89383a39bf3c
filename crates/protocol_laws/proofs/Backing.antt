-- Why no message comes at or below a granted tag: each grant is backed by what all senders have still to do.
use Rattle.std.proofs.Common.{◌≡◌, ℕ, zero, suc, ◌<◌, ◌⊎◌, inl, inr, Bool, true, false, List, [], ◌∷◌, refl, sym, ap, subst, ◌∙◌, arith, Option, None, Some}
use Rattle.std.specs.Prelude.{slice_get, All, IfSome, nat_eq, if◌then◌else◌, ◌||◌}
use Rattle.std.specs.List.{list_all}
use Rattle.std.proofs.lemmas.Bool.{eq-eqb, cases_lt, eqb-true}
use Rattle.tag.specs.LogicalTime.{LogicalTime, is_before, is_at_most, sum_of, is_past}
use Rattle.tag.proofs.Order.{at_most_reflexive, before_then, either_of}
use Rattle.tag.proofs.SumLaws.{sum_monotone_left, sum_monotone_right, sum_twice_at_least}
use Rattle.network.specs.Connection.{Connection}
use Rattle.network.specs.Network.{Network}
use Rattle.network.specs.Tables.{Table, IsWithin, IsAtMostEveryPath}
use Rattle.network.proofs.Tables.{within_found}
use Rattle.protocol.specs.FederateRecord.{FederateRecord, after_message, after_grant}
use Rattle.protocol.specs.Coordinator.{with_federate_record}
use Rattle.protocol.specs.Grant.{after_completed, all_below, is_before_arrival, passes_paths, passes_connection, passes_connections}
use Rattle.protocol_laws.proofs.Turns.{all_first, all_rest}
use Rattle.protocol_laws.proofs.Tests.{both_left, both_right, either_case}

pub all_at : {X : Type 0} (P : X → Type 0) (xs : List X) (k : ℕ) (x : X) → All P xs → slice_get xs k ≡ Some x → P x
all_at P [] k x a e = cc
all_at P (y ∷ rest) zero x a e = let same : y ≡ x = cc in subst P same (all_first P y rest a)
all_at P (y ∷ rest) (suc k) x a e = all_at P rest k x (all_rest P y rest a) e

-- by the table: nothing arrives at or below the tag over any path
abbrev pub HoldsByPaths : Network → Table → (ℕ → FederateRecord) → ℕ → LogicalTime → Type 0
HoldsByPaths n table federate_records j tag = (i : ℕ) (d : LogicalTime) → i < n.reactors → table i j ≡ Some d → is_before tag (sum_of (federate_records i).next d) ≡ true

-- nothing arrives at or below the tag over any direct connection, as far as LTCs tell
abbrev pub HoldsByConnections : Network → (ℕ → FederateRecord) → ℕ → LogicalTime → Type 0
HoldsByConnections n federate_records j tag = (k : ℕ) (c : Connection) → slice_get n.connections k ≡ Some c → c.target ≡ j → is_before tag (sum_of (after_completed (federate_records c.source).completed) c.delay) ≡ true

abbrev pub IsBacked : Network → Table → (ℕ → FederateRecord) → ℕ → Option LogicalTime → Type 0
IsBacked n table federate_records j None = Unit {0}
IsBacked n table federate_records j (Some tag) = HoldsByPaths n table federate_records j tag ⊎ HoldsByConnections n federate_records j tag

-- a record in which nothing is earlier
abbrev pub IsLater : FederateRecord → FederateRecord → Type 0
IsLater s t = (is_at_most s.next t.next ≡ true) × (is_at_most (after_completed s.completed) (after_completed t.completed) ≡ true)

pub is_later_itself : (s : FederateRecord) → IsLater s s
is_later_itself s = (at_most_reflexive s.next, at_most_reflexive (after_completed s.completed))

pub backed_later : (n : Network) (table : Table) (federate_records after : ℕ → FederateRecord) (j : ℕ) (o : Option LogicalTime) → ((i : ℕ) → IsLater (federate_records i) (after i)) → IsBacked n table federate_records j o → IsBacked n table after j o
backed_later n table federate_records after j None l b = tt
backed_later n table federate_records after j (Some g) l (inl h) = inl (λ i d m e. before_then g (sum_of (federate_records i).next d) (sum_of (after i).next d) (h i d m e) (sum_monotone_left (federate_records i).next (after i).next d (l i).0))
backed_later n table federate_records after j (Some g) l (inr h) =
    inr (λ k c e t. before_then g (sum_of (after_completed (federate_records c.source).completed) c.delay) (sum_of (after_completed (after c.source).completed) c.delay) (h k c e t)
    (sum_monotone_left (after_completed (federate_records c.source).completed) (after_completed (after c.source).completed) c.delay (l c.source).1))

at_if : {A : Type 0} (P : A → Type 0) (mine other : A) (b : Bool) → (b ≡ true → P mine) → P other → P (if b then mine else other)
at_if P mine other true m o = m refl
at_if P mine other false m o = o

-- what holds of the new one and of the old one holds after an update
pub at_update : {A : Type 0} (P : A → Type 0) (mine other : A) (j i : ℕ) → (j ≡ i → P mine) → P other → P (if nat_eq j i then mine else other)
at_update P mine other j i m o = at_if P mine other (nat_eq j i) (λ e. m (eqb-true j i e)) o

pub grant_is_later : (s : FederateRecord) (o : Option LogicalTime) → IsLater s (after_grant s o)
grant_is_later s None = is_later_itself s
grant_is_later s (Some g) = is_later_itself s

pub below_at : (count : ℕ) (test : ℕ → Bool) (i : ℕ) → all_below count test ≡ true → i < count → test i ≡ true
below_at zero test i h l = absurd (omega arith)
below_at (suc count) test i h l =
    elim (cases_lt i count) [
      | inl m ↦ below_at count test i (both_right (test count) (all_below count test) h) m
      | inr m ↦ let same : count ≡ i = omega arith in let P : ℕ → Type 0 = λ x. test x ≡ true in subst P same (both_left (test count) (all_below count test) h)
    ]

pub list_at : {X : Type 0} (test : X → Bool) (xs : List X) (k : ℕ) (x : X) → list_all test xs ≡ true → slice_get xs k ≡ Some x → test x ≡ true
list_at test [] k x h e = cc
list_at {X} test (y ∷ rest) zero x h e = let same : y ≡ x = cc in let P : X → Type 0 = λ z. test z ≡ true in subst P same (both_left (test y) (list_all test rest) h)
list_at test (y ∷ rest) (suc k) x h e = list_at test rest k x (both_right (test y) (list_all test rest) h) e

arrival_at : (tag next : LogicalTime) (o : Option LogicalTime) (d : LogicalTime) → o ≡ Some d → is_before_arrival tag next o ≡ true → is_before tag (sum_of next d) ≡ true
arrival_at tag next None d e h = cc
arrival_at tag next (Some x) d e h = let same : x ≡ d = cc in let P : LogicalTime → Type 0 = λ y. is_before tag (sum_of next y) ≡ true in subst P same h

pub paths_hold : (n : Network) (table : Table) (federate_records : ℕ → FederateRecord) (j : ℕ) (tag : LogicalTime) → passes_paths n table federate_records j tag ≡ true → HoldsByPaths n table federate_records j tag
paths_hold n table federate_records j tag h i d l e = arrival_at tag (federate_records i).next (table i j) d e (below_at n.reactors (λ x. is_before_arrival tag (federate_records x).next (table x j)) i h l)

if_true : (a b : Bool) → a ≡ true → (if a then b else true) ≡ true → b ≡ true
if_true true b e h = h
if_true false b e h = cc

pub connections_hold : (n : Network) (federate_records : ℕ → FederateRecord) (j : ℕ) (tag : LogicalTime) → passes_connections n federate_records j tag ≡ true → HoldsByConnections n federate_records j tag
connections_hold n federate_records j tag h k c e t =
    if_true (nat_eq c.target j) (is_before tag (sum_of (after_completed (federate_records c.source).completed) c.delay)) (eq-eqb c.target j t)
    (list_at (passes_connection federate_records j tag) n.connections k c h e)

pub safe_is_backed : (n : Network) (table : Table) (federate_records : ℕ → FederateRecord) (j : ℕ) (tag : LogicalTime) → (passes_paths n table federate_records j tag || passes_connections n federate_records j tag) ≡ true → IsBacked n table federate_records j (Some tag)
safe_is_backed n table federate_records j tag h =
    elim (either_case (passes_paths n table federate_records j tag) (passes_connections n federate_records j tag) h) [
      | inl p ↦ inl (paths_hold n table federate_records j tag p)
      | inr p ↦ inr (connections_hold n federate_records j tag p)
    ]

if_some_at : (o : Option LogicalTime) (d : LogicalTime) (P : LogicalTime → Type 0) → o ≡ Some d → IfSome o P → P d
if_some_at None d P e h = cc
if_some_at (Some x) d P e h = let same : x ≡ d = cc in subst P same h

-- a message that is sent from a tag at or after its sender's next, and after the last LTC, is past what its receiver was granted
pub message_is_past : (n : Network) (table : Table) (federate_records : ℕ → FederateRecord) (k : ℕ) (c : Connection) (s : LogicalTime) (o : Option LogicalTime) → IsAtMostEveryPath n table → slice_get n.connections k ≡ Some c → c.source < n.reactors → is_at_most (federate_records c.source).next s ≡ true → is_at_most (after_completed (federate_records c.source).completed) s ≡ true → IsBacked n table federate_records c.target o → is_past o (sum_of s c.delay) ≡ true
message_is_past n table federate_records k c s None t e l m a b = refl
message_is_past n table federate_records k c s (Some g) t e l m a (inl h) =
    let w = within_found (table c.source c.target) c.delay (all_at (λ x. IsWithin (table x.source x.target) x.delay) n.connections k c t.direct e) in
    let first = h c.source w.0 l w.1 in
    let second = sum_monotone_left (federate_records c.source).next s w.0 m in
    let third = sum_monotone_right s w.0 c.delay w.2 in
    before_then g (sum_of s w.0) (sum_of s c.delay) (before_then g (sum_of (federate_records c.source).next w.0) (sum_of s w.0) first second) third
message_is_past n table federate_records k c s (Some g) t e l m a (inr h) =
    before_then g (sum_of (after_completed (federate_records c.source).completed) c.delay) (sum_of s c.delay) (h k c e refl) (sum_monotone_left (after_completed (federate_records c.source).completed) s c.delay a)

-- and it lowers its receiver's next tag no further than other grants are backed
pub message_keeps_backing : (n : Network) (table : Table) (federate_records : ℕ → FederateRecord) (k : ℕ) (c : Connection) (s : LogicalTime) (j : ℕ) (o : Option LogicalTime) → IsAtMostEveryPath n table → slice_get n.connections k ≡ Some c → c.source < n.reactors → is_at_most (federate_records c.source).next s ≡ true → IsBacked n table federate_records j o → IsBacked n table (with_federate_record federate_records c.target (after_message (federate_records c.target) (sum_of s c.delay))) j o
message_keeps_backing n table federate_records k c s j None t e l m b = tt
message_keeps_backing n table federate_records k c s j (Some g) t e l m (inl h) =
    inl (λ i d r p. (
    let arrives : table c.target j ≡ Some d → is_before g (sum_of (sum_of s c.delay) d) ≡ true = λ q. (
    let on = if_some_at (table c.target j) d (λ rest. IsWithin (table c.source j) (sum_of c.delay rest)) q
    (all_at (λ x. IfSome (table x.target j) (λ rest. IsWithin (table x.source j) (sum_of x.delay rest))) n.connections k c (t.onward j) e) in
    let w = within_found (table c.source j) (sum_of c.delay d) on in
    let first = before_then g (sum_of (federate_records c.source).next w.0) (sum_of s w.0) (h c.source w.0 l w.1) (sum_monotone_left (federate_records c.source).next s w.0 m) in
    let second = before_then g (sum_of s w.0) (sum_of s (sum_of c.delay d)) first (sum_monotone_right s w.0 (sum_of c.delay d) w.2) in
    before_then g (sum_of s (sum_of c.delay d)) (sum_of (sum_of s c.delay) d) second (sum_twice_at_least s c.delay d)) in
    let P : FederateRecord → Type 0 = λ x. is_before g (sum_of x.next d) ≡ true in
    at_update P (after_message (federate_records c.target) (sum_of s c.delay)) (federate_records i) i c.target
    (λ q. (
    let Q : LogicalTime → Type 0 = λ x. is_before g (sum_of x d) ≡ true in
    let there : table c.target j ≡ Some d = ap (λ x. table x j) (sym q) ∙ p in
    let R : ℕ → Type 0 = λ x. is_before g (sum_of (federate_records x).next d) ≡ true in
    either_of Q (federate_records c.target).next (sum_of s c.delay) (is_before (federate_records c.target).next (sum_of s c.delay)) (subst R q (h i d r p)) (arrives there)))
    (h i d r p)))
message_keeps_backing n table federate_records k c s j (Some g) t e l m (inr h) =
    inr (λ x y f q. (
    let P : FederateRecord → Type 0 = λ z. is_before g (sum_of (after_completed z.completed) y.delay) ≡ true in
    at_update P (after_message (federate_records c.target) (sum_of s c.delay)) (federate_records y.source) y.source c.target
    (λ r. (let R : ℕ → Type 0 = λ z. is_before g (sum_of (after_completed (federate_records z).completed) y.delay) ≡ true in subst R r (h x y f q)))
    (h x y f q)))
