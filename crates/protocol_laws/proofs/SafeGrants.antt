-- The two forms of grant are safe: the next tag, and the greatest one before anything can still arrive.
use Rattle.std.proofs.Common.{◌≡◌, ℕ, zero, suc, ◌^◌, ◌<◌, ◌≤◌, ◌⊎◌, inl, inr, Bool, true, false, IsTrue, List, [], ◌∷◌, refl, subst, arith, Option, None, Some}
use Rattle.std.specs.Prelude.{nat_eq, nat_lt, IsSomeAnd, if◌then◌else◌, ◌&&◌, ◌||◌}
use Rattle.std.specs.List.{list_all}
use Rattle.std.proofs.lemmas.Bool.Decides.{nat_tests}
use Rattle.tag.specs.LogicalTime.{LogicalTime, IsLogicalTime, IsFinite, is_before, is_at_most, sum_of, forever, lesser, greater, predecessor_of, is_past}
use Rattle.tag.proofs.Order.{either_of as one_of_two, before_forever, lesser_at_most_first, lesser_at_most_second, predecessor_before, predecessor_at_least, predecessor_microstep, at_most_reflexive, before_then, finite_up_to}
use Rattle.tag.proofs.SumLaws.{sum_microstep_below}
use Rattle.network.specs.Connection.{Connection}
use Rattle.network.specs.Network.{Network}
use Rattle.network.specs.Wiring.{IsWired}
use Rattle.network.specs.Tables.{Table}
use Rattle.protocol.specs.FederateRecord.{FederateRecord}
use Rattle.protocol.specs.Grant.{after_completed, all_below, is_before_arrival, passes_paths, passes_connection, passes_connections, is_eligible, grant_next, IsSafe, IsSafeRule, lesser_arrival, bound_by_paths, bound_by_connections, bound_of, grant_widest, is_safe, if_safe, grant_chosen}
use Rattle.protocol_laws.proofs.Tags.{past_then}
use Rattle.protocol_laws.specs.Runs.{IsFullRule}
use Rattle.protocol_laws.proofs.Tests.{both_left, both_right, both_hold, either_case, either_of}

-- the parts of the test
pub eligible_announced : (a b c d : Bool) → (a && b && c && d) ≡ true → a ≡ true
eligible_announced a b c d h = both_left a b (both_left (a && b) c (both_left (a && b && c) d h))

pub eligible_not_granted : (a b c d : Bool) → (a && b && c && d) ≡ true → b ≡ true
eligible_not_granted a b c d h = both_right a b (both_left (a && b) c (both_left (a && b && c) d h))

pub eligible_in_time : (a b c d : Bool) → (a && b && c && d) ≡ true → c ≡ true
eligible_in_time a b c d h = both_right (a && b) c (both_left (a && b && c) d h)

pub eligible_safe : (a b c d : Bool) → (a && b && c && d) ≡ true → d ≡ true
eligible_safe a b c d h = both_right (a && b && c) d h

given_by : (b : Bool) (given tag : LogicalTime) → (if b then Some given else None) ≡ Some tag → (b ≡ true) × (given ≡ tag)
given_by true given tag e = (refl, cc)
given_by false given tag e = cc

pub next_is_safe : (n : Network) (table : Table) (federate_records : ℕ → FederateRecord) (j : ℕ) → IsWired n → ((i : ℕ) → IsLogicalTime (federate_records i).next) → is_eligible n table federate_records j ≡ true → IsSafe n table federate_records j (federate_records j).next
next_is_safe n table federate_records j wired tags h =
    let a = (federate_records j).announced in
    let b = is_past (federate_records j).granted (federate_records j).next in
    let c = is_at_most (federate_records j).next n.stop in
    let d = passes_paths n table federate_records j (federate_records j).next || passes_connections n federate_records j (federate_records j).next in
    record {
      finite = finite_up_to (federate_records j).next n.stop (tags j) wired.stop (eligible_in_time a b c d h);
      later = eligible_not_granted a b c d h;
      in_time = eligible_in_time a b c d h;
      safe = eligible_safe a b c d h;
    }

pub next_rule_is_safe : (n : Network) (table : Table) → IsWired n → IsSafeRule n table (grant_next n table)
next_rule_is_safe n table wired federate_records tags j tag e =
    let given = given_by (is_eligible n table federate_records j) (federate_records j).next tag e in
    let P : LogicalTime → Type 0 = λ x. IsSafe n table federate_records j x in
    subst P given.1 (next_is_safe n table federate_records j wired tags given.0)

before_arrival : (tag next : LogicalTime) (o : Option LogicalTime) (other : LogicalTime) → is_before_arrival tag next o ≡ true → is_before tag other ≡ true → is_before tag (lesser_arrival next o other) ≡ true
before_arrival tag next None other h k = k
before_arrival tag next (Some d) other h k = one_of_two (λ x. is_before tag x ≡ true) (sum_of next d) other (is_before (sum_of next d) other) h k

before_paths : (table : Table) (federate_records : ℕ → FederateRecord) (j count : ℕ) (tag : LogicalTime) → is_before tag forever ≡ true → all_below count (λ i. is_before_arrival tag (federate_records i).next (table i j)) ≡ true → is_before tag (bound_by_paths table federate_records j count) ≡ true
before_paths table federate_records j zero tag f h = f
before_paths table federate_records j (suc count) tag f h =
    let now = is_before_arrival tag (federate_records count).next (table count j) in
    let rest = all_below count (λ i. is_before_arrival tag (federate_records i).next (table i j)) in
    before_arrival tag (federate_records count).next (table count j) (bound_by_paths table federate_records j count) (both_left now rest h) (before_paths table federate_records j count tag f (both_right now rest h))

before_connection : (tag arrival other : LogicalTime) (b : Bool) → (if b then is_before tag arrival else true) ≡ true → is_before tag other ≡ true → is_before tag (if b then lesser arrival other else other) ≡ true
before_connection tag arrival other true h k = one_of_two (λ x. is_before tag x ≡ true) arrival other (is_before arrival other) h k
before_connection tag arrival other false h k = k

before_connections : (federate_records : ℕ → FederateRecord) (j : ℕ) (tag : LogicalTime) (cs : List Connection) → is_before tag forever ≡ true → list_all (passes_connection federate_records j tag) cs ≡ true → is_before tag (bound_by_connections federate_records j cs) ≡ true
before_connections federate_records j tag [] f h = f
before_connections federate_records j tag (c ∷ rest) f h =
    let now = passes_connection federate_records j tag c in
    let others = list_all (passes_connection federate_records j tag) rest in
    before_connection tag (sum_of (after_completed (federate_records c.source).completed) c.delay) (bound_by_connections federate_records j rest) (nat_eq c.target j) (both_left now others h)
    (before_connections federate_records j tag rest f (both_right now others h))

arrival_passes : (tag next : LogicalTime) (o : Option LogicalTime) (other : LogicalTime) → is_before tag (lesser_arrival next o other) ≡ true → is_before_arrival tag next o ≡ true
arrival_passes tag next None other h = refl
arrival_passes tag next (Some d) other h = before_then tag (lesser (sum_of next d) other) (sum_of next d) h (lesser_at_most_first (sum_of next d) other)

other_passes : (tag next : LogicalTime) (o : Option LogicalTime) (other : LogicalTime) → is_before tag (lesser_arrival next o other) ≡ true → is_before tag other ≡ true
other_passes tag next None other h = h
other_passes tag next (Some d) other h = before_then tag (lesser (sum_of next d) other) other h (lesser_at_most_second (sum_of next d) other)

paths_pass : (table : Table) (federate_records : ℕ → FederateRecord) (j count : ℕ) (tag : LogicalTime) → is_before tag (bound_by_paths table federate_records j count) ≡ true → all_below count (λ i. is_before_arrival tag (federate_records i).next (table i j)) ≡ true
paths_pass table federate_records j zero tag h = refl
paths_pass table federate_records j (suc count) tag h =
    both_hold (is_before_arrival tag (federate_records count).next (table count j)) (all_below count (λ i. is_before_arrival tag (federate_records i).next (table i j)))
    (arrival_passes tag (federate_records count).next (table count j) (bound_by_paths table federate_records j count) h)
    (paths_pass table federate_records j count tag (other_passes tag (federate_records count).next (table count j) (bound_by_paths table federate_records j count) h))

connection_passes : (tag arrival other : LogicalTime) (b : Bool) → is_before tag (if b then lesser arrival other else other) ≡ true → (if b then is_before tag arrival else true) ≡ true
connection_passes tag arrival other true h = before_then tag (lesser arrival other) arrival h (lesser_at_most_first arrival other)
connection_passes tag arrival other false h = refl

others_pass : (tag arrival other : LogicalTime) (b : Bool) → is_before tag (if b then lesser arrival other else other) ≡ true → is_before tag other ≡ true
others_pass tag arrival other true h = before_then tag (lesser arrival other) other h (lesser_at_most_second arrival other)
others_pass tag arrival other false h = h

connections_pass : (federate_records : ℕ → FederateRecord) (j : ℕ) (tag : LogicalTime) (cs : List Connection) → is_before tag (bound_by_connections federate_records j cs) ≡ true → list_all (passes_connection federate_records j tag) cs ≡ true
connections_pass federate_records j tag [] h = refl
connections_pass federate_records j tag (c ∷ rest) h =
    let arrival = sum_of (after_completed (federate_records c.source).completed) c.delay in
    let other = bound_by_connections federate_records j rest in
    both_hold (passes_connection federate_records j tag c) (list_all (passes_connection federate_records j tag) rest)
    (connection_passes tag arrival other (nat_eq c.target j) h) (connections_pass federate_records j tag rest (others_pass tag arrival other (nat_eq c.target j) h))

pub greater_splits : (tag g h : LogicalTime) (b : Bool) → is_before tag (if b then h else g) ≡ true → (is_before tag g ≡ true) ⊎ (is_before tag h ≡ true)
greater_splits tag g h true p = inr p
greater_splits tag g h false p = inl p

pub greater_from_first : (tag g h : LogicalTime) → is_before tag g ≡ true → is_before tag (greater g h) ≡ true
greater_from_first tag g h p = grind (arith, nat_tests)

pub greater_from_second : (tag g h : LogicalTime) → is_before tag h ≡ true → is_before tag (greater g h) ≡ true
greater_from_second tag g h p = grind (arith, nat_tests)

abbrev HasMicrostep : LogicalTime → Type 0
HasMicrostep g = g.microstep < 2 ^ 32

arrival_microstep : (next : LogicalTime) (o : Option LogicalTime) (other : LogicalTime) → other.microstep < 2 ^ 32 → (lesser_arrival next o other).microstep < 2 ^ 32
arrival_microstep next None other h = h
arrival_microstep next (Some d) other h = one_of_two HasMicrostep (sum_of next d) other (is_before (sum_of next d) other) (sum_microstep_below next d) h

paths_microstep : (table : Table) (federate_records : ℕ → FederateRecord) (j count : ℕ) → (bound_by_paths table federate_records j count).microstep < 2 ^ 32
paths_microstep table federate_records j zero = omega arith
paths_microstep table federate_records j (suc count) = arrival_microstep (federate_records count).next (table count j) (bound_by_paths table federate_records j count) (paths_microstep table federate_records j count)

connection_microstep : (arrival other : LogicalTime) (b : Bool) → arrival.microstep < 2 ^ 32 → other.microstep < 2 ^ 32 → (if b then lesser arrival other else other).microstep < 2 ^ 32
connection_microstep arrival other true p q = one_of_two HasMicrostep arrival other (is_before arrival other) p q
connection_microstep arrival other false p q = q

connections_microstep : (federate_records : ℕ → FederateRecord) (j : ℕ) (cs : List Connection) → (bound_by_connections federate_records j cs).microstep < 2 ^ 32
connections_microstep federate_records j [] = omega arith
connections_microstep federate_records j (c ∷ rest) =
    connection_microstep (sum_of (after_completed (federate_records c.source).completed) c.delay) (bound_by_connections federate_records j rest) (nat_eq c.target j)
    (sum_microstep_below (after_completed (federate_records c.source).completed) c.delay) (connections_microstep federate_records j rest)

pub lesser_before : (g h b : LogicalTime) → is_before g b ≡ true → is_before (lesser g h) b ≡ true
lesser_before g h b p = grind (arith, nat_tests)

time_within : (g h : LogicalTime) → is_at_most g h ≡ true → g.time ≤ h.time
time_within g h p = grind (arith, nat_tests)

-- a tag before the bound is safe
pub bound_is_safe : (n : Network) (table : Table) (federate_records : ℕ → FederateRecord) (j : ℕ) (tag : LogicalTime) → is_before tag (bound_of n table federate_records j) ≡ true → (passes_paths n table federate_records j tag || passes_connections n federate_records j tag) ≡ true
bound_is_safe n table federate_records j tag h =
    let a = bound_by_paths table federate_records j n.reactors in
    let b = bound_by_connections federate_records j n.connections in
    either_of (passes_paths n table federate_records j tag) (passes_connections n federate_records j tag)
    (elim (greater_splits tag a b (is_before a b) h) [
      | inl p ↦ inl (paths_pass table federate_records j n.reactors tag p)
      | inr p ↦ inr (connections_pass federate_records j tag n.connections p)
    ])

-- and what is safe is before the bound
pub safe_is_bounded : (n : Network) (table : Table) (federate_records : ℕ → FederateRecord) (j : ℕ) (tag : LogicalTime) → is_before tag forever ≡ true → (passes_paths n table federate_records j tag || passes_connections n federate_records j tag) ≡ true → is_before tag (bound_of n table federate_records j) ≡ true
safe_is_bounded n table federate_records j tag f h =
    let a = bound_by_paths table federate_records j n.reactors in
    let b = bound_by_connections federate_records j n.connections in
    elim (either_case (passes_paths n table federate_records j tag) (passes_connections n federate_records j tag) h) [
      | inl p ↦ greater_from_first tag a b (before_paths table federate_records j n.reactors tag f p)
      | inr p ↦ greater_from_second tag a b (before_connections federate_records j tag n.connections f p)
    ]

pub widest_is_safe : (n : Network) (table : Table) (federate_records : ℕ → FederateRecord) (j : ℕ) → IsWired n → ((i : ℕ) → IsLogicalTime (federate_records i).next) → is_eligible n table federate_records j ≡ true → IsSafe n table federate_records j (lesser (predecessor_of (bound_of n table federate_records j)) n.stop)
widest_is_safe n table federate_records j wired tags h =
    let safe = next_is_safe n table federate_records j wired tags h in
    let bound = bound_of n table federate_records j in
    let next = (federate_records j).next in
    let before : is_before next bound ≡ true = safe_is_bounded n table federate_records j next (before_forever next safe.finite) safe.safe in
    let small : bound.microstep < 2 ^ 32 =
    one_of_two HasMicrostep (bound_by_connections federate_records j n.connections) (bound_by_paths table federate_records j n.reactors)
    (is_before (bound_by_paths table federate_records j n.reactors) (bound_by_connections federate_records j n.connections))
    (connections_microstep federate_records j n.connections) (paths_microstep table federate_records j n.reactors) in
    let within = time_within (lesser (predecessor_of bound) n.stop) n.stop (lesser_at_most_second (predecessor_of bound) n.stop) in
    let end = wired.stop.time in
    let grows : is_at_most next (lesser (predecessor_of bound) n.stop) ≡ true =
    one_of_two (λ x. is_at_most next x ≡ true) (predecessor_of bound) n.stop (is_before (predecessor_of bound) n.stop) (predecessor_at_least next bound (tags j).microstep before) safe.in_time in
    record {
      finite = record {
        time = omega arith;
        microstep = one_of_two HasMicrostep (predecessor_of bound) n.stop (is_before (predecessor_of bound) n.stop) (predecessor_microstep bound small) wired.stop.microstep;
      };
      later = past_then (federate_records j).granted next (lesser (predecessor_of bound) n.stop) safe.later grows;
      in_time = lesser_at_most_second (predecessor_of bound) n.stop;
      safe = bound_is_safe n table federate_records j (lesser (predecessor_of bound) n.stop) (lesser_before (predecessor_of bound) n.stop bound (predecessor_before next bound before));
    }

pub widest_rule_is_safe : (n : Network) (table : Table) → IsWired n → IsSafeRule n table (grant_widest n table)
widest_rule_is_safe n table wired federate_records tags j tag e =
    let given = given_by (is_eligible n table federate_records j) (lesser (predecessor_of (bound_of n table federate_records j)) n.stop) tag e in
    let P : LogicalTime → Type 0 = λ x. IsSafe n table federate_records j x in
    subst P given.1 (widest_is_safe n table federate_records j wired tags given.0)

given_full : (b : Bool) (given : LogicalTime) (P : LogicalTime → Type 0) → b ≡ true → P given → IsSomeAnd (if b then Some given else None) P
given_full true given P e p = p
given_full false given P e p = cc

pub next_rule_is_full : (n : Network) (table : Table) → IsFullRule n table (grant_next n table)
next_rule_is_full n table federate_records tags j e =
    given_full (is_eligible n table federate_records j) (federate_records j).next (λ tag. IsTrue (is_at_most (federate_records j).next tag)) e (at_most_reflexive (federate_records j).next)

widest_is_at_least : (n : Network) (table : Table) (federate_records : ℕ → FederateRecord) (j : ℕ) → IsWired n → ((i : ℕ) → IsLogicalTime (federate_records i).next) → is_eligible n table federate_records j ≡ true → is_at_most (federate_records j).next (lesser (predecessor_of (bound_of n table federate_records j)) n.stop) ≡ true
widest_is_at_least n table federate_records j wired tags h =
    let safe = next_is_safe n table federate_records j wired tags h in
    let bound = bound_of n table federate_records j in
    let next = (federate_records j).next in
    let before : is_before next bound ≡ true = safe_is_bounded n table federate_records j next (before_forever next safe.finite) safe.safe in
    one_of_two (λ x. is_at_most next x ≡ true) (predecessor_of bound) n.stop (is_before (predecessor_of bound) n.stop) (predecessor_at_least next bound (tags j).microstep before) safe.in_time

pub widest_rule_is_full : (n : Network) (table : Table) → IsWired n → IsFullRule n table (grant_widest n table)
widest_rule_is_full n table wired federate_records tags j e =
    given_full (is_eligible n table federate_records j) (lesser (predecessor_of (bound_of n table federate_records j)) n.stop) (λ tag. IsTrue (is_at_most (federate_records j).next tag)) e
    (widest_is_at_least n table federate_records j wired tags e)

finite_by_tests : (g : LogicalTime) → nat_lt g.time (2 ^ 62) ≡ true → nat_lt g.microstep (2 ^ 32) ≡ true → IsFinite g
finite_by_tests g p q = record { time = grind (arith, nat_tests); microstep = grind (arith, nat_tests) }

chosen_is_safe : (n : Network) (table : Table) (federate_records : ℕ → FederateRecord) (j : ℕ) (tag : LogicalTime) → is_safe n table federate_records j tag ≡ true → IsSafe n table federate_records j tag
chosen_is_safe n table federate_records j tag h =
    let a = nat_lt tag.time (2 ^ 62) && nat_lt tag.microstep (2 ^ 32) in
    let b = is_past (federate_records j).granted tag in
    let c = is_at_most tag n.stop in
    let d = passes_paths n table federate_records j tag || passes_connections n federate_records j tag in
    let finite = eligible_announced a b c d h in
    record {
      finite = finite_by_tests tag (both_left (nat_lt tag.time (2 ^ 62)) (nat_lt tag.microstep (2 ^ 32)) finite) (both_right (nat_lt tag.time (2 ^ 62)) (nat_lt tag.microstep (2 ^ 32)) finite);
      later = eligible_not_granted a b c d h;
      in_time = eligible_in_time a b c d h;
      safe = eligible_safe a b c d h;
    }

chosen_if : (n : Network) (table : Table) (federate_records : ℕ → FederateRecord) (j : ℕ) (o : Option LogicalTime) (tag : LogicalTime) → if_safe n table federate_records j o ≡ Some tag → IsSafe n table federate_records j tag
chosen_if n table federate_records j None tag e = cc
chosen_if n table federate_records j (Some given) tag e =
    let is = given_by (is_safe n table federate_records j given) given tag e in
    let P : LogicalTime → Type 0 = λ x. IsSafe n table federate_records j x in
    subst P is.1 (chosen_is_safe n table federate_records j given is.0)

pub chosen_rule_is_safe : (n : Network) (table : Table) (choice : ℕ → Option LogicalTime) → IsSafeRule n table (grant_chosen n table choice)
chosen_rule_is_safe n table choice federate_records tags j tag e = chosen_if n table federate_records j (choice j) tag e
