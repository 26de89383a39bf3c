-- The bound: by a table of least delays it is the one over all paths, there is but one, and who is eligible is within it.
use Rattle.std.proofs.Common.{◌≡◌, ℕ, zero, suc, ◌^◌, ◌<◌, ◌⊎◌, inl, inr, Bool, true, false, ◌↔◌, List, [], ◌∷◌, refl, sym, ap, subst, ◌∙◌, arith, Option, None, Some}
use Rattle.std.specs.Prelude.{slice_get, nat_eq, if◌then◌else◌, MatchOption}
use Rattle.std.proofs.lemmas.Bool.{eqb-true, cases_lt, eq-eqb}
use Rattle.std.proofs.lemmas.Bool.Decides.{nat_tests}
use Rattle.tag.specs.LogicalTime.{LogicalTime, is_before, is_at_most, is_same, sum_of, forever, lesser, greater, predecessor_of}
use Rattle.tag.proofs.Order.{at_most_reflexive, at_most_transitive, before_then, same_is_equal, lesser_at_most_first, lesser_at_most_second}
use Rattle.tag.proofs.SumLaws.{sum_monotone_right}
use Rattle.network.specs.Connection.{Connection, IsLeastDelay, IsUnreachable}
use Rattle.network.specs.Network.{Network}
use Rattle.network.specs.Wiring.{IsWired}
use Rattle.network.specs.Tables.{Table, IsLeastTable}
use Rattle.protocol.specs.FederateRecord.{FederateRecord}
use Rattle.protocol.specs.Grant.{after_completed, IsEligible, is_eligible, lesser_arrival, bound_by_paths}
use Rattle.protocol.specs.Grant.{bound_by_connections, bound_of, grant_widest}
use Rattle.protocol.specs.Bound.{IsArrivalByPath, IsArrivalByConnection, IsFirst, IsBound, IsWidest, IsWithin}
use Rattle.protocol_laws.proofs.SafeGrants.{greater_splits, greater_from_first, greater_from_second}
use Rattle.protocol_laws.proofs.Eligibility.{contained_at, contains_at, path_begins, least_of_table, eligible_by_table}

-- over paths, by the table
arrival_first : (next : LogicalTime) (o : Option LogicalTime) (other d : LogicalTime) → o ≡ Some d → is_at_most (lesser_arrival next o other) (sum_of next d) ≡ true
arrival_first next None other d e = cc
arrival_first next (Some x) other d e =
    let same : x ≡ d = cc in
    let P : LogicalTime → Type 0 = λ y. is_at_most (lesser (sum_of next x) other) (sum_of next y) ≡ true in
    subst P same (lesser_at_most_first (sum_of next x) other)

arrival_second : (next : LogicalTime) (o : Option LogicalTime) (other : LogicalTime) → is_at_most (lesser_arrival next o other) other ≡ true
arrival_second next None other = at_most_reflexive other
arrival_second next (Some d) other = lesser_at_most_second (sum_of next d) other

paths_least : (table : Table) (federate_records : ℕ → FederateRecord) (j count i : ℕ) (d : LogicalTime) → i < count → table i j ≡ Some d → is_at_most (bound_by_paths table federate_records j count) (sum_of (federate_records i).next d) ≡ true
paths_least table federate_records j zero i d l e = absurd (omega arith)
paths_least table federate_records j (suc count) i d l e =
    let rest = bound_by_paths table federate_records j count in
    elim (cases_lt i count) [
      | inl m ↦ at_most_transitive (lesser_arrival (federate_records count).next (table count j) rest) rest (sum_of (federate_records i).next d)
          (arrival_second (federate_records count).next (table count j) rest) (paths_least table federate_records j count i d m e)
      | inr m ↦
          let same : i ≡ count = omega arith in
          let P : ℕ → Type 0 = λ x. is_at_most (lesser_arrival (federate_records count).next (table count j) rest) (sum_of (federate_records x).next d) ≡ true in
          subst P (sym same) (arrival_first (federate_records count).next (table count j) rest d (ap (λ x. table x j) (sym same) ∙ e))
    ]

lesser_is : (g h : LogicalTime) (b : Bool) → ((if b then g else h) ≡ h) ⊎ ((if b then g else h) ≡ g)
lesser_is g h true = inr refl
lesser_is g h false = inl refl

arrival_is : (next : LogicalTime) (o : Option LogicalTime) (other : LogicalTime) → (lesser_arrival next o other ≡ other) ⊎ ((d : LogicalTime) × (o ≡ Some d) × (lesser_arrival next o other ≡ sum_of next d))
arrival_is next None other = inl refl
arrival_is next (Some d) other = elim (lesser_is (sum_of next d) other (is_before (sum_of next d) other)) [ inl e ↦ inl e | inr e ↦ inr (d, refl, e) ]

abbrev Arrives : Table → (ℕ → FederateRecord) → ℕ → LogicalTime → Type 0
Arrives table federate_records j tag = (i : ℕ) × (d : LogicalTime) × (table i j ≡ Some d) × (tag ≡ sum_of (federate_records i).next d)

paths_attained : (table : Table) (federate_records : ℕ → FederateRecord) (j count : ℕ) → (bound_by_paths table federate_records j count ≡ forever) ⊎ Arrives table federate_records j (bound_by_paths table federate_records j count)
paths_attained table federate_records j zero = inl refl
paths_attained table federate_records j (suc count) =
    let rest = bound_by_paths table federate_records j count in
    elim (arrival_is (federate_records count).next (table count j) rest) [
      | inl e ↦
          let P : LogicalTime → Type 0 = λ x. (x ≡ forever) ⊎ Arrives table federate_records j x in
          subst P (sym e) (paths_attained table federate_records j count)
      | inr a ↦ inr (count, a.0, a.1, a.2)
    ]

least_by_match : (connections : List Connection) (i j : ℕ) (o : Option LogicalTime) (d : LogicalTime) → MatchOption o (IsUnreachable connections i j) (λ x. IsLeastDelay connections i j x) → o ≡ Some d → IsLeastDelay connections i j d
least_by_match connections i j None d m e = cc
least_by_match connections i j (Some x) d m e = let same : x ≡ d = cc in let P : LogicalTime → Type 0 = λ y. IsLeastDelay connections i j y in subst P same m

first_by_paths : (n : Network) (table : Table) (federate_records : ℕ → FederateRecord) (j : ℕ) → IsWired n → IsLeastTable n table → IsFirst (IsArrivalByPath n federate_records j) (bound_by_paths table federate_records j n.reactors)
first_by_paths n table federate_records j wired least =
    let bound = bound_by_paths table federate_records j n.reactors in
    record {
      least = λ tag a. (
          let at = least_of_table n.connections a.from j (table a.from j) a.delay (least a.from j) a.least in
          let begins = path_begins n a.from j a.least.attained.0 wired a.least.attained.1 in
          let P : LogicalTime → Type 0 = λ x. is_at_most bound x ≡ true in
          subst P (sym a.arrives)
          (at_most_transitive bound (sum_of (federate_records a.from).next at.0) (sum_of (federate_records a.from).next a.delay)
          (paths_least table federate_records j n.reactors a.from at.0 begins at.1) (sum_monotone_right (federate_records a.from).next at.0 a.delay at.2)));
      attained = elim (paths_attained table federate_records j n.reactors) [
        | inl e ↦ inl e
        | inr a ↦ inr (record { from = a.0; delay = a.1; least = least_by_match n.connections a.0 j (table a.0 j) a.1 (least a.0 j) a.2; arrives = a.3 })
      ];
    }

-- over direct connections
connection_first : (arrival other : LogicalTime) (b : Bool) → b ≡ true → is_at_most (if b then lesser arrival other else other) arrival ≡ true
connection_first arrival other true e = lesser_at_most_first arrival other
connection_first arrival other false e = cc

connection_second : (arrival other : LogicalTime) (b : Bool) → is_at_most (if b then lesser arrival other else other) other ≡ true
connection_second arrival other true = lesser_at_most_second arrival other
connection_second arrival other false = at_most_reflexive other

abbrev arrival_of : (ℕ → FederateRecord) → Connection → LogicalTime
arrival_of federate_records c = sum_of (after_completed (federate_records c.source).completed) c.delay

connections_least : (federate_records : ℕ → FederateRecord) (j : ℕ) (cs : List Connection) (k : ℕ) (c : Connection) → slice_get cs k ≡ Some c → c.target ≡ j → is_at_most (bound_by_connections federate_records j cs) (arrival_of federate_records c) ≡ true
connections_least federate_records j [] k c e t = cc
connections_least federate_records j (x ∷ rest) zero c e t =
    let same : x ≡ c = cc in
    let here : nat_eq x.target j ≡ true = eq-eqb x.target j (ap (λ (y : Connection). y.target) same ∙ t) in
    let P : Connection → Type 0 = λ y. is_at_most (bound_by_connections federate_records j (x ∷ rest)) (arrival_of federate_records y) ≡ true in
    subst P same (connection_first (arrival_of federate_records x) (bound_by_connections federate_records j rest) (nat_eq x.target j) here)
connections_least federate_records j (x ∷ rest) (suc k) c e t =
    at_most_transitive (bound_by_connections federate_records j (x ∷ rest)) (bound_by_connections federate_records j rest) (arrival_of federate_records c)
    (connection_second (arrival_of federate_records x) (bound_by_connections federate_records j rest) (nat_eq x.target j)) (connections_least federate_records j rest k c e t)

connection_is : (arrival other : LogicalTime) (b : Bool) → ((if b then lesser arrival other else other) ≡ other) ⊎ ((b ≡ true) × ((if b then lesser arrival other else other) ≡ arrival))
connection_is arrival other true = elim (lesser_is arrival other (is_before arrival other)) [ inl e ↦ inl e | inr e ↦ inr (refl, e) ]
connection_is arrival other false = inl refl

abbrev Comes : (ℕ → FederateRecord) → ℕ → List Connection → LogicalTime → Type 0
Comes federate_records j cs tag = (k : ℕ) × (c : Connection) × (slice_get cs k ≡ Some c) × (c.target ≡ j) × (tag ≡ arrival_of federate_records c)

connections_attained : (federate_records : ℕ → FederateRecord) (j : ℕ) (cs : List Connection) → (bound_by_connections federate_records j cs ≡ forever) ⊎ Comes federate_records j cs (bound_by_connections federate_records j cs)
connections_attained federate_records j [] = inl refl
connections_attained federate_records j (x ∷ rest) =
    let other = bound_by_connections federate_records j rest in
    elim (connection_is (arrival_of federate_records x) other (nat_eq x.target j)) [
      | inl e ↦
          let P : LogicalTime → Type 0 = λ y. (y ≡ forever) ⊎ Comes federate_records j (x ∷ rest) y in
          subst P (sym e) (elim (connections_attained federate_records j rest) [ inl f ↦ inl f | inr a ↦ inr (suc a.0, a.1, a.2, a.3, a.4) ])
      | inr a ↦ inr (0, x, refl, eqb-true x.target j a.0, a.1)
    ]

first_by_connections : (n : Network) (federate_records : ℕ → FederateRecord) (j : ℕ) → IsFirst (IsArrivalByConnection n federate_records j) (bound_by_connections federate_records j n.connections)
first_by_connections n federate_records j =
    let bound = bound_by_connections federate_records j n.connections in
    record {
      least = λ tag a. (
          let at = contained_at n.connections a.connection a.there in
          let P : LogicalTime → Type 0 = λ x. is_at_most bound x ≡ true in
          subst P (sym a.arrives) (connections_least federate_records j n.connections at.0 a.connection at.1 a.target));
      attained = elim (connections_attained federate_records j n.connections) [
        | inl e ↦ inl e
        | inr a ↦ inr (record { connection = a.1; there = contains_at n.connections a.0 a.1 a.2; target = a.3; arrives = a.4 })
      ];
    }

-- the table's bound is the bound
pub table_bound : (n : Network) (table : Table) (federate_records : ℕ → FederateRecord) (j : ℕ) → IsWired n → IsLeastTable n table → IsBound n federate_records j (bound_of n table federate_records j)
table_bound n table federate_records j wired least =
    record {
      by_paths = bound_by_paths table federate_records j n.reactors;
      by_connections = bound_by_connections federate_records j n.connections;
      first_by_paths = first_by_paths n table federate_records j wired least;
      first_by_connections = first_by_connections n federate_records j;
      later = refl;
    }

-- there is one bound
sum_within : (g d : LogicalTime) → is_at_most (sum_of g d) forever ≡ true
sum_within g d = grind (arith, nat_tests)

both_ways : (g h : LogicalTime) → is_at_most g h ≡ true → is_at_most h g ≡ true → g ≡ h
both_ways g h p q = same_is_equal g h (is_both g h p q)
  where
    is_both : (g h : LogicalTime) → is_at_most g h ≡ true → is_at_most h g ≡ true → is_same g h ≡ true
    is_both g h p q = grind (arith, nat_tests)

first_within : (P : LogicalTime → Type 0) (g : LogicalTime) → ((tag : LogicalTime) → P tag → is_at_most tag forever ≡ true) → IsFirst P g → is_at_most g forever ≡ true
first_within P g within f =
    let A : LogicalTime → Type 0 = λ x. is_at_most x forever ≡ true in
    elim f.attained [ inl e ↦ subst A (sym e) (at_most_reflexive forever) | inr a ↦ within g a ]

first_at_most : (P : LogicalTime → Type 0) (g h : LogicalTime) → ((tag : LogicalTime) → P tag → is_at_most tag forever ≡ true) → IsFirst P g → IsFirst P h → is_at_most g h ≡ true
first_at_most P g h within f k =
    let A : LogicalTime → Type 0 = λ x. is_at_most g x ≡ true in
    elim k.attained [ inl e ↦ subst A (sym e) (first_within P g within f) | inr a ↦ f.least h a ]

first_is_one : (P : LogicalTime → Type 0) (g h : LogicalTime) → ((tag : LogicalTime) → P tag → is_at_most tag forever ≡ true) → IsFirst P g → IsFirst P h → g ≡ h
first_is_one P g h within f k = both_ways g h (first_at_most P g h within f k) (first_at_most P h g within k f)

pub one_bound : (n : Network) (federate_records : ℕ → FederateRecord) (j : ℕ) (bound other : LogicalTime) → IsBound n federate_records j bound → IsBound n federate_records j other → bound ≡ other
one_bound n federate_records j bound other b o =
    let A : LogicalTime → Type 0 = λ x. is_at_most x forever ≡ true in
    let paths : b.by_paths ≡ o.by_paths =
    first_is_one (IsArrivalByPath n federate_records j) b.by_paths o.by_paths (λ tag a. subst A (sym a.arrives) (sum_within (federate_records a.from).next a.delay)) b.first_by_paths o.first_by_paths in
    let connections : b.by_connections ≡ o.by_connections =
    first_is_one (IsArrivalByConnection n federate_records j) b.by_connections o.by_connections
    (λ tag a. subst A (sym a.arrives) (sum_within (after_completed (federate_records a.connection.source).completed) a.connection.delay)) b.first_by_connections o.first_by_connections in
    b.later ∙ (ap (λ x. greater x b.by_connections) paths ∙ (ap (λ x. greater o.by_paths x) connections ∙ sym o.later))

-- who is eligible is within the bound
in_time_before : (g stop : LogicalTime) → stop.time < 2 ^ 62 → is_at_most g stop ≡ true → is_before g forever ≡ true
in_time_before g stop f p = grind (arith, nat_tests)

before_first : (P : LogicalTime → Type 0) (next bound : LogicalTime) → is_before next forever ≡ true → ((tag : LogicalTime) → P tag → is_before next tag ≡ true) → IsFirst P bound → is_before next bound ≡ true
before_first P next bound f all first =
    let A : LogicalTime → Type 0 = λ x. is_before next x ≡ true in
    elim first.attained [ inl e ↦ subst A (sym e) f | inr a ↦ all bound a ]

to_within : (n : Network) (federate_records : ℕ → FederateRecord) (j : ℕ) (bound : LogicalTime) → IsWired n → IsBound n federate_records j bound → IsEligible n federate_records j → IsWithin n federate_records j bound
to_within n federate_records j bound wired b e =
    let next = (federate_records j).next in
    let finite = in_time_before next n.stop wired.stop.time e.in_time in
    let A : LogicalTime → Type 0 = λ x. is_before next x ≡ true in
    record {
      announced = e.announced;
      not_granted = e.not_granted;
      in_time = e.in_time;
      before = subst A (sym b.later)
          (elim e.safe [
            | inl paths ↦ greater_from_first next b.by_paths b.by_connections
                (before_first (IsArrivalByPath n federate_records j) next b.by_paths finite (λ tag a. subst A (sym a.arrives) (paths a.from a.delay a.least)) b.first_by_paths)
            | inr connections ↦ greater_from_second next b.by_paths b.by_connections
                (before_first (IsArrivalByConnection n federate_records j) next b.by_connections finite
                (λ tag a. subst A (sym a.arrives) (connections a.connection a.there a.target)) b.first_by_connections)
          ]);
    }

from_within : (n : Network) (federate_records : ℕ → FederateRecord) (j : ℕ) (bound : LogicalTime) → IsBound n federate_records j bound → IsWithin n federate_records j bound → IsEligible n federate_records j
from_within n federate_records j bound b w =
    let next = (federate_records j).next in
    let A : LogicalTime → Type 0 = λ x. is_before next x ≡ true in
    record {
      announced = w.announced;
      not_granted = w.not_granted;
      in_time = w.in_time;
      safe = elim (greater_splits next b.by_paths b.by_connections (is_before b.by_paths b.by_connections) (subst A b.later w.before)) [
        | inl p ↦ inl (λ i delay least. before_then next b.by_paths (sum_of (federate_records i).next delay) p
            (b.first_by_paths.least (sum_of (federate_records i).next delay) (record { from = i; delay = delay; least = least; arrives = refl })))
        | inr p ↦ inr (λ c there target. before_then next b.by_connections (arrival_of federate_records c) p
            (b.first_by_connections.least (arrival_of federate_records c) (record { connection = c; there = there; target = target; arrives = refl })))
      ];
    }

pub eligible_within : (n : Network) (federate_records : ℕ → FederateRecord) (j : ℕ) (bound : LogicalTime) → IsWired n → IsBound n federate_records j bound → IsEligible n federate_records j ↔ IsWithin n federate_records j bound
eligible_within n federate_records j bound wired b = (to_within n federate_records j bound wired b, from_within n federate_records j bound b)

-- the widest grant
widest_if : (n : Network) (table : Table) (federate_records : ℕ → FederateRecord) (j : ℕ) (b : Bool) → is_eligible n table federate_records j ≡ b → IsWired n → IsLeastTable n table → MatchOption (if b then Some (lesser (predecessor_of (bound_of n table federate_records j)) n.stop) else None) (IsEligible n federate_records j → ⊥) (λ tag. IsEligible n federate_records j × IsWidest n federate_records j tag)
widest_if n table federate_records j true e wired least =
    ((eligible_by_table n table federate_records j wired least).1 e, record { bound = bound_of n table federate_records j; is_bound = table_bound n table federate_records j wired least; last = refl })
widest_if n table federate_records j false e wired least = λ eligible. (let yes : is_eligible n table federate_records j ≡ true = (eligible_by_table n table federate_records j wired least).0 eligible in cc)

pub widest_grant : (n : Network) (table : Table) (federate_records : ℕ → FederateRecord) (j : ℕ) → IsWired n → IsLeastTable n table → MatchOption (grant_widest n table federate_records j) (IsEligible n federate_records j → ⊥) (λ tag. IsEligible n federate_records j × IsWidest n federate_records j tag)
widest_grant n table federate_records j wired least = widest_if n table federate_records j (is_eligible n table federate_records j) refl wired least
