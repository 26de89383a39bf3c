-- Who is eligible: the test by the table is the formula over all paths, where the table is the least delay.
use Rattle.std.proofs.Common.{◌≡◌, ℕ, zero, suc, ◌<◌, ◌⊎◌, inl, inr, Bool, true, false, IsTrue, ◌↔◌, List, [], ◌∷◌, length, refl, sym, subst, arith, Option, None, Some}
use Rattle.std.specs.Prelude.{slice_get, nat_eq, if◌then◌else◌, ◌&&◌, ◌||◌, Contains, MatchOption}
use Rattle.std.specs.List.{list_all}
use Rattle.std.proofs.lemmas.Bool.{eqb-true}
use Rattle.std.proofs.lemmas.List.Elements.{All-weaker, All-contains}
use Rattle.std.proofs.lemmas.Option.{slice_get_within, get_or_from_slice_get, slice_get_read}
use Rattle.tag.specs.LogicalTime.{LogicalTime, is_before, is_at_most, sum_of, is_past}
use Rattle.tag.proofs.Order.{before_then}
use Rattle.tag.proofs.SumLaws.{sum_monotone_right}
use Rattle.network.specs.Connection.{Connection, IsPath, IsLeastDelay, IsUnreachable}
use Rattle.network.specs.Network.{Network}
use Rattle.network.specs.Lawful.{IsLawful, IsConnected}
use Rattle.network.specs.Wiring.{IsBetween, IsWired}
use Rattle.network.specs.Tables.{Table, IsLeastTable}
use Rattle.protocol.specs.FederateRecord.{FederateRecord}
use Rattle.protocol.specs.Grant.{after_completed, ByPaths, ByConnections, IsEligible, all_below, is_before_arrival}
use Rattle.protocol.specs.Grant.{passes_paths, passes_connection, passes_connections, is_eligible}
use Rattle.protocol_laws.proofs.Backing.{paths_hold, connections_hold}
use Rattle.protocol_laws.proofs.SafeGrants.{eligible_announced, eligible_not_granted, eligible_in_time, eligible_safe}
use Rattle.protocol_laws.proofs.Tests.{both_hold, either_case, either_of}

pub contained_at : {X : Type 0} (xs : List X) (x : X) → Contains xs x → (k : ℕ) × (slice_get xs k ≡ Some x)
contained_at xs x h = (h.0, slice_get_read xs (length xs) h.0 x refl h.1 (sym h.2))

pub contains_at : {X : Type 0} (xs : List X) (k : ℕ) (x : X) → slice_get xs k ≡ Some x → Contains xs x
contains_at xs k x e = (k, slice_get_within xs k x e, get_or_from_slice_get xs k x x e)

pub between_is : (n : Network) (c : Connection) → IsWired n → Contains n.connections c → IsBetween n.reactors c
between_is n c wired h = All-contains (IsBetween n.reactors) n.connections c wired.connections h

-- a lawful network is wired
pub lawful_is_wired : (n : Network) → IsLawful n → IsWired n
lawful_is_wired n lawful =
    record { stop = lawful.stop; connections = All-weaker (IsConnected n) (IsBetween n.reactors) (λ c k. record { source = k.source; target = k.target }) n.connections lawful.connected }

-- a path begins at a reactor that is there
pub path_begins : (n : Network) (i j : ℕ) (path : List Connection) → IsWired n → IsPath n.connections i path j → i < n.reactors
path_begins n i j [] wired p = absurd p
path_begins n i j (c ∷ []) wired p = let P : ℕ → Type 0 = λ x. x < n.reactors in subst P p.1 (between_is n c wired p.0).source
path_begins n i j (c ∷ d ∷ rest) wired p = let P : ℕ → Type 0 = λ x. x < n.reactors in subst P p.1 (between_is n c wired p.0).source

pub all_below_from : (count : ℕ) (test : ℕ → Bool) → ((i : ℕ) → i < count → test i ≡ true) → all_below count test ≡ true
all_below_from zero test h = refl
all_below_from (suc count) test h = both_hold (test count) (all_below count test) (h count (omega arith)) (all_below_from count test (λ i l. h i (omega arith)))

list_all_from : {X : Type 0} (test : X → Bool) (xs : List X) → ((k : ℕ) (x : X) → slice_get xs k ≡ Some x → test x ≡ true) → list_all test xs ≡ true
list_all_from test [] h = refl
list_all_from test (x ∷ rest) h = both_hold (test x) (list_all test rest) (h 0 x refl) (list_all_from test rest (λ k y e. h (suc k) y e))

arrival_from : (connections : List Connection) (i j : ℕ) (tag next : LogicalTime) (o : Option LogicalTime) → MatchOption o (IsUnreachable connections i j) (λ delay. IsLeastDelay connections i j delay) → ((delay : LogicalTime) → IsLeastDelay connections i j delay → is_before tag (sum_of next delay) ≡ true) → is_before_arrival tag next o ≡ true
arrival_from connections i j tag next None m h = refl
arrival_from connections i j tag next (Some d) m h = h d m

paths_from : (n : Network) (table : Table) (federate_records : ℕ → FederateRecord) (j : ℕ) (tag : LogicalTime) → IsLeastTable n table → ByPaths n federate_records j tag → passes_paths n table federate_records j tag ≡ true
paths_from n table federate_records j tag least h = all_below_from n.reactors (λ i. is_before_arrival tag (federate_records i).next (table i j)) (λ i l. arrival_from n.connections i j tag (federate_records i).next (table i j) (least i j) (h i))

if_from : (a b : Bool) → (a ≡ true → b ≡ true) → (if a then b else true) ≡ true
if_from true b h = h refl
if_from false b h = refl

connections_from : (n : Network) (federate_records : ℕ → FederateRecord) (j : ℕ) (tag : LogicalTime) → ByConnections n federate_records j tag → passes_connections n federate_records j tag ≡ true
connections_from n federate_records j tag h =
    list_all_from (passes_connection federate_records j tag) n.connections
    (λ k c e. if_from (nat_eq c.target j) (is_before tag (sum_of (after_completed (federate_records c.source).completed) c.delay)) (λ t. h c (contains_at n.connections k c e) (eqb-true c.target j t)))

-- the table's entry is no more than a least delay
pub least_of_table : (connections : List Connection) (i j : ℕ) (o : Option LogicalTime) (delay : LogicalTime) → MatchOption o (IsUnreachable connections i j) (λ d. IsLeastDelay connections i j d) → IsLeastDelay connections i j delay → (d : LogicalTime) × (o ≡ Some d) × (is_at_most d delay ≡ true)
least_of_table connections i j None delay m least = absurd (m least.attained.0 least.attained.1)
least_of_table connections i j (Some d) delay m least =
    let P : LogicalTime → Type 0 = λ x. is_at_most d x ≡ true in
    (d, refl, subst P least.attained.2 (m.least least.attained.0 least.attained.1))

by_paths : (n : Network) (table : Table) (federate_records : ℕ → FederateRecord) (j : ℕ) (tag : LogicalTime) → IsWired n → IsLeastTable n table → passes_paths n table federate_records j tag ≡ true → ByPaths n federate_records j tag
by_paths n table federate_records j tag wired least h i delay is =
    let at = least_of_table n.connections i j (table i j) delay (least i j) is in
    let begins = path_begins n i j is.attained.0 wired is.attained.1 in
    before_then tag (sum_of (federate_records i).next at.0) (sum_of (federate_records i).next delay) (paths_hold n table federate_records j tag h i at.0 begins at.1) (sum_monotone_right (federate_records i).next at.0 delay at.2)

by_connections : (n : Network) (federate_records : ℕ → FederateRecord) (j : ℕ) (tag : LogicalTime) → passes_connections n federate_records j tag ≡ true → ByConnections n federate_records j tag
by_connections n federate_records j tag h c within t = let at = contained_at n.connections c within in connections_hold n federate_records j tag h at.0 c at.1 t

pub paths_by_table : (n : Network) (table : Table) (federate_records : ℕ → FederateRecord) (j : ℕ) (tag : LogicalTime) → IsWired n → IsLeastTable n table → ByPaths n federate_records j tag ↔ IsTrue (passes_paths n table federate_records j tag)
paths_by_table n table federate_records j tag wired least = (paths_from n table federate_records j tag least, by_paths n table federate_records j tag wired least)

pub connections_by_test : (n : Network) (federate_records : ℕ → FederateRecord) (j : ℕ) (tag : LogicalTime) → ByConnections n federate_records j tag ↔ IsTrue (passes_connections n federate_records j tag)
connections_by_test n federate_records j tag = (connections_from n federate_records j tag, by_connections n federate_records j tag)

to_formula : (n : Network) (table : Table) (federate_records : ℕ → FederateRecord) (j : ℕ) → IsWired n → IsLeastTable n table → is_eligible n table federate_records j ≡ true → IsEligible n federate_records j
to_formula n table federate_records j wired least h =
    let next = (federate_records j).next in
    let a = (federate_records j).announced in
    let b = is_past (federate_records j).granted next in
    let c = is_at_most next n.stop in
    let p = passes_paths n table federate_records j next in
    let q = passes_connections n federate_records j next in
    record {
      announced = eligible_announced a b c (p || q) h;
      not_granted = eligible_not_granted a b c (p || q) h;
      in_time = eligible_in_time a b c (p || q) h;
      safe = elim (either_case p q (eligible_safe a b c (p || q) h)) [
        | inl x ↦ inl (by_paths n table federate_records j next wired least x)
        | inr x ↦ inr (by_connections n federate_records j next x)
      ];
    }

to_test : (n : Network) (table : Table) (federate_records : ℕ → FederateRecord) (j : ℕ) → IsLeastTable n table → IsEligible n federate_records j → is_eligible n table federate_records j ≡ true
to_test n table federate_records j least e =
    let next = (federate_records j).next in
    let a = (federate_records j).announced in
    let b = is_past (federate_records j).granted next in
    let c = is_at_most next n.stop in
    let p = passes_paths n table federate_records j next in
    let q = passes_connections n federate_records j next in
    let safe : (p ≡ true) ⊎ (q ≡ true) = elim e.safe [
      | inl x ↦ inl (paths_from n table federate_records j next least x)
      | inr x ↦ inr (connections_from n federate_records j next x)
    ] in
    both_hold (a && b && c) (p || q) (both_hold (a && b) c (both_hold a b e.announced e.not_granted) e.in_time) (either_of p q safe)

pub eligible_by_table : (n : Network) (table : Table) (federate_records : ℕ → FederateRecord) (j : ℕ) → IsWired n → IsLeastTable n table → IsEligible n federate_records j ↔ IsTrue (is_eligible n table federate_records j)
eligible_by_table n table federate_records j wired least = (to_test n table federate_records j least, to_formula n table federate_records j wired least)
