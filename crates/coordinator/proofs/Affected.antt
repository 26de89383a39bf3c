-- Whom a change of one federate's record may make eligible: itself, and those to whom a path leads from it.
use Rattle.std.proofs.Common.{◌≡◌, ◌≢◌, ℕ, suc, ◌<◌, ◌≤◌, Bool, true, false, List, [], ◌∷◌, refl, sym, ap, ◌∙◌, arith, Option, None, Some}
use Rattle.std.specs.Prelude.{nat_eq, if◌then◌else◌, ◌&&◌, ◌||◌, is_some, slice_get, MatchOption}
use Rattle.std.specs.List.{list_all}
use Rattle.std.proofs.Math.Path.{fun_ext}
use Rattle.std.proofs.lemmas.Bool.{eqb-true, eqb-false, or_parts}
use Rattle.std.proofs.lemmas.Bool.Decides.{nat_tests}
use Rattle.tag.specs.LogicalTime.{LogicalTime, is_before, is_at_most, sum_of, is_past}
use Rattle.network.specs.Connection.{Connection, IsLeastDelay, IsUnreachable}
use Rattle.network.specs.Network.{Network}
use Rattle.network.specs.Tables.{Table}
use Rattle.protocol.specs.FederateRecord.{FederateRecord}
use Rattle.protocol.specs.Grant.{after_completed, all_below, is_before_arrival, passes_paths, passes_connection, passes_connections, is_eligible}
use Rattle.protocol.specs.Coordinator.{with_federate_record}
use Rattle.protocol_laws.proofs.Eligibility.{contains_at, path_begins}
use Rattle.protocol_laws.proofs.Settled.{eligible_so}
use Rattle.grants.specs.Wiring.{Wiring, IsWiring, network_by, least_by}
use Rattle.grants.specs.Looks.{has_path}
use Rattle.grants.specs.Routes.{may_change}

arrival_same : (f : ℕ → FederateRecord) (i : ℕ) (s : FederateRecord) (table : Table) (j : ℕ) (tag : LogicalTime) (k : ℕ) (b : Bool) → nat_eq k i ≡ b → table i j ≡ None →
    is_before_arrival tag (if b then s else f k).next (table k j) ≡ is_before_arrival tag (f k).next (table k j)
arrival_same f i s table j tag k true e none =
    let here : table k j ≡ None = ap (λ x. table x j) (eqb-true k i e) ∙ none in
    ap (is_before_arrival tag s.next) here ∙ sym (ap (is_before_arrival tag (f k).next) here)
arrival_same f i s table j tag k false e none = refl

paths_same : (n : Network) (table : Table) (f : ℕ → FederateRecord) (i : ℕ) (s : FederateRecord) (j : ℕ) (tag : LogicalTime) → table i j ≡ None →
    passes_paths n table (with_federate_record f i s) j tag ≡ passes_paths n table f j tag
paths_same n table f i s j tag none =
    let same : (λ (k : ℕ). is_before_arrival tag (with_federate_record f i s k).next (table k j)) ≡ (λ (k : ℕ). is_before_arrival tag (f k).next (table k j)) =
    fun_ext (λ k. arrival_same f i s table j tag k (nat_eq k i) refl none) in
    ap (all_below n.reactors) same

-- no connection leads from i to j
abbrev IsApart : ℕ → ℕ → Connection → Type 0
IsApart i j c = c.source ≡ i → c.target ≡ j → ⊥

connection_same : (f : ℕ → FederateRecord) (i : ℕ) (s : FederateRecord) (j : ℕ) (tag : LogicalTime) (c : Connection) (a b : Bool) → nat_eq c.source i ≡ a → nat_eq c.target j ≡ b → IsApart i j c →
    (if b then is_before tag (sum_of (after_completed (if a then s else f c.source).completed) c.delay) else true) ≡ (if b then is_before tag (sum_of (after_completed (f c.source).completed) c.delay) else true)
connection_same f i s j tag c true true e d apart = absurd (apart (eqb-true c.source i e) (eqb-true c.target j d))
connection_same f i s j tag c false b e d apart = refl
connection_same f i s j tag c true false e d apart = refl

connections_same : (f : ℕ → FederateRecord) (i : ℕ) (s : FederateRecord) (j : ℕ) (tag : LogicalTime) (cs : List Connection) → ((k : ℕ) (c : Connection) → slice_get cs k ≡ Some c → IsApart i j c) →
    list_all (passes_connection (with_federate_record f i s) j tag) cs ≡ list_all (passes_connection f j tag) cs
connections_same f i s j tag [] apart = refl
connections_same f i s j tag (c ∷ rest) apart =
    ap (λ x. x && list_all (passes_connection (with_federate_record f i s) j tag) rest) (connection_same f i s j tag c (nat_eq c.source i) (nat_eq c.target j) refl refl (apart 0 c refl)) ∙
    ap (λ x. passes_connection f j tag c && x) (connections_same f i s j tag rest (λ k d is. apart (suc k) d is))

other_same : (f : ℕ → FederateRecord) (i : ℕ) (s : FederateRecord) (j : ℕ) → j ≢ i → with_federate_record f i s j ≡ f j
other_same f i s j apart =
    let e : nat_eq j i ≡ false = grind (arith, nat_tests) in
    ap (λ (b : Bool). if b then s else f j) e

-- another's eligibility doesn't change, where nothing leads to it
pub eligible_same : (n : Network) (table : Table) (f : ℕ → FederateRecord) (i : ℕ) (s : FederateRecord) (j : ℕ) → ((k : ℕ) (c : Connection) → slice_get n.connections k ≡ Some c → IsApart i j c) → j ≢ i → table i j ≡ None →
    is_eligible n table (with_federate_record f i s) j ≡ is_eligible n table f j
eligible_same n table f i s j apart other none =
    let passes : (λ (tag : LogicalTime). passes_paths n table (with_federate_record f i s) j tag || passes_connections n (with_federate_record f i s) j tag) ≡ (λ (tag : LogicalTime). passes_paths n table f j tag || passes_connections n f j tag) =
    fun_ext (λ tag. ap (λ x. x || passes_connections n (with_federate_record f i s) j tag) (paths_same n table f i s j tag none) ∙
    ap (λ x. passes_paths n table f j tag || x) (connections_same f i s j tag n.connections apart)) in
    ap (λ x. eligible_so n x (λ tag. passes_paths n table (with_federate_record f i s) j tag || passes_connections n (with_federate_record f i s) j tag)) (other_same f i s j other) ∙
    ap (λ x. eligible_so n (f j) x) passes

-- where no path leads from one federate to another, no connection does
apart_where_none : (w : Wiring) (i j : ℕ) (o : Option LogicalTime) → MatchOption o (IsUnreachable w.connections i j) (IsLeastDelay w.connections i j) → o ≡ None → (k : ℕ) (c : Connection) → slice_get w.connections k ≡ Some c → IsApart i j c
apart_where_none w i j None unreachable none k c is p q = unreachable (c ∷ []) (contains_at w.connections k c is, p, q)
apart_where_none w i j (Some d) least none k c is p q = let bad : ⊥ = cc in absurd bad

pub eligible_stays : (w : Wiring) (f : ℕ → FederateRecord) (i : ℕ) (s : FederateRecord) (j : ℕ) → IsWiring w → j ≢ i → least_by w i j ≡ None →
    is_eligible (network_by w) (least_by w) (with_federate_record f i s) j ≡ is_eligible (network_by w) (least_by w) f j
eligible_stays w f i s j wiring other none =
    eligible_same (network_by w) (least_by w) f i s j (apart_where_none w i j (least_by w i j) (wiring.least i j) none) other none

none_of : (o : Option LogicalTime) → is_some o ≡ false → o ≡ None
none_of None e = refl
none_of (Some d) e = cc

-- whoever a change doesn't concern stays as eligible as before
pub unconcerned : (w : Wiring) (f : ℕ → FederateRecord) (i : ℕ) (s : FederateRecord) (j : ℕ) → IsWiring w → may_change w i j ≡ false →
    is_eligible (network_by w) (least_by w) (with_federate_record f i s) j ≡ is_eligible (network_by w) (least_by w) f j
unconcerned w f i s j wiring e =
    let neither = or_parts (nat_eq j i) (has_path w i j) e in
    eligible_stays w f i s j wiring (eqb-false j i neither.0) (none_of (least_by w i j) neither.1)

no_path_from : (w : Wiring) (i j : ℕ) (o : Option LogicalTime) → IsWiring w → w.federates ≤ i → MatchOption o (IsUnreachable w.connections i j) (IsLeastDelay w.connections i j) → o ≡ None
no_path_from w i j None wiring l least = refl
no_path_from w i j (Some d) wiring l least =
    let begins = path_begins (network_by w) i j least.attained.0 wiring.wired least.attained.1 in absurd (omega arith)

-- a change of a federate that isn't there concerns nobody
pub stranger_concerns_nobody : (w : Wiring) (f : ℕ → FederateRecord) (i : ℕ) (s : FederateRecord) (j : ℕ) → IsWiring w → w.federates ≤ i → j < w.federates →
    is_eligible (network_by w) (least_by w) (with_federate_record f i s) j ≡ is_eligible (network_by w) (least_by w) f j
stranger_concerns_nobody w f i s j wiring l m =
    let other : j ≢ i = omega arith in
    eligible_stays w f i s j wiring other (no_path_from w i j (least_by w i j) wiring l (wiring.least i j))
