-- Who is eligible: by the bound, and whom a change leaves alone.
use Rattle.std.proofs.Common.{◌≡◌, ℕ, zero, suc, Bool, true, false, List, [], ◌∷◌, refl, sym, ap, ◌∙◌, arith, Option, None, Some}
use Rattle.std.specs.Prelude.{nat_eq, is_some, if◌then◌else◌, ◌&&◌, ◌||◌, slice_get}
use Rattle.std.proofs.lemmas.Bool.{eqb-true}
use Rattle.std.proofs.lemmas.Bool.Decides.{nat_tests}
use Rattle.tag.specs.LogicalTime.{LogicalTime, is_before, is_at_most, lesser, greater, origin, sum_of, is_past}
use Rattle.network.specs.Connection.{Connection}
use Rattle.network.specs.Network.{Network}
use Rattle.network.specs.Wiring.{IsWired}
use Rattle.network.specs.Tables.{Table, IsLeastTable}
use Rattle.protocol.specs.FederateRecord.{FederateRecord}
use Rattle.protocol.specs.Grant.{after_completed, passes_paths, passes_connections, is_eligible, lesser_arrival, bound_by_paths, bound_by_connections, bound_of}
use Rattle.protocol.specs.Bound.{IsWithin}
use Rattle.protocol_laws.proofs.Tests.{both_left, both_right, both_hold}
use Rattle.protocol_laws.proofs.Eligibility.{eligible_by_table}
use Rattle.protocol_laws.proofs.FirstArrivals.{table_bound, eligible_within}

-- ---- by the bound

abbrev pub is_within : Network → Table → (ℕ → FederateRecord) → ℕ → Bool
is_within n table federate_records j =
    (federate_records j).announced && is_past (federate_records j).granted (federate_records j).next && is_at_most (federate_records j).next n.stop
    && is_before (federate_records j).next (bound_of n table federate_records j)

same_tests : (a b : Bool) → (a ≡ true → b ≡ true) → (b ≡ true → a ≡ true) → a ≡ b
same_tests true true h k = refl
same_tests true false h k = sym (h refl)
same_tests false true h k = k refl
same_tests false false h k = refl

pub by_bound : (n : Network) (table : Table) (federate_records : ℕ → FederateRecord) (j : ℕ) → IsWired n → IsLeastTable n table → is_eligible n table federate_records j ≡ is_within n table federate_records j
by_bound n table federate_records j wired least =
    let bound = bound_of n table federate_records j in
    let next = (federate_records j).next in
    let a = (federate_records j).announced in
    let b = is_past (federate_records j).granted next in
    let c = is_at_most next n.stop in
    let d = is_before next bound in
    let table_says = eligible_by_table n table federate_records j wired least in
    let bound_says = eligible_within n federate_records j bound wired (table_bound n table federate_records j wired least) in
    same_tests (is_eligible n table federate_records j) (is_within n table federate_records j)
    (λ h. (
    let w : IsWithin n federate_records j bound = bound_says.0 (table_says.1 h) in
    both_hold (a && b && c) d (both_hold (a && b) c (both_hold a b w.announced w.not_granted) w.in_time) w.before))
    (λ h. (
    let abc = both_left (a && b && c) d h in
    let ab = both_left (a && b) c abc in
    table_says.0 (bound_says.1 (record {
      announced = both_left a b ab;
      not_granted = both_right a b ab;
      in_time = both_right (a && b) c abc;
      before = both_right (a && b && c) d h;
    }))))

-- nobody is before the first announcement
pub not_announced : (a b c d : Bool) → a ≡ false → (a && b && c && d) ≡ false
not_announced true b c d e = cc
not_announced false b c d e = refl

pub silent_is_not_eligible : (n : Network) (table : Table) (federate_records : ℕ → FederateRecord) (j : ℕ) → (federate_records j).announced ≡ false → is_eligible n table federate_records j ≡ false
silent_is_not_eligible n table federate_records j e =
    not_announced (federate_records j).announced (is_past (federate_records j).granted (federate_records j).next) (is_at_most (federate_records j).next n.stop)
    (passes_paths n table federate_records j (federate_records j).next || passes_connections n federate_records j (federate_records j).next) e

-- an eligible federate's bound isn't the first tag
after_origin : (g h : LogicalTime) → is_before g h ≡ true → is_before origin h ≡ true
after_origin g h e = grind (arith, nat_tests)

pub bound_after_origin : (n : Network) (table : Table) (federate_records : ℕ → FederateRecord) (j : ℕ) → IsWired n → IsLeastTable n table → is_eligible n table federate_records j ≡ true →
    is_before origin (bound_of n table federate_records j) ≡ true
bound_after_origin n table federate_records j wired least e =
    let next = (federate_records j).next in
    let within : is_within n table federate_records j ≡ true = sym (by_bound n table federate_records j wired least) ∙ e in
    after_origin next (bound_of n table federate_records j)
    (both_right ((federate_records j).announced && is_past (federate_records j).granted next && is_at_most next n.stop) (is_before next (bound_of n table federate_records j)) within)

-- ---- whom a change leaves alone

-- whether federate j is eligible rests on its own records, on the next tags of those from which a path leads to it, and on what
-- those completed that are connected to it
pub record AreAlikeFor (connections : List Connection) (table : Table) (j : ℕ) (before after : ℕ → FederateRecord) : Type 0 where
  pub announced : (after j).announced ≡ (before j).announced
  pub granted : (after j).granted ≡ (before j).granted
  pub next : (after j).next ≡ (before j).next
  pub paths : (i : ℕ) → is_some (table i j) ≡ true → (after i).next ≡ (before i).next
  pub completed : (k : ℕ) (c : Connection) → slice_get connections k ≡ Some c → c.target ≡ j → (after c.source).completed ≡ (before c.source).completed

arrival_same : (o : Option LogicalTime) (next later rest more : LogicalTime) → (is_some o ≡ true → later ≡ next) → more ≡ rest →
    lesser_arrival later o more ≡ lesser_arrival next o rest
arrival_same None next later rest more h e = e
arrival_same (Some d) next later rest more h e = ap (λ x. lesser (sum_of x d) more) (h refl) ∙ ap (lesser (sum_of next d)) e

paths_same : (table : Table) (j : ℕ) (before after : ℕ → FederateRecord) (count : ℕ) → ((i : ℕ) → is_some (table i j) ≡ true → (after i).next ≡ (before i).next) →
    bound_by_paths table after j count ≡ bound_by_paths table before j count
paths_same table j before after zero h = refl
paths_same table j before after (suc count) h =
    arrival_same (table count j) (before count).next (after count).next (bound_by_paths table before j count) (bound_by_paths table after j count) (h count)
    (paths_same table j before after count h)

connection_same : (b : Bool) (arrival later rest more : LogicalTime) → (b ≡ true → later ≡ arrival) → more ≡ rest →
    (if b then lesser later more else more) ≡ (if b then lesser arrival rest else rest)
connection_same true arrival later rest more h e = ap (λ x. lesser x more) (h refl) ∙ ap (lesser arrival) e
connection_same false arrival later rest more h e = e

connections_same : (j : ℕ) (before after : ℕ → FederateRecord) (connections : List Connection) →
    ((k : ℕ) (c : Connection) → slice_get connections k ≡ Some c → c.target ≡ j → (after c.source).completed ≡ (before c.source).completed) →
    bound_by_connections after j connections ≡ bound_by_connections before j connections
connections_same j before after [] h = refl
connections_same j before after (c ∷ rest) h =
    connection_same (nat_eq c.target j) (sum_of (after_completed (before c.source).completed) c.delay) (sum_of (after_completed (after c.source).completed) c.delay)
    (bound_by_connections before j rest) (bound_by_connections after j rest)
    (λ t. ap (λ x. sum_of (after_completed x) c.delay) (h 0 c refl (eqb-true c.target j t)))
    (connections_same j before after rest (λ k x e t. h (suc k) x e t))

pub eligible_same : (n : Network) (table : Table) (j : ℕ) (before after : ℕ → FederateRecord) → IsWired n → IsLeastTable n table →
    AreAlikeFor n.connections table j before after → is_eligible n table after j ≡ is_eligible n table before j
eligible_same n table j before after wired least alike =
    let old = bound_of n table before j in
    let new = bound_of n table after j in
    let bound : new ≡ old =
    ap (λ x. greater x (bound_by_connections after j n.connections)) (paths_same table j before after n.reactors alike.paths)
    ∙ ap (greater (bound_by_paths table before j n.reactors)) (connections_same j before after n.connections alike.completed) in
    by_bound n table after j wired least
    ∙ ap (λ x. x && is_past (after j).granted (after j).next && is_at_most (after j).next n.stop && is_before (after j).next new) alike.announced
    ∙ ap (λ x. (before j).announced && is_past x (after j).next && is_at_most (after j).next n.stop && is_before (after j).next new) alike.granted
    ∙ ap (λ x. (before j).announced && is_past (before j).granted x && is_at_most x n.stop && is_before x new) alike.next
    ∙ ap (λ x. (before j).announced && is_past (before j).granted (before j).next && is_at_most (before j).next n.stop && is_before (before j).next x) bound
    ∙ sym (by_bound n table before j wired least)
