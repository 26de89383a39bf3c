-- What is in transit doesn't tell who is granted what.
use Rattle.std.proofs.Common.{◌≡◌, ℕ, zero, suc, ◌+◌, List, [], ◌∷◌, ◌++◌, refl, sym, ap, ◌∙◌, None, Some}
use Rattle.std.specs.Prelude.{nat_eq, if◌then◌else◌}
use Rattle.std.proofs.Math.Path.{fun_ext}
use Rattle.tag.specs.LogicalTime.{lesser, greater, predecessor_of, sum_of}
use Rattle.network.specs.Connection.{Connection}
use Rattle.network.specs.Network.{Network}
use Rattle.network.specs.Tables.{Table}
use Rattle.protocol.specs.FederateRecord.{FederateRecord}
use Rattle.protocol.specs.Grant.{after_completed, is_eligible, lesser_arrival, bound_by_paths, bound_by_connections, bound_of, grant_widest}
use Rattle.protocol.specs.Coordinator.{grant_to, grant_post, grants_from}

-- a record without what is in transit
abbrev pub without_transit : FederateRecord → FederateRecord
without_transit s = record s { transit = [] }

abbrev pub all_without : (ℕ → FederateRecord) → ℕ → FederateRecord
all_without f k = without_transit (f k)

paths_without : (table : Table) (f : ℕ → FederateRecord) (j count : ℕ) → bound_by_paths table (all_without f) j count ≡ bound_by_paths table f j count
paths_without table f j zero = refl
paths_without table f j (suc count) = ap (λ x. lesser_arrival (f count).next (table count j) x) (paths_without table f j count)

connections_without : (f : ℕ → FederateRecord) (j : ℕ) (cs : List Connection) → bound_by_connections (all_without f) j cs ≡ bound_by_connections f j cs
connections_without f j [] = refl
connections_without f j (c ∷ rest) =
    ap (λ x. if nat_eq c.target j then lesser (sum_of (after_completed (f c.source).completed) c.delay) x else x) (connections_without f j rest)

bound_without : (n : Network) (table : Table) (f : ℕ → FederateRecord) (j : ℕ) → bound_of n table (all_without f) j ≡ bound_of n table f j
bound_without n table f j =
    ap (λ x. greater x (bound_by_connections (all_without f) j n.connections)) (paths_without table f j n.reactors) ∙
    ap (λ x. greater (bound_by_paths table f j n.reactors) x) (connections_without f j n.connections)

widest_without : (n : Network) (table : Table) (f : ℕ → FederateRecord) → grant_widest n table (all_without f) ≡ grant_widest n table f
widest_without n table f =
    fun_ext (λ j. ap (λ x. if is_eligible n table f j then Some (lesser (predecessor_of x) n.stop) else None) (bound_without n table f j))

-- records that differ in that alone are granted the same
pub widest_unseen : (n : Network) (table : Table) (f g : ℕ → FederateRecord) → all_without f ≡ all_without g → grant_widest n table f ≡ grant_widest n table g
widest_unseen n table f g same = sym (widest_without n table f) ∙ (ap (grant_widest n table) same ∙ widest_without n table g)

-- the posts are those of the rule's answers
posts_by : (n : Network) (table : Table) (f g : ℕ → FederateRecord) (j count : ℕ) → grant_widest n table f ≡ grant_widest n table g → grants_from n (grant_widest n table) f j count ≡ grants_from n (grant_widest n table) g j count
posts_by n table f g j zero same = refl
posts_by n table f g j (suc count) same =
    let one : grant_to n (grant_widest n table) f j ≡ grant_to n (grant_widest n table) g j =
    ap (λ r. grant_to n (λ (h : ℕ → FederateRecord). r) f j) same in
    ap (λ o. grant_post j o ++ grants_from n (grant_widest n table) f (j + 1) count) one ∙
    ap (λ rest. grant_post j (grant_to n (grant_widest n table) g j) ++ rest) (posts_by n table f g (j + 1) count same)

pub posts_unseen : (n : Network) (table : Table) (f g : ℕ → FederateRecord) (j count : ℕ) → all_without f ≡ all_without g → grants_from n (grant_widest n table) f j count ≡ grants_from n (grant_widest n table) g j count
posts_unseen n table f g j count same = posts_by n table f g j count (widest_unseen n table f g same)
