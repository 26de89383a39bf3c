-- Least delays over all paths give the two facts that the laws use.
use Rattle.std.proofs.Common.{◌≡◌, ℕ, true, List, [], ◌∷◌, refl, sym, subst, arith, Option, None, Some}
use Rattle.std.specs.Prelude.{Contains, IfSome, MatchOption}
use Rattle.tag.specs.LogicalTime.{LogicalTime, is_at_most, sum_of}
use Rattle.tag.proofs.Order.{at_most_reflexive, at_most_transitive}
use Rattle.tag.proofs.SumLaws.{sum_monotone_right}
use Rattle.network.specs.Connection.{Connection, IsPath, total_of, IsLeastDelay, IsUnreachable}
use Rattle.network.specs.Network.{Network}
use Rattle.network.specs.Lawful.{IsLawful}
use Rattle.network.specs.Tables.{Table, IsLeastTable, IsAtMostEveryPath, IsWithin}
use Rattle.network.proofs.Walks.{joined_path, total-cons}
use Rattle.network.proofs.Lawful.{plain_of, short_path}
use Rattle.network.proofs.Tables.{each_contained}

-- an entry is at most the total of every path
within_total : (connections : List Connection) (i j : ℕ) (o : Option LogicalTime) (path : List Connection) (bound : LogicalTime) → MatchOption o (IsUnreachable connections i j) (λ d. IsLeastDelay connections i j d) → IsPath connections i path j → is_at_most (total_of path) bound ≡ true → IsWithin o bound
within_total connections i j None path bound m p l = m path p
within_total connections i j (Some d) path bound m p l = at_most_transitive d (total_of path) bound (m.least path p) l

-- a connection and then a path: there is a path whose total is at most the connection's delay and then the path's total
onward_total : (n : Network) (c : Connection) (j : ℕ) (path : List Connection) → IsLawful n → Contains n.connections c → IsPath n.connections c.target path j → (longer : List Connection) × IsPath n.connections c.source longer j × (is_at_most (total_of longer) (sum_of c.delay (total_of path)) ≡ true)
onward_total n c j path lawful within p =
    let s = short_path n c.target j path lawful p in
    let few = s.few in
    let reactors = lawful.few_reactors in
    let together : total_of (c ∷ s.path) ≡ sum_of c.delay (total_of s.path) = total-cons n.connections (plain_of n lawful) c within s.path j s.is_path (omega arith) in
    let C : LogicalTime → Type 0 = λ x. is_at_most x (sum_of c.delay (total_of path)) ≡ true in
    (c ∷ s.path, joined_path n.connections c within s.path j s.is_path, subst C (sym together) (sum_monotone_right c.delay (total_of s.path) (total_of path) s.total))

onward_within : (n : Network) (table : Table) (c : Connection) (j : ℕ) (o : Option LogicalTime) → IsLawful n → IsLeastTable n table → Contains n.connections c → MatchOption o (IsUnreachable n.connections c.target j) (λ d. IsLeastDelay n.connections c.target j d) → IfSome o (λ rest. IsWithin (table c.source j) (sum_of c.delay rest))
onward_within n table c j None lawful least within m = tt
onward_within n table c j (Some d) lawful least within m =
    let longer = onward_total n c j m.attained.0 lawful within m.attained.1 in
    let P : LogicalTime → Type 0 = λ x. is_at_most (total_of longer.0) (sum_of c.delay x) ≡ true in
    within_total n.connections c.source j (table c.source j) longer.0 (sum_of c.delay d) (least c.source j) longer.1 (subst P m.attained.2 longer.2)

pub least_table_is_table : (n : Network) (table : Table) → IsLawful n → IsLeastTable n table → IsAtMostEveryPath n table
least_table_is_table n table lawful least =
    record {
      direct =
          each_contained (λ c. IsWithin (table c.source c.target) c.delay) n.connections
          (λ c within. within_total n.connections c.source c.target (table c.source c.target) (c ∷ []) c.delay (least c.source c.target) (within, refl, refl) (at_most_reflexive c.delay));
      onward =
          λ j. each_contained (λ c. IfSome (table c.target j) (λ rest. IsWithin (table c.source j) (sum_of c.delay rest))) n.connections
          (λ c within. onward_within n table c j (table c.target j) lawful least within (least c.target j));
    }
