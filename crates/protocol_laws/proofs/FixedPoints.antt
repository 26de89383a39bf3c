-- A table of which the two facts hold is at most every path's total; so where its entries are totals of paths, they are the least delays.
use Rattle.std.proofs.Common.{ℕ, List, [], ◌∷◌, subst, Option, None, Some}
use Rattle.std.specs.Prelude.{IfSome, MatchOption}
use Rattle.std.proofs.lemmas.List.Elements.{All-contains}
use Rattle.tag.specs.LogicalTime.{LogicalTime, sum_of}
use Rattle.tag.proofs.SumLaws.{sum_monotone_right}
use Rattle.network.specs.Connection.{Connection, IsPath, total_of, IsLeastDelay, IsUnreachable}
use Rattle.network.specs.Network.{Network}
use Rattle.network.specs.Tables.{Table, IsLeastTable, IsAtMostEveryPath, IsWithin, IsTotalOfPath}
use Rattle.network.proofs.Walks.{sum_before_along}
use Rattle.network.proofs.Tables.{within_more}

within_onward : (o here : Option LogicalTime) (delay total : LogicalTime) → IsWithin o total → IfSome o (λ rest. IsWithin here (sum_of delay rest)) → IsWithin here (sum_of delay total)
within_onward None here delay total h k = absurd h
within_onward (Some d) here delay total h k = within_more here (sum_of delay d) (sum_of delay total) k (sum_monotone_right delay d total h)

pub within_path : (n : Network) (table : Table) (i j : ℕ) (path : List Connection) → IsAtMostEveryPath n table → IsPath n.connections i path j → IsWithin (table i j) (total_of path)
within_path n table i j [] t p = absurd p
within_path n table i j (c ∷ []) t p =
    let here = All-contains (λ (x : Connection). IsWithin (table x.source x.target) x.delay) n.connections c t.direct p.0 in
    let P : ℕ → Type 0 = λ x. IsWithin (table x c.target) c.delay in
    let Q : ℕ → Type 0 = λ x. IsWithin (table i x) c.delay in
    subst Q p.2 (subst P p.1 here)
within_path n table i j (c ∷ d ∷ rest) t p =
    let on = All-contains (λ (x : Connection). IfSome (table x.target j) (λ y. IsWithin (table x.source j) (sum_of x.delay y))) n.connections c (t.onward j) p.0 in
    let short = within_onward (table c.target j) (table c.source j) c.delay (total_of (d ∷ rest)) (within_path n table c.target j (d ∷ rest) t p.2) on in
    let P : ℕ → Type 0 = λ x. IsWithin (table x j) (total_of (c ∷ d ∷ rest)) in
    subst P p.1 (within_more (table c.source j) (sum_of c.delay (total_of (d ∷ rest))) (total_of (c ∷ d ∷ rest)) short (sum_before_along c.delay d.delay rest))

least_if : (connections : List Connection) (i j : ℕ) (o : Option LogicalTime) → ((path : List Connection) → IsPath connections i path j → IsWithin o (total_of path)) → IsTotalOfPath connections i j o → MatchOption o (IsUnreachable connections i j) (λ delay. IsLeastDelay connections i j delay)
least_if connections i j None within attained = within
least_if connections i j (Some d) within attained = record { attained = attained; least = within }

pub fixed_point_is_least : (n : Network) (table : Table) → IsAtMostEveryPath n table → ((i j : ℕ) → IsTotalOfPath n.connections i j (table i j)) → IsLeastTable n table
fixed_point_is_least n table t attained i j = least_if n.connections i j (table i j) (λ path p. within_path n table i j path t p) (attained i j)
