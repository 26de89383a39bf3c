-- Tables of least delays.
use Rattle.std.specs.Prelude.{◌≡◌, ℕ, List, All, IsTrue, Option, None, Some, IfSome, MatchOption}
use Rattle.tag.specs.LogicalTime.{LogicalTime, is_at_most, sum_of}
use Rattle.network.specs.Connection.{Connection, IsPath, total_of, IsLeastDelay, IsUnreachable}
use Rattle.network.specs.Network.{Network}
use Rattle.network.specs.Lawful.{IsLawful}

-- delays from one reactor to another; none where there is no path
abbrev pub Table : Type 0
Table = ℕ → ℕ → Option LogicalTime

-- each entry is the least delay over all paths; none where there is no path
abbrev pub IsLeastTable : Network → Table → Type 0
IsLeastTable n table =
    (i j : ℕ) → MatchOption (table i j) (IsUnreachable n.connections i j) (IsLeastDelay n.connections i j)

-- if there is a delay, some path from i to j has it as its total
abbrev pub IsTotalOfPath : List Connection → ℕ → ℕ → Option LogicalTime → Type 0
IsTotalOfPath connections i j None = Unit {0}
IsTotalOfPath connections i j (Some delay) =
    (path : List Connection) × IsPath connections i path j × (total_of path ≡ delay)

-- there is a delay, and it is at most this one
abbrev pub IsWithin : Option LogicalTime → LogicalTime → Type 0
IsWithin None bound = ⊥
IsWithin (Some delay) bound = IsTrue (is_at_most delay bound)

-- two facts, which say by single connections that no entry is more than the total of a path. Over one connection the
-- entry is at most its delay. Where a connection leads to a path, the entry from its beginning is at most its delay and
-- then the entry of the path
pub record IsAtMostEveryPath (n : Network) (table : Table) : Type 0 where
  pub direct : All (λ c. IsWithin (table c.source c.target) c.delay) n.connections
  pub onward : (j : ℕ) → All (λ c.
      IfSome (table c.target j) (λ rest. IsWithin (table c.source j) (sum_of c.delay rest))) n.connections

-- a lawful network with a table of its least delays. That `facts` follows from `least`, the law `least_delays_suffice`
-- says. It is kept here since most laws go by it alone
pub record IsLawfulWith (n : Network) (table : Table) : Type 0 where
  pub lawful : IsLawful n
  pub least : IsLeastTable n table
  pub facts : IsAtMostEveryPath n table
