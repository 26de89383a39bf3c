-- Zero-delay cycles, and the tree by which one is found.
use Rattle.std.specs.Prelude.{◌≡◌, ◌≢◌, ℕ, ◌≤◌, ◌⊎◌, List, [], ◌∷◌, All, AllPairs, Any, IsTrue}
use Rattle.tag.specs.LogicalTime.{origin}
use Rattle.network.specs.Connection.{Connection, IsPath, total_of}
use Rattle.plan_paths.specs.Levels.{is_zero_delay}

-- there is no zero-delay path from this federate to itself
abbrev pub HasNoCycleAt : List Connection → ℕ → Type 0
HasNoCycleAt connections start =
    (path : List Connection) → IsPath connections start path start → total_of path ≡ origin → ⊥

-- there is no zero-delay path from any federate to itself
abbrev pub HasNoZeroDelayCycle : List Connection → Type 0
HasNoZeroDelayCycle connections = (federate : ℕ) → HasNoCycleAt connections federate

-- a zero-delay path, of which no two connections begin at one federate
pub record IsSimpleZeroDelayPath (connections : List Connection) (start : ℕ) (path : List Connection)
    (goal : ℕ) : Type 0 where
  pub is_path : IsPath connections start path goal
  pub zero_delay : total_of path ≡ origin
  pub apart : AllPairs (λ c d. c.source ≢ d.source) path

-- such a path from a federate to itself, which is its lowest
pub record IsCycleFrom (connections : List Connection) (start : ℕ) (path : List Connection) : Type 0 where
  pub way : IsSimpleZeroDelayPath connections start path start
  pub lowest : All (λ c. start ≤ c.source) path

-- one of these connections begins at the federate
abbrev pub IsSource : List Connection → ℕ → Type 0
IsSource connections federate = Any (λ c. c.source ≡ federate) connections

-- the federate is the root, or one of the tree begins there
abbrev pub IsReached : ℕ → List Connection → ℕ → Type 0
IsReached root tree federate = (federate ≡ root) ⊎ IsSource tree federate

-- a zero-delay connection to the root or to where one of the tree begins, from where none of the tree does
pub record JoinsTree (root : ℕ) (tree : List Connection) (c : Connection) : Type 0 where
  pub zero_delay : IsTrue (is_zero_delay c)
  pub onward : IsReached root tree c.target
  pub apart : ¬ IsSource tree c.source

-- connections, the newest first, each of which joins the tree of those before it
abbrev pub IsTree : ℕ → List Connection → Type 0
IsTree root [] = Unit {0}
IsTree root (c ∷ older) = JoinsTree root older c × IsTree root older
