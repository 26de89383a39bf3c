-- Traces that are consistent: each reactor took the turns that the trace itself calls for, as far as it is settled.
use Rattle.std.specs.Prelude.{◌≡◌, ℕ, ◌<◌, Bool, List, All, IsTrue}
use Rattle.tag.specs.LogicalTime.{LogicalTime, IsFinite, is_before, is_at_most, sum_of}
use Rattle.network.specs.Network.{Network}
use Rattle.network_laws.specs.History.{Turn, HasRisingTags, has_turn_at}
use Rattle.network_laws.specs.Sees.{sees, SeesSomething}

-- a reactor that is there, and a tag up to stop
pub record IsInTime (n : Network) (j : ℕ) (t : LogicalTime) : Type 0 where
  pub reactor : j < n.reactors
  pub finite : IsFinite t
  pub in_time : IsTrue (is_at_most t n.stop)

-- a turn up to stop at which exactly what the reactor should see is present, and that is something
pub record IsCalledFor (n : Network) (trace : ℕ → List Turn) (reactor : ℕ) (turn : Turn) : Type 0 where
  pub place : IsInTime n reactor turn.tag
  pub present : turn.present ≡ sees n trace reactor turn.tag
  pub something : SeesSomething n trace reactor turn.tag

-- `Settled reactor tag` says that the reactor's turns up to that tag are done
pub record IsConsistent (n : Network) (trace : ℕ → List Turn) (Settled : ℕ → LogicalTime → Type 0) : Type 0 where
  -- histories rise, and have only turns that are called for and settled
  pub rising : (j : ℕ) → j < n.reactors → HasRisingTags (trace j)
  pub called_for : (j : ℕ) → j < n.reactors → All (IsCalledFor n trace j) (trace j)
  pub settled : (j : ℕ) → j < n.reactors → All (λ turn. Settled j turn.tag) (trace j)
  -- where it is settled, a turn that is called for was taken
  pub complete : (j : ℕ) (t : LogicalTime) → IsInTime n j t → Settled j t → SeesSomething n trace j t
      → IsTrue (has_turn_at t (trace j))
  -- what is settled is settled earlier too, of the reactor itself and along connections
  pub earlier : (j : ℕ) (s t : LogicalTime) → IsTrue (is_before s t) → Settled j t → Settled j s
  pub along : (s : LogicalTime) → IsFinite s
      → All (λ c. IsTrue (is_at_most (sum_of s c.delay) n.stop) → Settled c.target (sum_of s c.delay)
      → Settled c.source s) n.connections

-- where a test passes
abbrev pub Where : (ℕ → LogicalTime → Bool) → ℕ → LogicalTime → Type 0
Where test reactor tag = IsTrue (test reactor tag)
