-- Ports with two sources.
use Rattle.std.specs.Prelude.{◌≡◌, ℕ, ◌<◌, List, length, slice_index_or}
use Rattle.network.specs.Connection.{Connection}

-- the later connection goes to a port to which an earlier one goes
pub record EndsTwice (connections : List Connection) (later : ℕ) : Type 0 where
  pub first : ℕ
  pub in_order : first < later
  pub there : later < length connections
  pub target : (d : Connection) → (slice_index_or connections first d).target
      ≡ (slice_index_or connections later d).target
  pub slot : (d : Connection) → (slice_index_or connections first d).slot ≡ (slice_index_or connections later d).slot
