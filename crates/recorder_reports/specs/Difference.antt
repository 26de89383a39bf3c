-- Where two lists of rows differ.
use Rattle.std.specs.Prelude.{◌≡◌, ◌≢◌, ℕ, ◌+◌, ◌<◌, List, slice_get}
use Rattle.network.specs.Undivided.{Row}

-- the first place, counted from 1, at which they differ. Where one is a prefix of the other, it is the place after the
-- shorter one
pub record DifferAt (rows others : List Row) (place : ℕ) : Type 0 where
  pub before : ℕ
  pub counted : place ≡ before + 1
  pub same : (k : ℕ) → k < before → slice_get rows k ≡ slice_get others k
  pub apart : slice_get rows before ≢ slice_get others before
