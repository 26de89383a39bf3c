-- What a block keeps of a batch.
use Rattle.std.specs.Prelude.{ℕ, ◌+◌, ◌<◌, ◌≤◌, ◌^◌, List, length}
use Rattle.node.specs.declared.event.Event.{Event}

-- this many of a batch's events are used, and this many events of turns stand behind them
pub record IsWithin (batch : List Event) (used turns : ℕ) : Type 0 where
  pub there : used ≤ length batch
  -- their count is a number
  pub counted : used + turns < 2 ^ 64
