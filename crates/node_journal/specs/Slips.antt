-- The slips of blocks: each event with its place.
use Rattle.std.specs.Prelude.{ℕ, suc, ◌+◌, ◌-◌, ◌<◌, ◌≤◌, ◌^◌, nat_le, if◌then◌else◌, List, [], ◌∷◌, length, slice_get}
use Rattle.std.specs.Prelude.{Option, None, Some, All}
use Rattle.std.specs.List.{flat_map}
use Rattle.node.specs.declared.event.Event.{Event}
use Rattle.node_journal.specs.declared.placed_block.PlacedBlock.{PlacedBlock}
use Rattle.node_journal.specs.declared.slip.Slip.{Slip}

-- the slips of events whose places follow one another
abbrev pub slips_from : ℕ → List Event → List Slip
slips_from place [] = []
slips_from place (event ∷ events) = record { place = place; event = event } ∷ slips_from (suc place) events

-- the slips of a block
abbrev pub slips_at : PlacedBlock → List Slip
slips_at placed = slips_from placed.place placed.block

-- the slips of blocks, one block after the other
abbrev pub slips_of : List PlacedBlock → List Slip
slips_of blocks = flat_map slips_at blocks

-- a block has an event, and the place of each is a number
pub record IsFilled (placed : PlacedBlock) : Type 0 where
  pub some : 0 < length placed.block
  pub counted : placed.place + length placed.block ≤ 2 ^ 64

-- all blocks have
abbrev pub AreFilled : List PlacedBlock → Type 0
AreFilled blocks = All IsFilled blocks

-- the event that a block has at a place
abbrev pub event_of : PlacedBlock → ℕ → Option Event
event_of placed place = if nat_le placed.place place then slice_get placed.block (place - placed.place) else None

-- the event that a block, if there is one, has at a place
abbrev pub event_if : Option PlacedBlock → ℕ → Option Event
event_if None place = None
event_if (Some placed) place = event_of placed place

-- the event that the block at a position has at a place
abbrev pub event_in : List PlacedBlock → ℕ → ℕ → Option Event
event_in blocks position place = event_if (slice_get blocks position) place
