-- What is written of events that came, and why it isn't.
use Rattle.std.specs.Prelude.{ℕ, ◌<◌, Bool, List, [], ◌∷◌, length}
use Rattle.node.specs.declared.event.Event.{Event}
use Rattle.files_logs.specs.declared.layout.TheConstants.{MOST_SAID}
use Rattle.files_logs.specs.declared.item.Item.{Item}
use Rattle.files_logs.specs.declared.write_fault.LogWriteFault.{LogWriteFault}
use Rattle.files_logs.specs.declared.write_fault.LogWriteFault.TheVariants.{TooLong, Memory}
use Rattle.files_logs.specs.Items.{items_bytes, items_for}

-- one block, or none where there is nothing to say
abbrev pub blocks_of : List Item → List (List Item)
blocks_of [] = []
blocks_of (item ∷ items) = (item ∷ items) ∷ []

-- the blocks that say that these events came, and if so, behind them, that the run is finished
abbrev pub blocks_for : List Event → Bool → List (List Item)
blocks_for events told = blocks_of (items_for events told)

-- why they aren't written: they take too many bytes for a block, or there is no memory
abbrev pub IsWriteFault : List Event → Bool → LogWriteFault → Type 0
IsWriteFault events told TooLong = MOST_SAID < length (items_bytes (items_for events told))
IsWriteFault events told Memory = Unit {0}
