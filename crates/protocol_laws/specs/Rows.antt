-- The rows that runs of the machine leave.
use Rattle.std.specs.Prelude.{ℕ, List, filter}
use Rattle.tag.specs.LogicalTime.{LogicalTime, is_at_most}
use Rattle.network.specs.Network.{Network}
use Rattle.network.specs.Undivided.{Row, whole, part}
use Rattle.network_laws.specs.Settled.{BeginsWith}
use Rattle.protocol.specs.Grant.{Rule}
use Rattle.protocol.specs.Machine.{Move, after_moves}

-- a federate's rows after these moves
abbrev pub rows_of_run : Network → (ℕ → Rule) → List Move → ℕ → List Row
rows_of_run n rules moves j = (after_moves n rules moves j).federate.rows

-- the rows up to a tag
abbrev pub rows_up_to : LogicalTime → List Row → List Row
rows_up_to tag rows = filter (λ row. is_at_most row.tag tag) rows

-- none of reactor j's rows of the undivided program is missing, after however many turns
abbrev pub HasEveryRow : Network → ℕ → List Row → Type 0
HasEveryRow n j rows = (turns : ℕ) → BeginsWith rows (part j (whole n turns))
