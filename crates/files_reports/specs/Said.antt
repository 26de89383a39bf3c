-- What a node says that it did in a run, and what of that has a spelling: all that a program can say, but for two
-- things. A federate's number is below that which stands for the coordinator, and its rows are its own.
use Rattle.std.specs.Prelude.{◌≡◌, ℕ, ◌^◌, ◌<◌, List, length, All, FitsSigned}
use Rattle.std.specs.List.{AllByRecursion}
use Rattle.std.specs.Int.{w64}
use Rattle.tag.specs.LogicalTime.{IsLogicalTime}
use Rattle.network.specs.Event.{Entry}
use Rattle.network.specs.Undivided.{Row}
use Rattle.signal.specs.Frame.{IsFrame}
use Rattle.node.specs.declared.event.Event.{Event}
use Rattle.node.specs.declared.event.Event.TheVariants.{Frame, Resend, Hello, Announce, Advance}
use Rattle.files_reports.specs.declared.layout.TheConstants.{COORDINATOR}
use Rattle.files_reports.specs.declared.node_report.NodeReport.{NodeReport}
use Rattle.files_reports.specs.declared.node_report.NodeReport.TheVariants.{Coordinator, Federate}

-- the coordinator says which events came to it; a federate says which rows it made too
pub data Said : Type 0 where
  by_coordinator : (journal : List Event) → Said
  by_federate : (federate : ℕ) → (rows : List Row) → (journal : List Event) → Said

-- what a report of the program says
abbrev pub said_in : NodeReport → Said
said_in (Coordinator journal) = by_coordinator journal
said_in (Federate report) = by_federate report.federate report.rows report.journal

-- the rows are those of the federate that reports them, and its number isn't the coordinator's
abbrev pub IsOwn : Said → Type 0
IsOwn (by_coordinator journal) = Unit {0}
IsOwn (by_federate federate rows journal) = (federate < COORDINATOR) × All (λ row. row.reactor ≡ federate) rows

-- few enough for a count of eight bytes, each of them such a one
abbrev pub AreCounted : {X : Type 0} → (X → Type 0) → List X → Type 0
AreCounted Is xs = (length xs < 2 ^ 64) × AllByRecursion Is xs

-- this many, each of them such a one
abbrev pub AreSoMany : {X : Type 0} → (X → Type 0) → ℕ → List X → Type 0
AreSoMany Is n xs = (length xs ≡ n) × AllByRecursion Is xs

-- an entry of a row
pub record IsEntry (entry : Entry) : Type 0 where
  pub place : entry.place < 2 ^ 64
  pub value : FitsSigned w64 entry.value

-- a row of this federate
pub record IsRowOf (federate : ℕ) (row : Row) : Type 0 where
  pub own : row.reactor ≡ federate
  pub tag : IsLogicalTime row.tag
  pub inputs : AreCounted IsEntry row.inputs
  pub outputs : AreCounted IsEntry row.outputs

-- an event of a journal
abbrev pub IsEvent : Event → Type 0
IsEvent (Frame peer frame) = (peer < 2 ^ 64) × IsFrame frame
IsEvent (Resend peer) = peer < 2 ^ 64
IsEvent (Hello peer) = peer < 2 ^ 64
IsEvent Announce = Unit {0}
IsEvent Advance = Unit {0}

-- what has a spelling
abbrev pub IsSaid : Said → Type 0
IsSaid (by_coordinator journal) = AreCounted IsEvent journal
IsSaid (by_federate federate rows journal) =
    (federate < COORDINATOR) × AreCounted (IsRowOf federate) rows × AreCounted IsEvent journal
