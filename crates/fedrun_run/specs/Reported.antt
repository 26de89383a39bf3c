-- What the nodes of a finished run report.
use Rattle.std.specs.Prelude.{◌≡◌, ℕ, Bool, true, false, List, length, slice_get, Option, Some}
use Rattle.node.specs.declared.event.Event.{Event}
use Rattle.node.specs.Core.{Core}
use Rattle.node_cores.specs.FederateCore.{FederateNode, federate_core}
use Rattle.node_cores.specs.CoordinatorCore.{coordinator_core}
use Rattle.desk.specs.Replay.{Desk, replay}
use Rattle.recorder_reports.specs.declared.report.Report.{Report}
use Rattle.wires.specs.declared.threads.RunResults.{RunResults}
use Rattle.wires.specs.Gathered.{AreGathered}

-- a desk's station is the replay of its journal
abbrev pub StationIsReplay : {View Row : Type 0} → Core View Row → (is_coordinator : Bool) → Desk View → Type 0
StationIsReplay core is_coordinator desk = desk.station ≡ replay core is_coordinator desk.station desk.journal

-- federate j's report says what its desk has: the rows that its node tells, and the journal that its station is the
-- replay of
pub record IsReportOf {View Row : Type 0} (core : Core View Row) (is_coordinator : Bool)
    (Tells : View → Report → Type 0) (j : ℕ)
    (desk : Desk View) (report : Report) : Type 0 where
  pub federate : report.federate ≡ j
  pub rows : Tells desk.station.node report
  pub journal : report.journal ≡ desk.journal
  pub replayed : StationIsReplay core is_coordinator desk

-- one report from each federate's desk, by number
pub record AreReportsOf {View Row : Type 0} (core : Core View Row) (is_coordinator : Bool)
    (Tells : View → Report → Type 0)
    (desks : List (Desk View)) (reports : List Report) : Type 0 where
  pub count : length reports ≡ length desks
  pub each : (j : ℕ) (desk : Desk View) (report : Report) → slice_get desks j ≡ Some desk
      → slice_get reports j ≡ Some report → IsReportOf core is_coordinator Tells j desk report

-- the reports and the coordinator's journal are those of desks that were gathered from what all workers left, each
-- one's station is the replay of its journal, and the coordinator's node says that all is finished
pub record AreReported {OfCoordinator CoordinatorRow OfFederate FederateRow : Type 0}
    (of_coordinator : Core OfCoordinator CoordinatorRow) (is_coordinator : Bool)
    (of_federates : Core OfFederate FederateRow)
    (federates_coordinate : Bool) (Tells : OfFederate → Report → Type 0) (left : RunResults)
    (reports : List Report) (journal : List Event) : Type 0 where
  pub coordinator : Desk OfCoordinator
  pub federates : List (Desk OfFederate)
  pub gathered : AreGathered coordinator federates left
  pub replayed : StationIsReplay of_coordinator is_coordinator coordinator
  pub finished : of_coordinator.finished coordinator.station.node ≡ true
  pub from_coordinator : journal ≡ coordinator.journal
  pub from_federates : AreReportsOf of_federates federates_coordinate Tells federates reports

-- a federate's report has its node's rows
abbrev pub ReportsRows : FederateNode → Report → Type 0
ReportsRows node report = report.rows ≡ node.federate.rows

-- the same of a federation's own nodes, where the others are linked to the coordinator, and each federate reports its
-- node's rows
abbrev pub AreReportedBy : (left : RunResults) → List Report → (journal : List Event) → Type 0
AreReportedBy left reports journal =
    AreReported coordinator_core true federate_core false ReportsRows left reports journal
