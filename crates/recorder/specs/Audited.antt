-- What an audit answers.
use Rattle.std.specs.Prelude.{◌≡◌, ◌↔◌, ℕ, ◌<◌, true, List, []}
use Rattle.network.specs.Undivided.{whole, part}
use Rattle.network_laws.specs.Settled.{BeginsWith}
use Rattle.protocol_laws.specs.Rows.{HasEveryRow}
use Rattle.plan.specs.declared.draft.Draft.{Draft}
use Rattle.plan.specs.declared.input.Input.{Input}
use Rattle.plan.specs.Federation.{federate_count}
use Rattle.reactor_program.specs.Behaviour.{Behaviour}
use Rattle.plan_network.specs.Network.{network_of}
use Rattle.node.specs.declared.event.Event.{Event}
use Rattle.desk.specs.Replay as replayed
use Rattle.node_cores.specs.CoordinatorCore.{coordinator_core}
use Rattle.world_stations.specs.declared.step.Step.{Step}
use Rattle.world_stations.specs.Federation.{initial_world, rows_in}
use Rattle.recorder_search.specs.Journals.{Agrees, IsStuck, IsFound}
use Rattle.recorder_search.specs.declared.found.Found.{Found}
use Rattle.world.specs.World.{WorldView, stations_of}
use Rattle.recorder.specs.declared.audited_run.AuditedRun.{AuditedRun}
use Rattle.recorder_reports.specs.declared.report.Report.{Report}
use Rattle.recorder_reports.specs.declared.unproved.Unproved.{Unproved}
use Rattle.recorder_reports.specs.declared.unproved.Unproved.TheVariants.{Stranger, Double, Missing, Stuck, Mismatch}
use Rattle.recorder_reports.specs.declared.unproved.Unproved.TheVariants.{Memory}
use Rattle.recorder_reports.specs.Reports.{reported_rows, all_journals, AreComplete, IsIncomplete}
use Rattle.recorder.specs.Placing.{world_motion}
use Rattle.recorder_reports.specs.Difference.{DifferAt}

-- what is audited: a federation, its federates' reports, and the coordinator's journal
pub record Claim : Type 0 where
  pub draft : Draft
  pub programs : List Behaviour
  pub inputs : List Input
  pub reports : List Report
  pub coordinator : List Event

-- the federation's world after these steps
abbrev pub world_of : Claim → List Step → WorldView
world_of c steps = record { draft = c.draft; programs = c.programs; inputs = c.inputs; steps = steps }

-- what is claimed of the federation of a world
abbrev pub claim_of : WorldView → List Report → List Event → Claim
claim_of w reports coordinator =
    record { draft = w.draft; programs = w.programs; inputs = w.inputs; reports = reports; coordinator = coordinator }

-- a search for the journals of a claim ended so, in this world
abbrev pub HasSearched : Claim → WorldView → Found → Type 0
HasSearched c w found =
    IsFound world_motion (world_of c []) (all_journals (federate_count c.draft) c.reports c.coordinator) w found

-- each node's events are its journal, where these steps are made one after the other from the initial world, and nobody
-- forgets
abbrev pub AgreesWith : Claim → List Step → Type 0
AgreesWith c steps =
    Agrees world_motion (world_of c []) steps (all_journals (federate_count c.draft) c.reports c.coordinator)

-- the rows that federate j has in a world are those that it reports
abbrev pub HasReportedRows : WorldView → List Report → ℕ → Type 0
HasReportedRows w reports j = reported_rows reports j ≡ rows_in (stations_of w) j

-- federate j is the first one whose rows in a world aren't those that it reports: they differ at this row
pub record IsFirstApart (w : WorldView) (reports : List Report) (j row : ℕ) : Type 0 where
  pub there : j < federate_count w.draft
  pub earlier : (k : ℕ) → k < j → HasReportedRows w reports k
  pub differ : DifferAt (reported_rows reports j) (rows_in (stations_of w) j) row

-- the coordinator's journal, replayed from its initial state, gives a coordinator that says that all is finished
abbrev pub IsFinishedBy : Claim → Type 0
IsFinishedBy c =
    coordinator_core.finished (replayed.after_all coordinator_core true
    (initial_world c.draft c.programs c.inputs).coordinator c.coordinator).node ≡ true

-- the reports are proved by these steps:
pub record IsProvedBy (c : Claim) (steps : List Step) : Type 0 where
  -- each federate has one report, and nobody else has any
  pub complete : AreComplete (federate_count c.draft) c.reports
  -- nobody forgets, and each node's events are its journal, in order
  pub agrees : AgreesWith c steps
  -- each federate's rows there are those that it reports
  pub rows : (j : ℕ) → j < federate_count c.draft → HasReportedRows (world_of c steps) c.reports j
  -- they are a prefix of its part of what the undivided program computes
  pub prefix : (j : ℕ) → j < federate_count c.draft →
      (turns : ℕ) × BeginsWith (part j (whole (network_of c.draft c.programs c.inputs) turns))
      (reported_rows c.reports j)
  -- and where the coordinator's journal gives a finished one, none of them is missing
  pub whole_run : IsFinishedBy c → (j : ℕ) → j < federate_count c.draft →
      HasEveryRow (network_of c.draft c.programs c.inputs) j (reported_rows c.reports j)

-- an audit ended well: its steps prove the reports, and it tells whether the coordinator's journal gives a finished one
pub record HasEnded (c : Claim) (audited : AuditedRun) : Type 0 where
  pub proved : IsProvedBy c audited.steps.steps
  pub finished : (audited.is_finished ≡ true) ↔ IsFinishedBy c

-- these steps agree with all journals, and federate j is the first one whose rows there aren't those that it reports
pub record IsMismatch (c : Claim) (steps : List Step) (j row : ℕ) : Type 0 where
  pub agrees : AgreesWith c steps
  pub apart : IsFirstApart (world_of c steps) c.reports j row

-- why an audit doesn't believe its reports; the later ones are answered of complete reports alone
abbrev pub IsUnproved : Claim → Unproved → Type 0
IsUnproved c Stranger = IsIncomplete (federate_count c.draft) c.reports Stranger
IsUnproved c Double = IsIncomplete (federate_count c.draft) c.reports Double
IsUnproved c (Missing j) = IsIncomplete (federate_count c.draft) c.reports (Missing j)
IsUnproved c (Stuck node event) =
    AreComplete (federate_count c.draft) c.reports
    × ((steps : List Step) × IsStuck world_motion (world_of c []) steps
    (all_journals (federate_count c.draft) c.reports c.coordinator) node event)
IsUnproved c (Mismatch j row) =
    AreComplete (federate_count c.draft) c.reports × ((steps : List Step) × IsMismatch c steps j row)
IsUnproved c Memory = AreComplete (federate_count c.draft) c.reports
