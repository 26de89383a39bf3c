-- What a node on a machine of its own leaves. What a file holds is said where its bytes are known: `contents` says it
-- of files that are read, `before` and `after` of those on a disk; and where `known`, `Holds` of logs as the node began.
use Rattle.std.specs.Prelude.{◌≡◌, ◌⊎◌, ℕ, Bool, true, List, Option, None, Some}
use Rattle.plan.specs.Federation.{federate_number}
use Rattle.node.specs.declared.event.Event.{Event}
use Rattle.network.specs.Undivided.{Row}
use Rattle.node_cores.specs.CoordinatorCore.{coordinator_core}
use Rattle.fedrun_files.specs.Contents.{Contents}
use Rattle.fedrun_files.specs.declared.reading.Sources.{Sources}
use Rattle.fedrun_files.specs.Digests.{AreDigestsOf}
use Rattle.fedrun_files.specs.Loaded.{input_file, AreSources}
use Rattle.files_saving.specs.Contents.{Contents as Saved, KnownOf}
use Rattle.files_saving.specs.Saved.{IsCreated}
use Rattle.files_keeping.specs.declared.machine.KeptBy.{KeptBy}
use Rattle.files_reports.specs.declared.file_digests.FileDigests.{FileDigests}
use Rattle.files_reports.specs.Said.{Said, by_coordinator, by_federate}
use Rattle.files_reports.specs.File.{IsReportOf}
use Rattle.files_reports.specs.declared.layout.TheConstants.{COORDINATOR}
use Rattle.files_logs.specs.declared.log.Log.{Log}
use Rattle.files_logs.specs.declared.log_head.LogHead.{LogHead}
use Rattle.fedrun_logs.specs.declared.opening.OpenedLog.{OpenedLog}
use Rattle.fedrun_reports.specs.After.{coordinator_after, federate_after}
use Rattle.fedrun_hosts.specs.declared.request.NodeRequest.{NodeRequest}
use Rattle.fedrun_hosts.specs.EndedLogs.{EndsLog, EndsOpened, head_of}

-- the node's two files are a federation and recorded inputs of it; and there is one file more, of the report's name: it
-- is the report of a run of just these files in which this is said; no other file changed, and so no temporary one is
-- left
pub record SavesReport (contents : Contents) (n : NodeRequest) (said : Said)
    (before after : Option Saved) : Type 0 where
  pub sources : Sources
  pub sources_are : AreSources (contents n.federation.now) (input_file contents n.inputs.now) sources
  pub digests : FileDigests
  pub digests_are : AreDigestsOf (contents n.federation.now) (input_file contents n.inputs.now) digests.federation
      digests.inputs
  pub bytes : List ℕ
  pub spelled : IsReportOf digests said bytes
  pub saved : KnownOf before after (IsCreated n.report.now bytes)

-- the node's two files are a federation and recorded inputs of it, and its log of a run of just these files has its
-- end, and the report's name
pub record KeepsLog (contents : Contents) (known : Bool) (Holds : List ℕ → List ℕ → Type 0) (n : NodeRequest) (who : ℕ)
    (log : Log) (before after : Option Saved) : Type 0 where
  pub sources : Sources
  pub sources_are : AreSources (contents n.federation.now) (input_file contents n.inputs.now) sources
  pub digests : FileDigests
  pub digests_are : AreDigestsOf (contents n.federation.now) (input_file contents n.inputs.now) digests.federation
      digests.inputs
  pub ends : EndsLog known Holds (head_of digests who) n.report.now before after log

-- the one of a node that keeps no log, the other of one that does
abbrev pub ByLog : Option KeptBy → Type 0 → Type 0 → Type 0
ByLog None Reports Logs = Reports
ByLog (Some kept_by) Reports Logs = Logs

-- the coordinator of the node's own federation is finished after this journal, which is saved as its report
pub record SavesCoordinator (contents : Contents) (n : NodeRequest) (before after : Option Saved) : Type 0 where
  pub journal : List Event
  pub saves : SavesReport contents n (by_coordinator journal) before after
  pub finished : coordinator_core.finished (coordinator_after saves.sources.plan journal) ≡ true

-- the coordinator of the node's own federation is finished after the journal of its log
pub record KeepsCoordinator (contents : Contents) (known : Bool) (Holds : List ℕ → List ℕ → Type 0) (n : NodeRequest)
    (before after : Option Saved) : Type 0 where
  pub log : Log
  pub keeps : KeepsLog contents known Holds n COORDINATOR log before after
  pub finished : coordinator_core.finished (coordinator_after keeps.sources.plan log.journal) ≡ true

-- it is finished by its report, or where it keeps one, by its log
abbrev pub HasCoordinated : Contents → Bool → (List ℕ → List ℕ → Type 0) → NodeRequest → Option Saved → Option Saved
    → Type 0
HasCoordinated contents known Holds n before after =
    ByLog n.log (SavesCoordinator contents n before after) (KeepsCoordinator contents known Holds n before after)

-- a journal of the federate of this name, in the node's own federation, is saved as its report, with the rows that this
-- federate makes by it
pub record SavesFederate (contents : Contents) (n : NodeRequest) (name : List ℕ)
    (before after : Option Saved) : Type 0 where
  pub federate : ℕ
  pub rows : List Row
  pub journal : List Event
  pub saves : SavesReport contents n (by_federate federate rows journal) before after
  pub named : federate_number saves.sources.plan.federates name ≡ Some federate
  pub rows_are : rows ≡ (federate_after saves.sources federate journal).federate.rows

-- the log of the federate of this name, in the node's own federation, has its end
pub record KeepsFederate (contents : Contents) (known : Bool) (Holds : List ℕ → List ℕ → Type 0) (n : NodeRequest)
    (name : List ℕ) (before after : Option Saved) : Type 0 where
  pub federate : ℕ
  pub log : Log
  pub keeps : KeepsLog contents known Holds n federate log before after
  pub named : federate_number keeps.sources.plan.federates name ≡ Some federate

-- a federate has heard that the run is finished, and left its report, or where it keeps one, its log
abbrev pub HasJoined : Contents → Bool → (List ℕ → List ℕ → Type 0) → NodeRequest → List ℕ → Option Saved
    → Option Saved → Type 0
HasJoined contents known Holds n name before after =
    ByLog n.log (SavesFederate contents n name before after) (KeepsFederate contents known Holds n name before after)

-- this is said in a report of a run of these files, which is saved under this name
abbrev pub IsSavedAs : FileDigests → Said → List ℕ → Option Saved → Option Saved → Type 0
IsSavedAs digests said name before after =
    (bytes : List ℕ) × IsReportOf digests said bytes × KnownOf before after (IsCreated name bytes)

-- a federate's own journal, of a node that was given this, is saved with the rows that it makes by it
pub record SavesOwn (sources : Sources) (digests : FileDigests) (federate : ℕ) (name : List ℕ)
    (before after : Option Saved) : Type 0 where
  pub rows : List Row
  pub journal : List Event
  pub saved : IsSavedAs digests (by_federate federate rows journal) name before after
  pub rows_are : rows ≡ (federate_after sources federate journal).federate.rows

-- a journal of the coordinator's, of a node that was given this, is saved, by which it is finished
pub record SavesFinished (sources : Sources) (digests : FileDigests) (name : List ℕ)
    (before after : Option Saved) : Type 0 where
  pub journal : List Event
  pub saved : IsSavedAs digests (by_coordinator journal) name before after
  pub finished : coordinator_core.finished (coordinator_after sources.plan journal) ≡ true

-- the coordinator of a node that was given this is finished after the journal of its log
pub record EndsFinished (known : Bool) (Holds : List ℕ → List ℕ → Type 0) (sources : Sources) (head : LogHead)
    (name : List ℕ) (before after : Option Saved) : Type 0 where
  pub log : Log
  pub ends : EndsLog known Holds head name before after log
  pub finished : coordinator_core.finished (coordinator_after sources.plan log.journal) ≡ true

-- the same of one that goes on
pub record GoesOnFinished {V : Type 0} (known : Bool) (synced : V → List ℕ) (sources : Sources) (head : LogHead)
    (name : List ℕ) (opened : OpenedLog V) (before after : Option Saved) : Type 0 where
  pub log : Log
  pub ends : EndsOpened known synced head name opened before after log
  pub finished : coordinator_core.finished (coordinator_after sources.plan log.journal) ≡ true

-- for some node it is so, the coordinator or a federate of some name
abbrev pub HasEnded : Contents → Bool → (List ℕ → List ℕ → Type 0) → Option Saved → Option Saved → Type 0
HasEnded contents known Holds before after =
    (n : NodeRequest) × (HasCoordinated contents known Holds n before after ⊎ (name : List ℕ)
    × HasJoined contents known Holds n name before after)
