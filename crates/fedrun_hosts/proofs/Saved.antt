-- A report that was saved, once its name was reserved; and what a node leaves that read its two files.
use Rattle.std.proofs.Common.{◌≡◌, ◌≢◌, ℕ, Bool, List, Option, None, Some, sym, subst}
use Rattle.plan.specs.Federation.{federate_number}
use Rattle.fedrun_files.specs.Contents.{Contents}
use Rattle.fedrun_files.specs.declared.reading.Sources.{Sources}
use Rattle.fedrun_files.specs.Digests.{AreDigestsOf}
use Rattle.fedrun_files.specs.Loaded.{input_file, AreSources}
use Rattle.files_saving.specs.Contents.{Contents as Saved, KnownOf}
use Rattle.files_saving.specs.Saved.{IsReserved, IsSaved}
use Rattle.files_saving.proofs.Reserved.{saved_where_reserved}
use Rattle.files_reports.specs.declared.file_digests.FileDigests.{FileDigests}
use Rattle.files_reports.specs.declared.layout.TheConstants.{COORDINATOR}
use Rattle.files_reports.specs.Said.{Said, by_coordinator, by_federate}
use Rattle.files_reports.specs.File.{IsReportOf}
use Rattle.files_keeping.specs.declared.machine.KeptBy.{KeptBy}
use Rattle.files_logs.specs.declared.log.Log.{Log}
use Rattle.fedrun_hosts.specs.declared.request.NodeRequest.{NodeRequest}
use Rattle.fedrun_hosts.specs.Ended.{SavesReport, SavesCoordinator, KeepsCoordinator, SavesFederate, KeepsFederate, ByLog, HasCoordinated, HasJoined, IsSavedAs, SavesOwn, SavesFinished, EndsFinished}
use Rattle.fedrun_hosts.specs.EndedLogs.{EndsLog, head_of}
use Rattle.fedrun_hosts.specs.Note.{note}

pub saved_as : (digests : FileDigests) (said : Said) (temporary given name : List ℕ) (before reserved after : Option Saved) → given ≡ temporary → temporary ≢ name → KnownOf before reserved (IsReserved temporary name note) →
    (bytes : List ℕ) × IsReportOf digests said bytes × KnownOf reserved after (IsSaved given name bytes) → IsSavedAs digests said name before after
saved_as digests said temporary given name before reserved after same other is_reserved (bytes, spelled, saved) =
    (bytes, spelled, saved_where_reserved temporary name note bytes other before reserved after is_reserved (subst (λ (t : List ℕ). KnownOf reserved after (IsSaved t name bytes)) same saved))

-- a node that read its two files, and saved this
saves_report : (contents : Contents) (n : NodeRequest) (sources : Sources) (digests : FileDigests) (said : Said) (before after : Option Saved) →
    AreSources (contents n.federation.now) (input_file contents n.inputs.now) sources → AreDigestsOf (contents n.federation.now) (input_file contents n.inputs.now) digests.federation digests.inputs → IsSavedAs digests said n.report.now before after → SavesReport contents n said before after
saves_report contents n sources digests said before after sources_are are (bytes, spelled, saved) = record {
  sources = sources;
  sources_are = sources_are;
  digests = digests;
  digests_are = are;
  bytes = bytes;
  spelled = spelled;
  saved = saved;
}

-- of a node that keeps no log the one holds, of one that does the other
by_report : (Reports Logs : Type 0) (kept_by : Option KeptBy) → kept_by ≡ None → Reports → ByLog kept_by Reports Logs
by_report Reports Logs kept_by none saves = subst (λ k. ByLog k Reports Logs) (sym none) saves

by_log : (Reports Logs : Type 0) (kept_by : Option KeptBy) (by : KeptBy) → kept_by ≡ Some by → Logs → ByLog kept_by Reports Logs
by_log Reports Logs kept_by by some keeps = subst (λ k. ByLog k Reports Logs) (sym some) keeps

module _ (contents : Contents) (known : Bool) (Holds : List ℕ → List ℕ → Type 0) (n : NodeRequest) (sources : Sources) (digests : FileDigests) (before after : Option Saved)
    (sources_are : AreSources (contents n.federation.now) (input_file contents n.inputs.now) sources)
    (are : AreDigestsOf (contents n.federation.now) (input_file contents n.inputs.now) digests.federation digests.inputs) where
  -- it coordinated without a log
  pub coordinated_by_report : n.log ≡ None → SavesFinished sources digests n.report.now before after → HasCoordinated contents known Holds n before after
  unfolding saves_report
  coordinated_by_report none s =
      let saves : SavesCoordinator contents n before after = record {
        journal = s.journal;
        saves = saves_report contents n sources digests (by_coordinator s.journal) before after sources_are are s.saved;
        finished = s.finished;
      } in
      by_report (SavesCoordinator contents n before after) (KeepsCoordinator contents known Holds n before after) n.log none saves

  -- with a log
  pub coordinated_by_log : (by : KeptBy) → n.log ≡ Some by → EndsFinished known Holds sources (head_of digests COORDINATOR) n.report.now before after → HasCoordinated contents known Holds n before after
  coordinated_by_log by some e =
      let keeps : KeepsCoordinator contents known Holds n before after = record {
        log = e.log;
        keeps = record { sources = sources; sources_are = sources_are; digests = digests; digests_are = are; ends = e.ends };
        finished = e.finished;
      } in
      by_log (SavesCoordinator contents n before after) (KeepsCoordinator contents known Holds n before after) n.log by some keeps

  -- it joined without a log
  pub joined_by_report : (name : List ℕ) (federate : ℕ) → federate_number sources.plan.federates name ≡ Some federate → n.log ≡ None → SavesOwn sources digests federate n.report.now before after → HasJoined contents known Holds n name before after
  unfolding saves_report
  joined_by_report name federate named none s =
      let saves : SavesFederate contents n name before after = record {
        federate = federate;
        rows = s.rows;
        journal = s.journal;
        saves = saves_report contents n sources digests (by_federate federate s.rows s.journal) before after sources_are are s.saved;
        named = named;
        rows_are = s.rows_are;
      } in
      by_report (SavesFederate contents n name before after) (KeepsFederate contents known Holds n name before after) n.log none saves

  -- with a log
  pub joined_by_log : (name : List ℕ) (federate : ℕ) → federate_number sources.plan.federates name ≡ Some federate → (by : KeptBy) → n.log ≡ Some by → (log : Log) × EndsLog known Holds (head_of digests federate) n.report.now before after log →
      HasJoined contents known Holds n name before after
  joined_by_log name federate named by some (log, e) =
      let keeps : KeepsFederate contents known Holds n name before after = record {
        federate = federate;
        log = log;
        keeps = record { sources = sources; sources_are = sources_are; digests = digests; digests_are = are; ends = e };
        named = named;
      } in
      by_log (SavesFederate contents n name before after) (KeepsFederate contents known Holds n name before after) n.log by some keeps
