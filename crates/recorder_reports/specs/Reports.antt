-- Reports of federates: how many there are of each, and what each of them says.
use Rattle.std.specs.Prelude.{◌≡◌, ℕ, ◌<◌, ◌≤◌, nat_eq, List, [], ◌∷◌, map, find, All, Option, None, Some}
use Rattle.std.specs.List.{count_by, range_with_len}
use Rattle.network.specs.Undivided.{Row}
use Rattle.node.specs.declared.event.Event.{Event}
use Rattle.recorder_reports.specs.declared.report.Report.{Report}
use Rattle.recorder_reports.specs.declared.report_fault.ReportFault.{ReportFault}
use Rattle.recorder_reports.specs.declared.report_fault.ReportFault.TheVariants as fault
use Rattle.recorder_reports.specs.declared.unproved.Unproved.{Unproved}
use Rattle.recorder_reports.specs.declared.unproved.Unproved.TheVariants.{Stranger, Double, Missing, Stuck, Mismatch}
use Rattle.recorder_reports.specs.declared.unproved.Unproved.TheVariants.{Memory}

-- how many reports of federate j there are
abbrev pub how_many : List Report → ℕ → ℕ
how_many reports j = count_by (λ report. nat_eq report.federate j) reports

-- each report is of one of this many federates
abbrev pub AreKnown : (count : ℕ) → List Report → Type 0
AreKnown count reports = All (λ report. report.federate < count) reports

-- none of this many federates has two
abbrev pub AreSingle : (count : ℕ) → List Report → Type 0
AreSingle count reports = (j : ℕ) → j < count → how_many reports j ≤ 1

-- each of this many federates has one report, and nobody else has any
pub record AreComplete (count : ℕ) (reports : List Report) : Type 0 where
  pub known : AreKnown count reports
  pub each : (j : ℕ) → j < count → how_many reports j ≡ 1

-- a federate has two reports
abbrev pub HasDouble : (count : ℕ) → List Report → Type 0
HasDouble count reports = (j : ℕ) × (j < count) × (2 ≤ how_many reports j)

-- federate j has no report, and each one before it has one
pub record IsFirstMissing (count : ℕ) (reports : List Report) (j : ℕ) : Type 0 where
  pub there : j < count
  pub none : how_many reports j ≡ 0
  pub earlier : (k : ℕ) → k < j → 1 ≤ how_many reports k

-- why reports aren't complete, as it is answered
abbrev pub IsIncomplete : (count : ℕ) → List Report → Unproved → Type 0
IsIncomplete count reports Stranger = ¬ AreKnown count reports
IsIncomplete count reports Double = AreKnown count reports × HasDouble count reports
IsIncomplete count reports (Missing j) =
    AreKnown count reports × AreSingle count reports × IsFirstMissing count reports j
IsIncomplete count reports (Stuck node event) = ⊥
IsIncomplete count reports (Mismatch j row) = ⊥
IsIncomplete count reports Memory = ⊥

-- federate j's report, if it has one: the first one
abbrev pub report_of : List Report → ℕ → Option Report
report_of reports j = find (λ report. nat_eq report.federate j) reports

-- the rows of a report, if there is one
abbrev pub rows_of : Option Report → List Row
rows_of None = []
rows_of (Some report) = report.rows

-- its journal
abbrev pub journal_of : Option Report → List Event
journal_of None = []
journal_of (Some report) = report.journal

-- the rows that federate j reports: no row where it has no report
abbrev pub reported_rows : List Report → ℕ → List Row
reported_rows reports j = rows_of (report_of reports j)

-- all journals: the coordinator's, then those of this many federates by number
abbrev pub all_journals : (count : ℕ) → List Report → (coordinator : List Event) → List (List Event)
all_journals count reports coordinator =
    coordinator ∷ map (λ j. journal_of (report_of reports j)) (range_with_len 0 count)

-- a collector: how many federates there are, and the reports so far, oldest first
pub record Collecting : Type 0 where
  pub count : ℕ
  pub reports : List Report

-- a report is the first one of a federate that is there
abbrev pub IsFirst : Collecting → Report → Type 0
IsFirst c report = (report.federate < c.count) × (how_many c.reports report.federate ≡ 0)

-- why a report isn't taken
abbrev pub IsRefusedFor : Collecting → Report → ReportFault → Type 0
IsRefusedFor c report fault.Stranger = c.count ≤ report.federate
IsRefusedFor c report fault.Double = (report.federate < c.count) × (1 ≤ how_many c.reports report.federate)
IsRefusedFor c report fault.Memory = IsFirst c report
