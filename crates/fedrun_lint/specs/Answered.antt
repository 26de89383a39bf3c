-- What is printed of two named files, and whether something is wrong in them.
use Rattle.std.specs.Prelude.{ℕ, Bool, IsTrue, ◌↔◌, List, Option, None, Some, MatchOption, option_copied}
use Rattle.std.specs.Io.KnownBytes.{Appends}
use Rattle.plan.specs.declared.draft.Draft.{Draft}
use Rattle.reactor_program.specs.Behaviour.{Behaviour}
use Rattle.loadfed.specs.declared.fault.LoadFault.TheVariants.{OverLimit}
use Rattle.loadfed.specs.Loaded.{IsFederationFile}
use Rattle.fedrun_lint.specs.Reports.{IsTaken, IsFirst, IsRefused, AreRecorded, AgreesOnShape, IsReport}
use Rattle.fedrun_lint.specs.Printed.{printed_report}
use Rattle.fedrun_lint.specs.declared.printing.NamedFile.{NamedFile}
use Rattle.fedrun_lint_findings.specs.declared.refusal.Refusal.{Refusal}
use Rattle.fedrun_lint.specs.declared.report.Report.{Report}

-- a federation file is refused exactly where it is no federation; the file of recorded inputs is too long, which is its
-- fault
abbrev pub IsReportOnOne : List ℕ → Report → Type 0
IsReportOnOne federation report =
    MatchOption report.federation (IsTaken federation) (IsRefused federation) × IsFirst OverLimit report.inputs

-- of recorded inputs whose federation file is too long the shape is looked at; where they are too long too, that is
-- their fault
abbrev pub IsReportOnInputs : Option (List ℕ) → Option Refusal → Type 0
IsReportOnInputs None refused = IsFirst OverLimit refused
IsReportOnInputs (Some inputs) refused = AgreesOnShape inputs refused

-- a report on two files, of which one that is too long has no bytes here
abbrev pub IsReportOn : Option (List ℕ) → Option (List ℕ) → Report → Type 0
IsReportOn None inputs report = IsFirst OverLimit report.federation × IsReportOnInputs inputs report.inputs
IsReportOn (Some federation) None report = IsReportOnOne federation report
IsReportOn (Some federation) (Some inputs) report = IsReport federation inputs report

-- the one file is a federation, and the other records inputs of it
pub record AreTaken (federation inputs : List ℕ) : Type 0 where
  pub draft : Draft
  pub programs : List Behaviour
  pub taken : IsFederationFile federation draft programs
  pub recorded : AreRecorded draft inputs

-- nothing is wrong in two files: neither is too long, and they are taken
abbrev pub AreRight : Option (List ℕ) → Option (List ℕ) → Type 0
AreRight None inputs = ⊥
AreRight (Some federation) None = ⊥
AreRight (Some federation) (Some inputs) = AreTaken federation inputs

-- a file by its name, with its bytes; none where it is too long
pub record GivenFile : Type 0 where
  pub name : List ℕ
  pub bytes : Option (List ℕ)

abbrev pub given_file : NamedFile → GivenFile
given_file file = record { name = file.name.now; bytes = option_copied file.bytes }

-- the same where there is one
abbrev pub given_schedule : Option NamedFile → Option GivenFile
given_schedule None = None
given_schedule (Some file) = Some (given_file file)

-- a report on two files was printed, and something is said to be wrong exactly where it is
pub record PrintsReport (federation inputs : GivenFile) (is_wrong : Bool)
    (before after : Option (List ℕ)) : Type 0 where
  pub report : Report
  pub report_is : IsReportOn federation.bytes inputs.bytes report
  pub printed : Appends before after (printed_report federation.name inputs.name report)
  pub wrong : IsTrue is_wrong ↔ (¬ AreRight federation.bytes inputs.bytes)
