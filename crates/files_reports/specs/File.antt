-- A report file: eight bytes that name the format and its version, the digests of the run's two files, what a node
-- says, and last the digest of all before it.
use Rattle.std.specs.Prelude.{◌≡◌, ℕ, ◌<◌, ◌≤◌, List, ◌++◌, length, codes, Err}
use Rattle.sha2.specs.Sha256.{sha256}
use Rattle.files_reports.specs.declared.layout.TheConstants.{LONGEST_REPORT}
use Rattle.files_reports.specs.declared.file_digests.FileDigests.{FileDigests}
use Rattle.files_reports.specs.declared.read_fault.ReadFault.{ReadFault}
use Rattle.files_reports.specs.declared.read_fault.ReadFault.TheVariants.{NoReport, TooLong, CutShort, OtherFiles}
use Rattle.files_reports.specs.declared.read_fault.ReadFault.TheVariants.{Content, Memory}
use Rattle.files_reports.specs.declared.write_fault.WriteFault.{WriteFault}
use Rattle.files_reports.specs.declared.write_fault.WriteFault.TheVariants as unwritten
use Rattle.files_reports.specs.Said.{Said, IsOwn, IsSaid}
use Rattle.files_reports.specs.Spelling.{said_bytes}
use Rattle.files_reports.specs.Reading.{said_at}

-- the name of the format, with its version
abbrev pub format : List ℕ
format = codes "fedrep 1"

-- some bytes with their digest behind them
abbrev pub sealed : List ℕ → List ℕ
sealed bytes = bytes ++ sha256 bytes

-- what is said of a run of these files, before it is sealed
abbrev pub headed : FileDigests → List ℕ → List ℕ
headed files said = format ++ (files.federation ++ (files.inputs ++ said))

-- the file in which a node says this of a run of these files
abbrev pub report_bytes : FileDigests → Said → List ℕ
report_bytes files said = sealed (headed files (said_bytes said))

-- the bytes are the report file in which a node says this of a run of these files
pub record IsReportOf (files : FileDigests) (said : Said) (bytes : List ℕ) : Type 0 where
  pub is_said : IsSaid said
  pub is_file : bytes ≡ report_bytes files said
  pub not_too_long : length bytes ≤ LONGEST_REPORT

-- the bytes begin with the format's name, and are no more than a report file may have
pub record IsNamed (bytes : List ℕ) : Type 0 where
  pub rest : List ℕ
  pub begins : bytes ≡ format ++ rest
  pub not_too_long : length bytes ≤ LONGEST_REPORT

-- Why bytes are read as no report of a run of these files, case by case in this order:
abbrev pub IsReadFault : FileDigests → List ℕ → ReadFault → Type 0
-- they don't begin with the format's name;
IsReadFault files bytes NoReport = (rest : List ℕ) → ¬ (bytes ≡ format ++ rest)
-- they do, and are too many;
IsReadFault files bytes TooLong = ((rest : List ℕ) × (bytes ≡ format ++ rest)) × (LONGEST_REPORT < length bytes)
-- or they aren't sealed: a file that was cut short, or changed;
IsReadFault files bytes CutShort = IsNamed bytes × ((content : List ℕ) → ¬ (bytes ≡ sealed content))
-- or they are, and of a run of other files;
IsReadFault files bytes OtherFiles =
    IsNamed bytes × ((content : List ℕ) × (bytes ≡ sealed content))
    × ((said : List ℕ) → ¬ (bytes ≡ sealed (headed files said)))
-- or of these files, and what is said there has this fault first.
IsReadFault files bytes (Content fault) =
    IsNamed bytes × ((said : List ℕ) × (bytes ≡ sealed (headed files said)) × (said_at said ≡ Err fault))
-- There may be no memory for what is said in a file of these files.
IsReadFault files bytes Memory = IsNamed bytes × ((said : List ℕ) × (bytes ≡ sealed (headed files said)))

-- why a report isn't written: rows that aren't its own, a file that would be too long, or no memory for the bytes
abbrev pub IsWriteFault : FileDigests → Said → WriteFault → Type 0
IsWriteFault files said unwritten.NotOwn = ¬ IsOwn said
IsWriteFault files said unwritten.TooLong = IsOwn said × (LONGEST_REPORT < length (report_bytes files said))
IsWriteFault files said unwritten.Memory = IsOwn said
