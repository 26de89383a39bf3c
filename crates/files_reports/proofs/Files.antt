-- Whole files: one says one thing, and none that is a report has a fault.
use Rattle.std.proofs.Common.{◌≡◌, ℕ, List, ◌++◌, Ok, Err, refl, ap, ◌∙◌, append_assoc, arith}
use Rattle.std.specs.Prelude.{Result, IfOk, IfErr, MatchResult}
use Rattle.std.proofs.lemmas.List.{append_cancel_left}
use Rattle.sha2.specs.Sha256.{sha256}
use Rattle.files_reports.specs.declared.file_digests.FileDigests.{FileDigests}
use Rattle.files_reports.specs.declared.read_fault.ReadFault.{ReadFault}
use Rattle.files_reports.specs.declared.read_fault.ReadFault.TheVariants as faults
use Rattle.files_reports.specs.declared.node_report.NodeReport.{NodeReport}
use Rattle.files_reports.specs.Said.{Said, said_in, IsSaid}
use Rattle.files_reports.specs.Spelling.{said_bytes}
use Rattle.files_reports.specs.Reading.{said_at, Fails, Gives}
use Rattle.files_reports.specs.File.{format, sealed, headed, IsReportOf, IsNamed, IsReadFault}
use Rattle.files_reports.proofs.AllAgain.{said_again, one_saying}
use Rattle.files_reports.proofs.Ends.{one_content}

-- what is said behind the head of a file
same_said : (files : FileDigests) (a b : List ℕ) → headed files a ≡ headed files b → a ≡ b
same_said files a b e =
    let second = append_cancel_left format (files.federation ++ (files.inputs ++ a)) (files.federation ++ (files.inputs ++ b)) e in
    let third = append_cancel_left files.federation (files.inputs ++ a) (files.inputs ++ b) second in
    append_cancel_left files.inputs a b third

-- what a file says, where it is looked at in two ways
pub one_inside : (files : FileDigests) (bytes a b : List ℕ) → bytes ≡ sealed (headed files a) → bytes ≡ sealed (headed files b) → a ≡ b
one_inside files bytes a b e f = same_said files a b (one_content bytes (headed files a) (headed files b) e f)

pub one_report_in : (files : FileDigests) (said other : Said) (bytes : List ℕ) → IsReportOf files said bytes → IsReportOf files other bytes → said ≡ other
one_report_in files said other bytes h k =
    one_saying said other h.is_said k.is_said (one_inside files bytes (said_bytes said) (said_bytes other) h.is_file k.is_file)

-- a report has no fault but that there is no memory
pub only_memory : (files : FileDigests) (said : Said) (bytes : List ℕ) (fault : ReadFault) → IsReportOf files said bytes → IsReadFault files bytes fault → fault ≡ faults.Memory
only_memory files said bytes faults.NoReport h k =
    let behind = files.federation ++ (files.inputs ++ said_bytes said) in
    absurd (k (behind ++ sha256 (headed files (said_bytes said))) (h.is_file ∙ append_assoc format behind (sha256 (headed files (said_bytes said)))))
only_memory files said bytes faults.TooLong h k = absurd (omega (arith, h.not_too_long, k.1))
only_memory files said bytes faults.CutShort h k = absurd (k.1 (headed files (said_bytes said)) h.is_file)
only_memory files said bytes faults.OtherFiles h k = absurd (k.2 (said_bytes said) h.is_file)
only_memory files said bytes (faults.Content fault) h k =
    let same : k.1.0 ≡ said_bytes said = one_inside files bytes k.1.0 (said_bytes said) k.1.1 h.is_file in
    let read : said_at k.1.0 ≡ Ok said = ap said_at same ∙ said_again said h.is_said in
    absurd (cc (read, k.1.2))
only_memory files said bytes faults.Memory h k = refl

-- what reading answers of what is said in a file is the file's fault
pub fault_inside : (files : FileDigests) (bytes said : List ℕ) (fault : ReadFault) → IsNamed bytes → bytes ≡ sealed (headed files said) → Fails fault (said_at said) → IsReadFault files bytes fault
fault_inside files bytes said (faults.Content fault) named e h = (named, (said, e, h))
fault_inside files bytes said faults.Memory named e h = (named, (said, e))
fault_inside files bytes said faults.NoReport named e h = absurd h
fault_inside files bytes said faults.TooLong named e h = absurd h
fault_inside files bytes said faults.CutShort named e h = absurd h
fault_inside files bytes said faults.OtherFiles named e h = absurd h

-- ---- what is answered of a file of these files

pub found_in : (files : FileDigests) (bytes said : List ℕ) (answer : Result NodeReport ReadFault) → IsNamed bytes → bytes ≡ sealed (headed files said)
    → IfOk answer (λ report. IsSaid (said_in report) × (said ≡ said_bytes (said_in report))) → IfOk answer (λ report. IsReportOf files (said_in report) bytes)
found_in files bytes said (Ok report) named e h = record { is_said = h.0; is_file = e ∙ ap (λ (s : List ℕ). sealed (headed files s)) h.1; not_too_long = named.not_too_long }
found_in files bytes said (Err fault) named e h = tt

pub fault_in : (files : FileDigests) (bytes said : List ℕ) (answer : Result NodeReport ReadFault) → IsNamed bytes → bytes ≡ sealed (headed files said) → Gives said_in answer (said_at said) → IfErr answer (IsReadFault files bytes)
fault_in files bytes said (Ok report) named e h = tt
fault_in files bytes said (Err fault) named e h = fault_inside files bytes said fault named e h

pub only_one : (files : FileDigests) (bytes : List ℕ) (answer : Result NodeReport ReadFault) → IfOk answer (λ report. IsReportOf files (said_in report) bytes) → IfErr answer (IsReadFault files bytes)
    → (said : Said) → IsReportOf files said bytes → MatchResult answer (λ report. said_in report ≡ said) (λ fault. fault ≡ faults.Memory)
only_one files bytes (Ok report) found fault said h = one_report_in files (said_in report) said bytes found h
only_one files bytes (Err fault) found k said h = only_memory files said bytes fault h k
