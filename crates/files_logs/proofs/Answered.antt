-- What reading a log answers.
use Rattle.std.proofs.Common.{◌≡◌, ℕ, List, Option, Ok, Err, refl, sym, subst, inr}
use Rattle.std.specs.Prelude.{Result, IfOk, IfErr}
use Rattle.files_reports.specs.declared.file_digests.FileDigests.{FileDigests}
use Rattle.files_logs.specs.declared.log_head.LogHead.{LogHead}
use Rattle.files_logs.specs.declared.log.Log.{Log}
use Rattle.files_logs.specs.declared.log_fault.LogFault.{LogFault}
use Rattle.files_logs.specs.declared.log_fault.LogFault.TheVariants as faults
use Rattle.files_logs.specs.Reading.{IsRead, IsAsked, head_of, IsLogRead, IsFaultBehind, IsFaultOfAsked, IsLogFault}

asked_read : (files : FileDigests) (who : Option ℕ) (rules : ℕ) (bytes : List ℕ) (head : LogHead) (log : Log) → head ≡ head_of files rules head.who → IsAsked who head.who → log.who ≡ head.who
    → IsRead head bytes log → IsLogRead files who rules bytes log
asked_read files who rules bytes head log e asked same h =
    let mine : IsRead (head_of files rules head.who) bytes log = subst (λ (x : LogHead). IsRead x bytes log) e h in
    record {
      is_asked = subst (λ (w : ℕ). IsAsked who w) (sym same) asked;
      is_read = subst (λ (w : ℕ). IsRead (head_of files rules w) bytes log) (sym same) mine;
    }

pub read_answer : (files : FileDigests) (who : Option ℕ) (rules : ℕ) (bytes : List ℕ) (head : LogHead) (answer : Result Log LogFault) → head ≡ head_of files rules head.who → IsAsked who head.who
    → IfOk answer (λ log. log.who ≡ head.who) → IfOk answer (IsRead head bytes) → IfOk answer (IsLogRead files who rules bytes)
read_answer files who rules bytes head (Ok log) e asked same h = asked_read files who rules bytes head log e asked same h
read_answer files who rules bytes head (Err fault) e asked same h = tt

asked_fault : (files : FileDigests) (who : Option ℕ) (rules : ℕ) (bytes : List ℕ) (head : LogHead) (fault : LogFault) → head ≡ head_of files rules head.who → IsAsked who head.who
    → IsFaultBehind head bytes fault → IsFaultOfAsked files who rules bytes fault
asked_fault files who rules bytes head fault e asked h =
    record { node = head.who; is_asked = asked; is_behind = subst (λ (x : LogHead). IsFaultBehind x bytes fault) e h }

log_fault : (files : FileDigests) (who : Option ℕ) (rules : ℕ) (bytes : List ℕ) (head : LogHead) (fault : LogFault) → head ≡ head_of files rules head.who → IsAsked who head.who
    → IsFaultBehind head bytes fault → IsLogFault files who rules bytes fault
log_fault files who rules bytes head faults.Damaged e asked h = inr (asked_fault files who rules bytes head faults.Damaged e asked h)
log_fault files who rules bytes head (faults.Content fault) e asked h = asked_fault files who rules bytes head (faults.Content fault) e asked h
log_fault files who rules bytes head faults.CutShort e asked h = asked_fault files who rules bytes head faults.CutShort e asked h
log_fault files who rules bytes head faults.Memory e asked h = asked_fault files who rules bytes head faults.Memory e asked h
log_fault files who rules bytes head faults.NoLog e asked h = absurd h
log_fault files who rules bytes head faults.OtherFiles e asked h = absurd h
log_fault files who rules bytes head faults.OtherNode e asked h = absurd h
log_fault files who rules bytes head faults.OtherLog e asked h = absurd h

pub fault_answer : (files : FileDigests) (who : Option ℕ) (rules : ℕ) (bytes : List ℕ) (head : LogHead) (answer : Result Log LogFault) → head ≡ head_of files rules head.who → IsAsked who head.who
    → IfErr answer (IsFaultBehind head bytes) → IfErr answer (IsLogFault files who rules bytes)
fault_answer files who rules bytes head (Ok log) e asked h = tt
fault_answer files who rules bytes head (Err fault) e asked h = log_fault files who rules bytes head fault e asked h
