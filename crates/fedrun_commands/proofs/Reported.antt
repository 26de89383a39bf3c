-- Where nothing was printed, or what is wrong in files that were looked at.
use Rattle.std.proofs.Common.{◌≡◌, ℕ, List, Option, Result, Ok, Err, ap, inl, inr, arith}
use Rattle.std.specs.Prelude.{◌≢◌, ◌⊎◌, IfErr, OnOk, true, false}
use Rattle.loadfed.specs.declared.fault.LoadFault.TheVariants.{Memory}
use Rattle.fedrun_words.specs.declared.fault.Fault.{Fault}
use Rattle.fedrun_words.specs.declared.fault.Fault.TheVariants.{Load}
use Rattle.fedrun_words.specs.declared.request.LintRequest.{LintRequest}
use Rattle.fedrun_files.specs.Answers.{Answer}
use Rattle.fedrun_files.specs.Contents.{Contents}
use Rattle.fedrun_lint.specs.Answered.{GivenFile}
use Rattle.fedrun_lint.specs.Full.{PrintsFullReport}
use Rattle.fedrun_commands.specs.Faults.{status_of}
use Rattle.fedrun_commands.specs.Linted.{AreFiles, PrintsLint, IsReportFault, out_of_memory, wrong, refused_write}
use Rattle.fedrun_commands.specs.Linted.{IsLintFault, no_memory, not_taken, unwritten}
use Rattle.fedrun_commands.specs.declared.fault.NodeFault.{NodeFault}

-- status 1 isn't 3
early : {status : ℕ} → status ≡ 1 → status ≢ 3
early one = λ three. let no : ⊥ = omega arith in no

-- what kept something for each status but 3 kept it for status 1
pub kept_early : {T : Type 0} (P Q : Type 0) (r : Result T (Fault NodeFault)) → IfErr r (λ fault. status_of fault ≢ 3 → P) → IfErr r (λ fault. status_of fault ≡ 1 → P ⊎ Q)
kept_early P Q (Ok x) kept = tt
kept_early P Q (Err fault) kept = λ one. inl (kept (early one))

module _ (contents : Contents) (before after : Option (List ℕ)) (asked : LintRequest) (first second : GivenFile) (third : Option GivenFile)
    (files : AreFiles contents asked first second third) where
  told : {P : Type 0} (fault : Fault NodeFault) → (fault ≡ Load Memory → P) → IsReportFault first second third before after fault → status_of fault ≡ 1 → P ⊎ PrintsLint contents asked true before after
  told fault kept (out_of_memory is) one = inl (kept is)
  told fault kept (wrong is prints) one =
      inr (record { first = first; second = second; third = third; files = files; prints = prints })
  told fault kept (refused_write is begins) one = let no : ⊥ = grind arith in absurd no

  -- with status 1 nothing was printed, or what is wrong
  pub lint_told : {T P : Type 0} (r : Result T (Fault NodeFault)) → (r ≡ Err (Load Memory) → P) → IfErr r (IsReportFault first second third before after)
      → IfErr r (λ fault. status_of fault ≡ 1 → P ⊎ PrintsLint contents asked true before after)
  lint_told (Ok x) kept stands = tt
  lint_told (Err fault) kept stands = told fault (λ is. kept (ap Err is)) stands

  stands_of : {answered : List Answer → Type 0} (fault : Fault NodeFault) → (fault ≡ Load Memory → after ≡ before) → IsReportFault first second third before after fault
      → IsLintFault contents answered before after asked fault
  stands_of fault kept (out_of_memory is) = no_memory is (kept is)
  stands_of fault kept (wrong is prints) =
      not_taken is (record { first = first; second = second; third = third; files = files; prints = prints })
  stands_of fault kept (refused_write is begins) =
      unwritten is (record { first = first; second = second; third = third; files = files; begins = begins })

  -- why the report isn't printed, or what it comes to
  pub lint_stands : {T : Type 0} (answered : List Answer → Type 0) (r : Result T (Fault NodeFault)) → (r ≡ Err (Load Memory) → after ≡ before) → IfErr r (IsReportFault first second third before after)
      → IfErr r (IsLintFault contents answered before after asked)
  lint_stands answered (Ok x) kept stands = tt
  lint_stands answered (Err fault) kept stands = stands_of fault (λ is. kept (ap Err is)) stands

  -- the report, where nothing is wrong
  pub lint_done : {T E : Type 0} (r : Result T E) → OnOk r (PrintsFullReport first second third false before after) → OnOk r (PrintsLint contents asked false before after)
  lint_done (Ok x) prints = record { first = first; second = second; third = third; files = files; prints = prints }
  lint_done (Err e) prints = tt
