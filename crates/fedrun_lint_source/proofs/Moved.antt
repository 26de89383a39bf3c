-- A report whose lines are those of a source is one on the same files.
use Rattle.std.proofs.Common.{◌≡◌, ℕ, List, Option, None, Some, sym, subst}
use Rattle.std.specs.Prelude.{◌≢◌, MatchOption}
use Rattle.loadfed.specs.declared.fault.LoadFault.{LoadFault}
use Rattle.loadfed.specs.declared.fault.LoadFault.TheVariants.{Memory}
use Rattle.loadfed.specs.Loaded.{HasLoadFault}
use Rattle.fedrun_lint_findings.specs.declared.refusal.Refusal.{Refusal}
use Rattle.fedrun_lint.specs.Reports.{IsRefused, IsReportOfTaken, IsReportOfRefused}
use Rattle.fedrun_lint_source.specs.Looked.{HaveOneFault}

-- a refusal with the same first fault
same_refusal : (bytes : List ℕ) (one other : Refusal) → other.first.fault ≡ one.first.fault → IsRefused bytes one → IsRefused bytes other
same_refusal bytes one other same is = record {
  first = subst (HasLoadFault bytes) (sym same) is.first;
  not_memory = subst (λ (fault : LoadFault). fault ≢ Memory) (sym same) is.not_memory;
  none = is.none;
}

-- a report with such a refusal, or with none as before
pub moved : (federation inputs : List ℕ) (one other more : Option Refusal) → HaveOneFault one other
    → MatchOption one (IsReportOfTaken federation inputs more) (IsReportOfRefused federation inputs more)
    → MatchOption other (IsReportOfTaken federation inputs more) (IsReportOfRefused federation inputs more)
moved federation inputs None None more same is = is
moved federation inputs (Some one) (Some other) more same is = record { refused = same_refusal federation one other same is.refused; agrees = is.agrees }
moved federation inputs None (Some other) more same is = absurd same
moved federation inputs (Some one) None more same is = absurd same
