-- Reports that are found.
use Rattle.std.proofs.Common.{◌≡◌, ℕ, zero, suc, ◌<◌, List, [], ◌∷◌, length, refl, arith, None}
use Rattle.std.specs.Prelude.{slice_get, option_map}
use Rattle.std.proofs.lemmas.Bool.Decides.{nat_tests}
use Rattle.recorder_reports.specs.declared.report.Report.{Report}
use Rattle.recorder_reports.specs.declared.unproved.Unproved.{Unproved}
use Rattle.recorder_reports.specs.declared.unproved.Unproved.TheVariants.{Stranger, Double, Missing, Stuck, Mismatch, Memory}
use Rattle.recorder_reports.specs.Reports.{how_many, report_of, IsIncomplete}
use Rattle.recorder.specs.Audited.{Claim, IsUnproved}
use Rattle.plan.specs.Federation.{federate_count}

-- a federate that has a report has one that is found
pub is_found : (reports : List Report) (j : ℕ) → report_of reports j ≡ None → how_many reports j ≡ 0
is_found [] j none = refl
is_found (report ∷ reports) j none = grind (arith, nat_tests, is_found reports j)

-- at a place within a list something stands
pub something_stands : {X Y : Type 0} (f : X → Y) (xs : List X) (k : ℕ) → k < length xs → ¬ (option_map f (slice_get xs k) ≡ None)
something_stands f [] k less none = omega arith
something_stands f (x ∷ xs) zero less none = cc
something_stands f (x ∷ xs) (suc k) less none = something_stands f xs k (omega arith) none

-- why reports aren't complete is why an audit doesn't believe them
pub not_complete : (c : Claim) (fault : Unproved) → IsIncomplete (federate_count c.draft) c.reports fault → IsUnproved c fault
not_complete c Stranger is = is
not_complete c Double is = is
not_complete c (Missing j) is = is
not_complete c (Stuck node event) is = absurd is
not_complete c (Mismatch j row) is = absurd is
not_complete c Memory is = absurd is
