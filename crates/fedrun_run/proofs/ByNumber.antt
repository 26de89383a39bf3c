-- Reports that are added federate by federate.
use Rattle.std.proofs.Common.{◌≡◌, ℕ, suc, ◌+◌, ◌<◌, List, [], ◌∷◌, ◌++◌, length, refl, sym, subst, arith}
use Rattle.std.proofs.lemmas.Bool.Decides.{nat_tests}
use Rattle.std.proofs.lemmas.List.{length_push}
use Rattle.std.proofs.lemmas.List.Elements.{All-append, All-cons, All-nil}
use Rattle.recorder_reports.specs.declared.report.Report.{Report}
use Rattle.recorder_reports.specs.declared.report_fault.ReportFault.{ReportFault}
use Rattle.recorder_reports.specs.declared.report_fault.ReportFault.TheVariants.{Stranger, Double, Memory}
use Rattle.recorder_reports.specs.Reports.{how_many, AreKnown, Collecting, IsFirst, IsRefusedFor}

-- where all reports are of earlier federates, the next one has none
pub none_yet : (reports : List Report) (count : ℕ) → AreKnown count reports → how_many reports count ≡ 0
none_yet [] count known = refl
none_yet (report ∷ reports) count known =
    let earlier : report.federate < count = known 0 report (omega arith) in
    let others = none_yet reports count (λ k d less. known (suc k) d (omega arith)) in
    grind (arith, nat_tests, earlier, others)

-- and with its own, all are of federates before the one after it
pub next_known : (reports after : List Report) (report : Report) → after ≡ reports ++ report ∷ [] → report.federate ≡ length reports →
    AreKnown (length reports) reports → AreKnown (length after) after
next_known reports after report taken numbered known =
    let P : Report → Type 0 = λ r. r.federate < length reports + 1 in
    let all : AreKnown (length reports + 1) (reports ++ report ∷ []) = All-append P reports (report ∷ [])
    (λ k d within. let earlier = known k d within in omega arith) (All-cons P report [] (omega arith) (All-nil P)) in
    subst (λ (rs : List Report). AreKnown (length rs) rs) (sym taken)
    (subst (λ (n : ℕ). AreKnown n (reports ++ report ∷ [])) (sym (length_push reports report)) all)

-- the first report of a federate that is there can lack memory alone
pub only_memory : (c : Collecting) (report : Report) (fault : ReportFault) → IsFirst c report → IsRefusedFor c report fault → fault ≡ Memory
only_memory c report Stranger first refused = let there = first.0 in let bad : ⊥ = omega arith in absurd bad
only_memory c report Double first refused = let none = first.1 in let some = refused.1 in let bad : ⊥ = omega arith in absurd bad
only_memory c report Memory first refused = refl
