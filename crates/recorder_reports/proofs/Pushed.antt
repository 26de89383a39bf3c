-- The journals of one federate more.
use Rattle.std.proofs.Common.{◌≡◌, ◌∙◌, ℕ, ◌+◌, List, [], ◌∷◌, ◌++◌, map, refl, ap, arith}
use Rattle.std.proofs.lemmas.List.FromFn.{map-range_with_len_more}
use Rattle.node.specs.declared.event.Event.{Event}
use Rattle.recorder_reports.specs.declared.report.Report.{Report}
use Rattle.recorder_reports.specs.Reports.{report_of, journal_of, all_journals}

-- the journals of one federate more
pub one_journal_more : (count : ℕ) (reports : List Report) (coordinator : List Event) →
    all_journals (count + 1) reports coordinator ≡ all_journals count reports coordinator ++ journal_of (report_of reports count) ∷ []
one_journal_more count reports coordinator =
    ap (λ (js : List (List Event)). coordinator ∷ js) (map-range_with_len_more (λ j. journal_of (report_of reports j)) 0 count count (omega arith))

map_push : {X : Type 0} (f : X → List Event) (xs : List X) (x : X) → map f (xs ++ x ∷ []) ≡ map f xs ++ f x ∷ []
map_push f [] x = refl
map_push f (y ∷ ys) x = ap (λ (js : List (List Event)). f y ∷ js) (map_push f ys x)

-- one more is read after those before
pub pushed_journal : {X : Type 0} (new old : List X) (x : X) (f : X → List Event) (journals : List (List Event)) (journal : List Event) →
    new ≡ old ++ x ∷ [] → map f old ≡ journals → f x ≡ journal → map f new ≡ journals ++ journal ∷ []
pushed_journal new old x f journals journal is before one = rw is (map_push f old x ∙ rw before (rw one refl))
