use Rattle.std.proofs.Common.{◌≡◌, ◌∙◌, ℕ, List, [], ◌∷◌, ◌++◌, length, sym, ap, subst, append_assoc, append-nil, arith}
use Rattle.std.specs.Vec.Iter.{into_iter_items}
use Rattle.std.proofs.lemmas.List.{nil_from_length, length-append}
use Rattle.desk.specs.Replay.{Desk}
use Rattle.recorder_reports.specs.Reports.{how_many}
use Rattle.fedrun_run.specs.Reported.{AreReportsOf}
use Rattle.fedrun_run.proofs.ByNumber.{none_yet, next_known}
use Rattle.fedrun_run.proofs.Reports.{one_desk_more}
use Rattle.fedrun_run.proofs.node_reports.reports_of.Goals as goal

-- the next desk's report is the first of a federate that is there
pub add-requires : goal.add-requires
add-requires g c =
    let at = c.loop-desk in
    let left : List (Desk g.row.M.Denot) = into_iter_items c.next.new.self in
    let steps : into_iter_items at.desk-iterator ≡ c.in-Some.desk ∷ left = c.in-Some.ensures.steps.0 in
    let number : c.report.result.federate ≡ length at.reports.reports = c.report.ensures.federate ∙ ap length c.reports-federate.ensures in
    let more = length-append at.yielded (c.in-Some.desk ∷ left) in
    let all : length c.args.desks.items ≡ length (at.yielded ++ c.in-Some.desk ∷ left)
    = ap length (at.invariant.all ∙ ap (λ (ds : List (Desk g.row.M.Denot)). at.yielded ++ ds) steps) in
    record {
      first = (
        omega (arith, number, more, all, at.invariant.count, at.invariant.reported.count, c.requires.each),
        subst (λ (n : ℕ). how_many at.reports.reports n ≡ 0) (sym number) (none_yet at.reports.reports (length at.reports.reports) at.invariant.earlier),
      );
    }

pub loop-desk-preserved : goal.loop-desk-preserved
loop-desk-preserved g c =
    let at = c.loop-desk in
    let desk = c.in-Some.desk in
    let left : List (Desk g.row.M.Denot) = into_iter_items c.next.new.self in
    let steps : into_iter_items at.desk-iterator ≡ desk ∷ left = c.in-Some.ensures.steps.0 in
    let moved : at.yielded ++ desk ∷ left ≡ (at.yielded ++ desk ∷ []) ++ left = sym {A = List (Desk g.row.M.Denot)} (append_assoc at.yielded (desk ∷ []) left) in
    record {
      count = c.add.ensures.count ∙ at.invariant.count;
      earlier = next_known at.reports.reports c.add.new.reports.reports c.report.result c.in_ok-add.ensures.taken
          (c.report.ensures.federate ∙ ap length c.reports-federate.ensures) at.invariant.earlier;
      reported = one_desk_more g.M.Node.core g.M.Node.HUB g.M.Reporting.tells at.yielded desk at.reports.reports c.add.new.reports.reports c.report.result (length c.reports-federate.result.now)
          c.in_ok-add.ensures.taken (ap length c.reports-federate.ensures) at.invariant.reported c.report.ensures;
      all = at.invariant.all ∙ (ap (λ (ds : List (Desk g.row.M.Denot)). at.yielded ++ ds) steps ∙ moved);
      rest =
          let was = at.invariant.rest in
          let gone = c.in-Some.ensures.steps.1 in
          let short = ap length steps in
          omega arith;
    }

pub returns-clause-ok : goal.returns-clause-ok
returns-clause-ok g c =
    let at = c.loop-desk in
    let none = c.in-None.ensures.steps in
    let empty : into_iter_items at.desk-iterator ≡ [] = nil_from_length _ (sym at.invariant.rest ∙ none.0) in
    let all : at.yielded ≡ c.args.desks.items
    = sym (append-nil at.yielded) ∙ sym (ap (λ (ds : List (Desk g.row.M.Denot)). at.yielded ++ ds) empty) ∙ sym at.invariant.all in
    subst (λ (ds : List (Desk g.row.M.Denot)). AreReportsOf g.M.Node.core g.M.Node.HUB g.M.Reporting.tells ds at.reports.reports) all at.invariant.reported
