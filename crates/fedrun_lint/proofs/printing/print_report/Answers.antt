use Rattle.std.proofs.Common.{ℕ, List, Bor, ap, ◌∙◌}
use Rattle.fedrun_lint.specs.declared.full_report.FullReport.{FullReport}
use Rattle.fedrun_lint.specs.Answered.{given_file, given_schedule}
use Rattle.fedrun_lint.proofs.FullGained.{whole_full_report, begun_full_report}
use Rattle.fedrun_lint.proofs.printing.print_report.Goals as goal

pub returns-then-print_lines-clause-ok : goal.returns-then-print_lines-clause-ok
returns-then-print_lines-clause-ok g c =
    whole_full_report (given_file c.args.federation.now) (given_file c.args.inputs.now) (given_schedule c.args.schedule) c.lines-lines.result c.in-Ok.report c.print_lines.result
    (g.O.Write.contents c.args.out.now) (g.O.Write.contents c.print_lines.new.out)
    (ap (λ (r : Bor FullReport). r.now) c.lines-lines.ensures.0) (ap (λ (s : Bor (List ℕ)). s.now) c.lines-lines.ensures.1)
    (ap (λ (s : Bor (List ℕ)). s.now) c.lines-lines.ensures.2) (ap (λ (s : Bor (List ℕ)). s.now) c.lines-lines.ensures.3 ∙ c.name_of.ensures)
    c.in-Ok.ensures c.print_lines.ensures c.is_wrong.result c.if-print_lines.true c.is_wrong.ensures

pub returns-clause-stopped : goal.returns-clause-stopped
returns-clause-stopped g c = λ stopped.
    begun_full_report (given_file c.args.federation.now) (given_file c.args.inputs.now) (given_schedule c.args.schedule) c.lines-lines.result c.in-Ok.report c.print_lines.result
    (g.O.Write.contents c.args.out.now) (g.O.Write.contents c.print_lines.new.out)
    (ap (λ (r : Bor FullReport). r.now) c.lines-lines.ensures.0) (ap (λ (s : Bor (List ℕ)). s.now) c.lines-lines.ensures.1)
    (ap (λ (s : Bor (List ℕ)). s.now) c.lines-lines.ensures.2) (ap (λ (s : Bor (List ℕ)). s.now) c.lines-lines.ensures.3 ∙ c.name_of.ensures)
    c.in-Ok.ensures c.print_lines.ensures
