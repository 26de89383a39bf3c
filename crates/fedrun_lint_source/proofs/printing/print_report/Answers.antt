use Rattle.std.proofs.Common.{ℕ, List, Bor, ap}
use Rattle.fedrun_lint.specs.declared.report.Report.{Report}
use Rattle.fedrun_lint.proofs.Gained.{whole_report}
use Rattle.fedrun_lint_source.specs.Looked.{file_of}
use Rattle.fedrun_lint_source.proofs.printing.print_report.Goals as goal

pub returns-then-print_lines : goal.returns-then-print_lines
returns-then-print_lines g c =
    whole_report (file_of c.args.names.now.federation.now c.args.text.now) (file_of c.args.names.now.inputs.now c.args.inputs.now) c.lines-lines.result c.in-Ok.report c.print_lines.result
    (g.O.Write.contents c.args.out.now) (g.O.Write.contents c.print_lines.new.out)
    (ap (λ (r : Bor Report). r.now) c.lines-lines.ensures.0) (ap (λ (s : Bor (List ℕ)). s.now) c.lines-lines.ensures.1)
    (ap (λ (s : Bor (List ℕ)). s.now) c.lines-lines.ensures.2) c.in-Ok.ensures c.print_lines.ensures c.is_wrong.result c.if-print_lines.true c.is_wrong.ensures
