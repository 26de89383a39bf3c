use Rattle.fedrun_expand.proofs.Outcome.{text_printed, written_late}
use Rattle.fedrun_expand.proofs.printing.print_expansion.Goals as goal

pub returns-in-Ok-clause-ok : goal.returns-in-Ok-clause-ok
returns-in-Ok-clause-ok g c =
    text_printed c.print.result c.args.bytes.now c.in-Ok.text.items c.as_slice.result.now c.args.given.now (g.O.Write.contents c.args.out.now) (g.O.Write.contents c.print.new.out) c.in-Ok.ensures.ok
    c.as_slice.ensures.value c.print.ensures.ok

pub returns-in-Ok-clause-untouched : goal.returns-in-Ok-clause-untouched
returns-in-Ok-clause-untouched g c = written_late _ c.print.result c.print.ensures.err
