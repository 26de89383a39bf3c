use Rattle.files_text.specs.CsvText.{csv_input}
use Rattle.files_text.proofs.Lines.{entry_more}
use Rattle.files_text.proofs.csv_rows.write_csv_inputs.Goals as goal

pub loop-entry-preserved : goal.loop-entry-preserved
loop-entry-preserved g c =
    entry_more (csv_input c.args.federate.now c.args.tag) c.args.entries.now c.loop-entry.entry-index c.entry-item.result
    (g.W.Write.contents c.args.out.now) (g.W.Write.contents c.loop-entry.out) (g.W.Write.contents c.write_csv_input.new.out)
    c.loop-entry-test.true c.entry-item.is c.loop-entry.invariant c.in_ok-write_csv_input.ensures
