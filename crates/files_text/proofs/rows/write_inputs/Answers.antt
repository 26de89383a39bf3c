use Rattle.std.proofs.Common.{◌≡◌, ◌∷◌, ◌++◌, codes}
use Rattle.std.proofs.lemmas.List.{take_all}
use Rattle.files_text.specs.RowText.{printed_input, printed_inputs}
use Rattle.files_text.proofs.Lines.{entry_more, in_brackets}
use Rattle.files_text.proofs.rows.write_inputs.Goals as goal

pub loop-entry-preserved : goal.loop-entry-preserved
loop-entry-preserved g c =
    entry_more (λ e. codes " " ++ printed_input c.args.slots.now e) c.in-Some.rest.now c.loop-entry.entry-index c.entry-item.result
    (g.W.Write.contents c.write_input.new.out) (g.W.Write.contents c.loop-entry.out) (g.W.Write.contents c.write_next_input.new.out)
    c.loop-entry-test.true c.entry-item.is c.loop-entry.invariant c.in_ok-write_next_input.ensures

pub returns : goal.returns
unfolding printed_inputs
returns g c =
    let is : c.args.entries.now ≡ c.in-Some.first.now ∷ c.in-Some.rest.now = c.in-Some.ensures.cases.0 in
    let everything = rw (take_all c.loop-entry.entry-index c.in-Some.rest.now c.loop-entry-test.false) at c.loop-entry.invariant in
    in_brackets (printed_input c.args.slots.now) (codes " -> ") c.in-Some.first.now c.in-Some.rest.now c.args.entries.now c.put-3.result
    (g.W.Write.contents c.args.out.now) (g.W.Write.contents c.put-2.new.out) (g.W.Write.contents c.write_input.new.out)
    (g.W.Write.contents c.loop-entry.out) (g.W.Write.contents c.put-3.new.out)
    is c.in_ok-put.ensures c.in_ok-write_input.ensures everything c.put-3.ensures
