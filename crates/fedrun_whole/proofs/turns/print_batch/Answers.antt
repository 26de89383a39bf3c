-- The rows that are written are those of the turns made since all rows were let go.
use Rattle.std.proofs.Common.{◌≡◌, ◌∙◌, ap, sym}
use Rattle.plan.specs.declared.draft.Draft.{Draft}
use Rattle.whole.specs.Progress.{Progress}
use Rattle.fedrun_whole.specs.PrintedTurns.{let_go_after}
use Rattle.fedrun_whole.proofs.Batches.{some_made, printed_further}
use Rattle.fedrun_whole.proofs.turns.print_batch.Goals as goal

pub returns-clause-printed : goal.returns-clause-printed
returns-clause-printed g c before so_far =
    let p = c.args.program.now in
    let q = c.turns-turned.new.self in
    let later = some_made c.turns-turned.result c.args.most p q c.turns-turned.ensures.made c.turns-turned.ensures.err in
    let let_go_of : Progress → Progress = λ k. record {
      draft = k.draft;
      programs = k.programs;
      inputs = k.inputs;
      turns = k.turns;
      discarded = k.turns;
    } in
    let last : c.discard.new.self ≡ let_go_after later.0 p = c.discard.ensures ∙ ap let_go_of later.1 in
    printed_further c.args.format p q c.discard.new.self later.0 c.args.plan.now.federates c.rows.result.now before (g.O.Write.contents c.args.out.now)
    (g.O.Write.contents c.write_rows.new.out) so_far later.1 c.rows.ensures.rows c.rows.ensures.one_for_each_turn
    (ap (λ (d : Draft). d.federates) (sym c.requires)) c.in_ok-write_rows.ensures last
