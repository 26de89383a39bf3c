use Rattle.std.proofs.Common.{ap, sym, ◌∙◌}
use Rattle.reactor_agenda.specs.Invariant.{undo_all}
use Rattle.reactor_agenda.proofs.Keyed.{undo_all_more}
use Rattle.reactor_agenda.proofs.puts.undo_each.Goals as goal

pub loop-undo-preserved : goal.loop-undo-preserved
loop-undo-preserved c =
    ap (undo_all c.pop.new.self.items) c.undo_one.ensures ∙ sym (undo_all_more c.pop.new.self.items c.in-Some.undo c.loop-undo.puts)
    ∙ ap (λ us. undo_all us c.loop-undo.puts) (sym c.in-Some.ensures.items) ∙ c.loop-undo.invariant
