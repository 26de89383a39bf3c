use Rattle.std.proofs.Common.{sym, ◌∙◌}
use Rattle.reactor_agenda.proofs.Due.{none_due}
use Rattle.reactor_agenda.proofs.puts.drop_puts.Goals as goal

pub returns : goal.returns
returns c =
    sym (none_due c.loop-tag.puts c.args.tag c.in_order.ensures (sym c.has_due.ensures ∙ c.loop-tag-test.false)) ∙ c.loop-tag.invariant
