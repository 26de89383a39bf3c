use Rattle.std.proofs.Common.{sym, ◌∙◌}
use Rattle.whole.proofs.Firsts.{earlier_in_block, same_in_block}
use Rattle.whole.proofs.nexts.first_after.Goals as goal

pub returns-then-is_earlier : goal.returns-then-is_earlier
returns-then-is_earlier c = λ before federate there in_it was now w.
    earlier_in_block before c.args.nexts.now federate c.args.block c.args.next.now c.args.first.now there in_it now (sym c.is_earlier.ensures ∙ c.if-is_earlier.true) w

pub returns-then-is_earlier-2 : goal.returns-then-is_earlier-2
returns-then-is_earlier-2 c = λ before federate there in_it was now w.
    same_in_block before c.args.nexts.now federate c.args.block c.args.was.now c.args.next.now c.args.first.now there was now
    (sym c.is_earlier.ensures ∙ c.if-is_earlier.false) (sym c.is_earlier-else-is_earlier.ensures ∙ c.if-is_earlier-2.true) w
