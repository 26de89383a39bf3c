use Rattle.std.proofs.Common.{ap, sym, ◌∙◌, ◌<◌, arith}
use Rattle.tag.specs.LogicalTime.{is_same}
use Rattle.reactor_agenda.proofs.Fired.{firing_next, least_firing}
use Rattle.reactor_agenda.proofs.firings.is_next.Goals as goal

pub returns : goal.returns
returns c =
    let left : 0 < c.args.timer.left = omega arith in
    firing_next c.args.timer c.args.tag c.are_same.result left c.requires.timer c.requires.none_before
    (sym (c.are_same.ensures ∙ ap (λ g. is_same g c.args.tag) (c.next_tag.ensures ∙ least_firing c.args.timer left)))
