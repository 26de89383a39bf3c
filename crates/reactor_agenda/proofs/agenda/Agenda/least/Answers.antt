use Rattle.std.proofs.Common.{◌∙◌, ap, sym}
use Rattle.tag.specs.LogicalTime.{lesser}
use Rattle.reactor_agenda.specs.Agenda.{least_in}
use Rattle.reactor_agenda.proofs.Views.{least_undone}
use Rattle.reactor_agenda.proofs.agenda.Agenda.least.Goals as goal

pub returns : goal.returns
returns c =
    c.lesser.ensures ∙ ap (λ g. lesser g c.self.inside.next_firing) c.first_tag.ensures
    ∙ ap (lesser (least_in c.self.inside.puts)) c.self.invariant.next_is
    ∙ sym (least_undone c.self.inside.stop c.self.inside.puts c.self.inside.timers.items c.in_order.ensures c.self.invariant.events_fit
    c.self.invariant.timers_hold c.self.invariant.firings_fit)
    ∙ ap (λ v. least_in v.undone) c.self.view_is
