use Rattle.std.proofs.Common.{◌∙◌, ap, slice_get}
use Rattle.node_journal.proofs.Numbered.{event_is}
use Rattle.node_journal.proofs.journal.Journal.get.Goals as goal

pub returns-then-place-len : goal.returns-then-place-len
returns-then-place-len c =
    event_is c.self.inside.slips c.args.place c.get.result c.self.invariant c.get.ensures.found c.get.ensures.none
    ∙ ap (λ events. slice_get events c.args.place) c.self.view_is
