use Rattle.std.proofs.Common.{◌≡◌, ◌<◌, length, slice_get, sym, ap, ◌∙◌, arith}
use Rattle.std.proofs.lemmas.Option.{slice_get-get_or}
use Rattle.reactor_agenda.specs.Agenda.{Agenda, least_in}
use Rattle.whole.specs.Construction.{least_on}
use Rattle.whole.specs.Agendas.{next_on}
use Rattle.whole.proofs.Filled.{filled_more}
use Rattle.whole.proofs.nexts.nexts_of.Goals as goal

pub loop-federate-preserved : goal.loop-federate-preserved
loop-federate-preserved c =
    let k = c.loop-federate.federate in
    let agendas = c.args.agendas.now in
    let there : k < length agendas = omega arith in
    let tag : c.least.result ≡ least_on (slice_get agendas k) =
    c.least.ensures ∙ (ap (λ (a : Agenda). least_in a.undone) c.index-agendas-federate.is ∙ ap least_on (sym (slice_get-get_or agendas k c.index-agendas-federate.result there))) in
    rw c.in_ok-push.ensures.items
    (filled_more (λ x. x) c.loop-federate.nexts.items k (next_on c.args.plan.now agendas) (record { federate = k; tag = c.least.result; rank = c.rank.result }) c.loop-federate.invariant
    (λ i. record { federate = k; tag = tag i; rank = c.rank.ensures i }))
