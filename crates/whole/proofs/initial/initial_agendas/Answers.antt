use Rattle.std.proofs.Common.{◌≡◌, ◌∷◌, [], ap, ◌∙◌, arith}
use Rattle.std.proofs.lemmas.List.{length-append}
use Rattle.plan.specs.Federation.{stop_of}
use Rattle.reactor_agenda.specs.Agenda.{Agenda, own_undone}
use Rattle.whole.proofs.InitialAgendas.{open_more}
use Rattle.whole.proofs.initial.initial_agendas.Goals as goal

pub loop-federate-preserved : goal.loop-federate-preserved
loop-federate-preserved c =
    let stop : c.stop_tag-stop.result ≡ stop_of c.args.plan.now = c.stop_tag-stop.ensures in
    let many = length-append c.loop-federate.agendas.items (c.in-Ok.agenda ∷ []) in
    let so_far = c.loop-federate.invariant.0 in
    rw c.in_ok-push.ensures.items (
      many ∙ omega (arith, so_far),
      open_more c.args.plan.now c.loop-federate.agendas.items c.loop-federate.federate-index c.federate-item.result c.in-Ok.agenda so_far
          (rw (← c.federates-federate-items.ensures) c.loop-federate-test.true) (rw (← c.federates-federate-items.ensures) c.federate-item.is)
          c.invariant-in-loop-federate.ensures (ap (λ (a : Agenda). a.stop) c.in-Ok.ensures ∙ stop)
          (ap (λ (a : Agenda). a.undone) c.in-Ok.ensures ∙ ap (λ g. own_undone g c.federate-item.result.slots) stop) c.loop-federate.invariant.1,
    )
