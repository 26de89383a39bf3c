use Rattle.std.proofs.Common.{◌≡◌, ◌++◌, ◌∷◌, [], get_or, ap, sym, ◌∙◌, arith, rules, w64, FitsSigned}
use Rattle.std.proofs.lemmas.Int.{to_z-of_z}
use Rattle.network.specs.Undone.{put_all}
use Rattle.reactor_agenda.specs.Agenda.{Agenda, in_time}
use Rattle.whole.proofs.InitialAgendas.{open_without, recorded_there, not_recorded}
use Rattle.whole.proofs.initial.put_input.Goals as goal

pub returns-in_default : goal.returns-in_default
returns-in_default c = open_without c.args.plan.now c.args.input.now c.args.agendas.now (not_recorded c.args.plan.now c.args.input.now (sym c.recorded_at.ensures ∙ c.in_default.is))

pub bounds-agendas-federate : goal.bounds-agendas-federate
bounds-agendas-federate c =
    let there = (recorded_there c.args.plan.now c.args.input.now c.in-Some.federate c.in-Some.slot (sym c.recorded_at.ensures ∙ c.in-Some.is)).0 in
    let many = c.requires in
    omega arith

pub returns-in-Ok : goal.returns-in-Ok
returns-in-Ok c =
    let fits : FitsSigned w64 c.args.input.now.value = search rules in
    let old : Agenda = get_or c.args.agendas.now c.in-Some.federate c.index-agendas-federate.result in
    let events : c.as_slice.result.now ≡ record { tag = c.args.input.now.tag; slot = c.in-Some.slot; value = c.args.input.now.value } ∷ [] =
    c.as_slice.ensures.value ∙ (c.in_ok-push.ensures.items ∙ ((λ i. c.clear.ensures.items i ++ c.new.ensures i ∷ []) ∙ ap (λ v. record { tag = c.args.input.now.tag; slot = c.in-Some.slot; value = v } ∷ []) (to_z-of_z w64 c.args.input.now.value fits))) in
    (recorded_there c.args.plan.now c.args.input.now c.in-Some.federate c.in-Some.slot (sym c.recorded_at.ensures ∙ c.in-Some.is)).1
    c.args.agendas.now c.index-agendas-federate.result c.put_all.new.self c.invariant.ensures (ap (λ (a : Agenda). a.stop) c.in-Ok.ensures.put)
    (ap (λ (a : Agenda). a.undone) c.in-Ok.ensures.put ∙ ap (λ es. put_all (in_time old.stop es) old.undone) events)
