-- The first turn is made, and what is kept is kept.
use Rattle.std.proofs.Common.{◌≡◌, ℕ, ℤ, ◌+◌, ◌<◌, List, [], Option, length, Some, refl, ap, sym, ◌∙◌, arith, subst, slice_set, slice_get}
use Rattle.std.specs.Prelude.{◌≢◌}
use Rattle.std.proofs.lemmas.List.{length-append}
use Rattle.std.proofs.lemmas.Option.{slice_get-get_or}
use Rattle.network.specs.Event.{listed, value_at}
use Rattle.network.specs.Undone.{look}
use Rattle.plan.specs.Federation.{federate_count}
use Rattle.plan_slots.specs.Numbering.{slot_count}
use Rattle.reactor_program.specs.Behaviour.{Behaviour}
use Rattle.reactor.specs.Entries.{AgreesBelow}
use Rattle.plan_network.specs.Network.{slots_of}
use Rattle.reactor.specs.Turn.{Reactor, turn_of}
use Rattle.whole.specs.Invariant.{programs_in, HasSlotsOf}
use Rattle.whole.specs.Construction.{TurnMade}
use Rattle.whole.specs.Progress.{Progress, pending_in, later_by}
use Rattle.whole.specs.Agendas.{undone_of}
use Rattle.reactor_agenda.proofs.Listed.{listed_value}
use Rattle.whole.proofs.Turns.{IsTurnMade, done_is_done, due_is_pending, on_err, undone_within, kept_turn, reactor_count, has_slots, slots-given, same-element, programs_in-set}
use Rattle.whole.proofs.whole.Whole.turn.Goals as goal

pub returns-in_default-clause-made : goal.returns-in_default-clause-made
returns-in_default-clause-made c =
    let IsOver : Progress → Type 0 = λ p. pending_in p ≡ [] in (
      refl,
      subst IsOver c.self.view_is
          (done_is_done c.self.inside.plan.now c.self.inside.inputs.now c.self.inside.reactors.items c.self.inside.agendas c.self.inside.discarded c.self.inside.rows c.self.invariant c.in_default.ensures),
    )

pub returns-in_err-at-clause-pending : goal.returns-in_err-at-clause-pending
returns-in_err-at-clause-pending c =
    let IsPending : Progress → Type 0 = λ p. pending_in p ≢ [] in
    on_err c.from_residual.result
    (subst IsPending c.self.view_is
    (due_is_pending c.self.inside.plan.now c.self.inside.inputs.now c.self.inside.reactors.items c.self.inside.agendas c.self.inside.discarded c.self.inside.rows c.self.invariant
    c.in-Some.next.federate c.in-Some.next.tag c.in-Some.ensures))

pub returns-in_err-run_in-clause-pending : goal.returns-in_err-run_in-clause-pending
returns-in_err-run_in-clause-pending c =
    let IsPending : Progress → Type 0 = λ p. pending_in p ≢ [] in
    on_err c.from_residual-in_err-run_in.result
    (subst IsPending c.self.view_is
    (due_is_pending c.self.inside.plan.now c.self.inside.inputs.now c.self.inside.reactors.items c.self.inside.agendas c.self.inside.discarded c.self.inside.rows c.self.invariant
    c.in-Some.next.federate c.in-Some.next.tag c.in-Some.ensures))

pub returns-in_err-put-clause-pending : goal.returns-in_err-put-clause-pending
returns-in_err-put-clause-pending c =
    let IsPending : Progress → Type 0 = λ p. pending_in p ≢ [] in
    on_err c.from_residual-in_err-put.result
    (subst IsPending c.self.view_is
    (due_is_pending c.self.inside.plan.now c.self.inside.inputs.now c.self.inside.reactors.items c.self.inside.agendas c.self.inside.discarded c.self.inside.rows c.self.invariant
    c.in-Some.next.federate c.in-Some.next.tag c.in-Some.ensures))

pub index-reactor-requires : goal.index-reactor-requires
index-reactor-requires c =
    let d = c.self.inside.plan.now in
    let there : c.in-Some.next.federate < federate_count d = subst (λ x. c.in-Some.next.federate < federate_count x) c.self.invariant.draft c.in-Some.ensures.there in
    let inside : c.in-Some.next.federate < length c.self.inside.reactors.items = rw (reactor_count d c.self.inside.reactors.items c.self.invariant.programs) there in
    let counted = c.self.inside.reactors.ok.0 in
    omega (arith, counted, inside)

pub index_mut-reactor-requires : goal.index_mut-reactor-requires
index_mut-reactor-requires c =
    let d = c.self.inside.plan.now in
    let there : c.in-Some.next.federate < federate_count d = subst (λ x. c.in-Some.next.federate < federate_count x) c.self.invariant.draft c.in-Some.ensures.there in
    let inside : c.in-Some.next.federate < length c.self.inside.reactors.items = rw (reactor_count d c.self.inside.reactors.items c.self.invariant.programs) there in
    let counted = c.self.inside.reactors.ok.0 in
    omega (arith, counted, inside)

pub commit_from-requires : goal.commit_from-requires
commit_from-requires c =
    let d = c.self.inside.plan.now in
    let there : c.in-Some.next.federate < federate_count d = subst (λ x. c.in-Some.next.federate < federate_count x) c.self.invariant.draft c.in-Some.ensures.there in
    let inside : c.in-Some.next.federate < length c.self.inside.reactors.items = rw (reactor_count d c.self.inside.reactors.items c.self.invariant.programs) there in
    c.in_ok-run_in.ensures.fits ∙
    ap (λ (r : Reactor). length r.states) (same-element c.self.inside.reactors.items c.in-Some.next.federate c.index-reactor.result.now c.index_mut-reactor.result.now inside c.index-reactor.ensures c.index_mut-reactor.ensures.value)

pub invariant_of-self-2 : goal.invariant_of-self-2
invariant_of-self-2 c =
    let d = c.self.inside.plan.now in
    let reactors = c.self.inside.reactors.items in
    let s = c.self.inside.agendas in
    let f = c.in-Some.next.federate in
    let g = c.in-Some.next.tag in
    let r : Reactor = c.index-reactor.result.now in
    let kept = c.self.invariant in
    let present : ℕ → Option ℤ = look (undone_of s f) g in
    let there : f < federate_count d = subst (λ x. f < federate_count x) kept.draft c.in-Some.ensures.there in
    let inside : f < length reactors = rw (reactor_count d reactors kept.programs) there in
    let mine : slice_get reactors f ≡ Some r = slice_get-get_or reactors f r inside ∙ ap (λ x. Some x) (sym c.index-reactor.ensures) in
    let slots : HasSlotsOf d f r = has_slots d reactors f r kept.programs mine in
    let count : slots_of (slice_get d.federates f) ≡ slot_count r.behaviour.slots = slots-given (slice_get d.federates f) r.behaviour.slots slots in
    let entries : c.at.new.entries.items ≡ listed (slot_count r.behaviour.slots) present =
    c.in_ok-at.ensures (slots_of (slice_get d.federates f)) (undone_within d c.self.inside.inputs.now reactors s c.self.inside.discarded c.self.inside.rows kept f there)
    ∙ ap (λ k. listed k present) count in
    let agrees : AgreesBelow (slot_count r.behaviour.slots) (value_at c.as_slice.result.now) present =
    rw (c.as_slice.ensures.value, entries) (listed_value (slot_count r.behaviour.slots) present) in
    let turn : c.run_in.new.room ≡ turn_of r present = c.in_ok-run_in.ensures.slots_alone present agrees in
    let t : TurnMade = record {
      federate = f;
      tag = g;
      stop = c.stop_tag.result;
      inputs = c.as_slice-2.result.now;
      outputs = c.outputs.result.now;
      schedulings = c.schedulings.result.now;
    } in
    let made : IsTurnMade d r s t c.run_in.new.room.states = record {
      stop = c.stop_tag.ensures;
      inputs = c.as_slice-2.ensures.value ∙ entries;
      outputs = c.outputs.ensures ∙ ap (λ x. x.outputs) turn;
      schedulings = c.schedulings.ensures ∙ ap (λ x. x.schedulings) turn;
      new_states = ap (λ x. x.states) turn;
    } in
    let same : r ≡ c.index_mut-reactor.result.now = same-element reactors f r c.index_mut-reactor.result.now inside c.index-reactor.ensures c.index_mut-reactor.ensures.value in
    let is : c.commit_from.new.self ≡ record { behaviour = r.behaviour; states = c.run_in.new.room.states } =
    c.commit_from.ensures ∙ ap (λ (x : Reactor). record { behaviour = x.behaviour; states = c.run_in.new.room.states }) (sym same) in
    rw (is, c.in_ok-put.ensures.row)
    (kept_turn d c.self.inside.inputs.now reactors s c.self.inside.discarded c.self.inside.rows kept t c.put.new.self r c.run_in.new.room.states c.in-Some.ensures c.in_ok-put.ensures.put mine made)

pub returns-clause-made : goal.returns-clause-made
returns-clause-made c =
    let shown : List Behaviour → ℕ → Progress = λ programs turns. record {
      draft = c.self.inside.plan.now;
      programs = programs;
      inputs = c.self.inside.inputs.now;
      turns = turns;
      discarded = c.self.inside.discarded;
    } in
    let programs = programs_in-set c.self.inside.reactors.items c.in-Some.next.federate c.index_mut-reactor.result.now c.commit_from.new.self
    c.index_mut-reactor.ensures.value (ap (λ (r : Reactor). r.behaviour) c.commit_from.ensures) in
    let one_more : length c.put.new.rows ≡ length c.self.inside.rows + 1 =
    ap length c.in_ok-put.ensures.row ∙ length-append c.self.inside.rows _ in
    let turns : c.self.inside.discarded + length c.put.new.rows ≡ c.self.inside.discarded + length c.self.inside.rows + 1 = omega (arith, one_more) in
    let IsLater : Progress → Type 0 = λ p.
    shown (programs_in (slice_set c.self.inside.reactors.items c.in-Some.next.federate c.commit_from.new.self)) (c.self.inside.discarded + length c.put.new.rows) ≡ later_by 1 p in
    subst IsLater c.self.view_is
    (ap (λ ps. shown ps (c.self.inside.discarded + length c.put.new.rows)) programs ∙ ap (λ k. shown (programs_in c.self.inside.reactors.items) k) turns)
