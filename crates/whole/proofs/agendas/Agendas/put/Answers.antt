use Rattle.std.proofs.Common.{◌≡◌, ℕ, ◌<◌, ◌∙◌, List, ap, sym, subst, refl, map, length, take, drop, ◌++◌, ◌-◌, arith}
use Rattle.std.specs.List.{AllByRecursion}
use Rattle.network.specs.Connection.{Connection}
use Rattle.plan.specs.declared.draft.Draft.{Draft}
use Rattle.plan.specs.Federation.{federate_count, connections_of}
use Rattle.reactor_agenda.specs.Agenda.{Agenda}
use Rattle.whole.specs.Targets.{all_shown, targets_below, AreOfDifferentFederates}
use Rattle.whole.specs.Construction.{TurnMade}
use Rattle.whole.specs.Agendas.{Agendas, IsAfterTurn}
use Rattle.whole.proofs.Putting.{written, on_err}
use Rattle.whole.proofs.AllAgendas.{targets_at, wires_many, all_there, targets_are_below, targets_are_apart, nexts_many}
use Rattle.whole.proofs.AllAgendas.{kept_same, undone_same, after_put_turn}
use Rattle.whole.proofs.agendas.Agendas.put.Goals as goal

pub index-requires : goal.index-requires
index-requires c =
    let e = ap (λ (t : TurnMade). t.federate) c.turn.view_is in
    let f = ap (λ (s : Agendas). federate_count s.draft) c.self.view_is in
    let there : c.turn.inside.federate < federate_count c.self.inside.plan.now = omega (arith, e, f, c.requires.federate) in
    let low = wires_many c.self.inside.plan.now c.self.inside.agendas.items c.self.inside.nexts c.self.inside.targets.items c.turn.inside.federate c.self.invariant there in
    let counted = c.self.inside.targets.ok.0 in
    omega (arith, counted, low)

pub put_turn-requires-clause-there : goal.put_turn-requires-clause-there
put_turn-requires-clause-there c =
    let e = ap (λ (t : TurnMade). t.federate) c.turn.view_is in
    let f = ap (λ (s : Agendas). federate_count s.draft) c.self.view_is in
    let there : c.turn.inside.federate < federate_count c.self.inside.plan.now = omega (arith, e, f, c.requires.federate) in
    let at = targets_at c.self.inside.plan.now c.self.inside.agendas.items c.self.inside.nexts c.self.inside.targets.items c.turn.inside.federate c.index.result.now c.self.invariant there c.index.ensures in
    let shown : all_shown c.as_slice.result.now ≡ targets_below (connections_of c.self.inside.plan.now) c.turn.inside.federate (federate_count c.self.inside.plan.now) = ap all_shown c.as_slice.ensures.value ∙ at.1 in
    let many : length c.as_mut_slice.result.now ≡ federate_count c.self.inside.plan.now = ap length c.as_mut_slice.ensures.value ∙ c.self.invariant.count in
    all_there (length c.as_mut_slice.result.now) c.as_slice.result.now
    (subst (AllByRecursion (λ (t : ℕ × List Connection). t.0 < length c.as_mut_slice.result.now)) (sym shown)
    (targets_are_below (connections_of c.self.inside.plan.now) c.turn.inside.federate (federate_count c.self.inside.plan.now) (length c.as_mut_slice.result.now) (omega arith)))

pub put_turn-requires-clause-next : goal.put_turn-requires-clause-next
put_turn-requires-clause-next c =
    let e = ap (λ (t : TurnMade). t.federate) c.turn.view_is in
    let f = ap (λ (s : Agendas). federate_count s.draft) c.self.view_is in
    let there : c.turn.inside.federate < federate_count c.self.inside.plan.now = omega (arith, e, f, c.requires.federate) in
    let at = targets_at c.self.inside.plan.now c.self.inside.agendas.items c.self.inside.nexts c.self.inside.targets.items c.turn.inside.federate c.index.result.now c.self.invariant there c.index.ensures in
    let shown : all_shown c.as_slice.result.now ≡ targets_below (connections_of c.self.inside.plan.now) c.turn.inside.federate (federate_count c.self.inside.plan.now) = ap all_shown c.as_slice.ensures.value ∙ at.1 in
    let last = nexts_many c.self.inside.plan.now c.self.inside.agendas.items c.self.inside.nexts (map (λ ts. all_shown ts.items) c.self.inside.targets.items) c.self.invariant (federate_count c.self.inside.plan.now - 1) (omega (arith, there)) in
    all_there (length c.self.inside.nexts) c.as_slice.result.now
    (subst (AllByRecursion (λ (t : ℕ × List Connection). t.0 < length c.self.inside.nexts)) (sym shown)
    (targets_are_below (connections_of c.self.inside.plan.now) c.turn.inside.federate (federate_count c.self.inside.plan.now) (length c.self.inside.nexts) (omega arith)))

pub put_turn-requires-clause-apart : goal.put_turn-requires-clause-apart
put_turn-requires-clause-apart c =
    let e = ap (λ (t : TurnMade). t.federate) c.turn.view_is in
    let f = ap (λ (s : Agendas). federate_count s.draft) c.self.view_is in
    let there : c.turn.inside.federate < federate_count c.self.inside.plan.now = omega (arith, e, f, c.requires.federate) in
    let at = targets_at c.self.inside.plan.now c.self.inside.agendas.items c.self.inside.nexts c.self.inside.targets.items c.turn.inside.federate c.index.result.now c.self.invariant there c.index.ensures in
    subst AreOfDifferentFederates (sym (ap all_shown c.as_slice.ensures.value ∙ at.1)) (targets_are_apart (connections_of c.self.inside.plan.now) c.turn.inside.federate (federate_count c.self.inside.plan.now))

pub invariant_of-self : goal.invariant_of-self
invariant_of-self c =
    let wires = map (λ ts. all_shown ts.items) c.self.inside.targets.items in
    let many : length c.put_turn.new.agendas ≡ length c.self.inside.agendas.items = c.put_turn.ensures.length ∙ ap length c.as_mut_slice.ensures.value in
    let nexts_are : c.put_turn.new.nexts ≡ c.self.inside.nexts = c.in_err-put_turn.ensures.no_next in
    let alike = c.in_err-put_turn.ensures.err ∙ ap (map Rattle.whole.specs.Construction.kept_on) c.as_mut_slice.ensures.value in
    rw (
      written c.self.inside.agendas.items c.put_turn.new.agendas c.self.inside.agendas.len c.self.inside.agendas.ok.0 many,
      nexts_are,
    )
    (kept_same c.self.inside.plan.now c.self.inside.agendas.items c.put_turn.new.agendas c.self.inside.nexts wires c.self.invariant many alike)

pub returns-in_err-put_turn-clause-err : goal.returns-in_err-put_turn-clause-err
returns-in_err-put_turn-clause-err c =
    let many : length c.put_turn.new.agendas ≡ length c.self.inside.agendas.items = c.put_turn.ensures.length ∙ ap length c.as_mut_slice.ensures.value in
    let alike = c.in_err-put_turn.ensures.err ∙ ap (map Rattle.whole.specs.Construction.kept_on) c.as_mut_slice.ensures.value in
    let shown : List Agenda → Agendas = λ xs. record { draft = c.self.inside.plan.now; undone = map (λ x. x.undone) xs } in
    on_err c.from_residual.result _
    (ap shown (written c.self.inside.agendas.items c.put_turn.new.agendas c.self.inside.agendas.len c.self.inside.agendas.ok.0 many)
    ∙ (ap (λ us. record { draft = c.self.inside.plan.now; undone = us }) (undone_same c.self.inside.agendas.items c.put_turn.new.agendas alike) ∙ c.self.view_is))

pub invariant_of-self-2 : goal.invariant_of-self-2
invariant_of-self-2 c =
    let wires = map (λ ts. all_shown ts.items) c.self.inside.targets.items in
    let d : Draft = c.self.inside.plan.now in
    let e = ap (λ (t : TurnMade). t.federate) c.turn.view_is in
    let f = ap (λ (s : Agendas). federate_count s.draft) c.self.view_is in
    let there : c.turn.inside.federate < federate_count d = omega (arith, e, f, c.requires.federate) in
    let there_too : c.args.turn.now.federate < federate_count d = omega (arith, f, c.requires.federate) in
    let at = targets_at d c.self.inside.agendas.items c.self.inside.nexts c.self.inside.targets.items c.turn.inside.federate c.index.result.now c.self.invariant there c.index.ensures in
    let ts : all_shown c.as_slice.result.now ≡ targets_below (connections_of d) c.args.turn.now.federate (federate_count d) = ap all_shown c.as_slice.ensures.value ∙ (at.1 ∙ ap (λ k. targets_below (connections_of d) k (federate_count d)) e) in
    let many : length c.put_turn.new.agendas ≡ length c.self.inside.agendas.items = c.put_turn.ensures.length ∙ ap length c.as_mut_slice.ensures.value in
    let is = after_put_turn c.args.turn.now d c.self.inside.agendas.items c.as_mut_slice.result.now c.put_turn.new.agendas c.self.inside.nexts c.self.inside.nexts c.put_turn.new.nexts wires (all_shown c.as_slice.result.now)
    c.as_mut_slice.ensures.value refl ts there_too c.self.invariant c.put_turn.ensures.length c.in_ok-put_turn.ensures.put c.in_ok-put_turn.ensures.nexts c.in_ok-put_turn.ensures.known in
    rw (written c.self.inside.agendas.items c.put_turn.new.agendas c.self.inside.agendas.len c.self.inside.agendas.ok.0 many) is.kept

pub returns-clause-put : goal.returns-clause-put
returns-clause-put c =
    let wires = map (λ ts. all_shown ts.items) c.self.inside.targets.items in
    let d : Draft = c.self.inside.plan.now in
    let e = ap (λ (t : TurnMade). t.federate) c.turn.view_is in
    let f = ap (λ (s : Agendas). federate_count s.draft) c.self.view_is in
    let there : c.turn.inside.federate < federate_count d = omega (arith, e, f, c.requires.federate) in
    let there_too : c.args.turn.now.federate < federate_count d = omega (arith, f, c.requires.federate) in
    let at = targets_at d c.self.inside.agendas.items c.self.inside.nexts c.self.inside.targets.items c.turn.inside.federate c.index.result.now c.self.invariant there c.index.ensures in
    let ts : all_shown c.as_slice.result.now ≡ targets_below (connections_of d) c.args.turn.now.federate (federate_count d) = ap all_shown c.as_slice.ensures.value ∙ (at.1 ∙ ap (λ k. targets_below (connections_of d) k (federate_count d)) e) in
    let many : length c.put_turn.new.agendas ≡ length c.self.inside.agendas.items = c.put_turn.ensures.length ∙ ap length c.as_mut_slice.ensures.value in
    let is = after_put_turn c.args.turn.now d c.self.inside.agendas.items c.as_mut_slice.result.now c.put_turn.new.agendas c.self.inside.nexts c.self.inside.nexts c.put_turn.new.nexts wires (all_shown c.as_slice.result.now)
    c.as_mut_slice.ensures.value refl ts there_too c.self.invariant c.put_turn.ensures.length c.in_ok-put_turn.ensures.put c.in_ok-put_turn.ensures.nexts c.in_ok-put_turn.ensures.known in
    let shown : List Agenda → Agendas = λ xs. record { draft = d; undone = map (λ x. x.undone) xs } in
    let raw : List Agenda = take c.self.inside.agendas.len (c.put_turn.new.agendas ++ drop (length c.put_turn.new.agendas) c.self.inside.agendas.items) in
    let same : raw ≡ c.put_turn.new.agendas = written c.self.inside.agendas.items c.put_turn.new.agendas c.self.inside.agendas.len c.self.inside.agendas.ok.0 many in
    subst (λ s. IsAfterTurn c.args.turn.now s (shown raw)) c.self.view_is
    (subst (λ xs. IsAfterTurn c.args.turn.now (shown c.self.inside.agendas.items) (shown xs)) (sym same) is.after)
