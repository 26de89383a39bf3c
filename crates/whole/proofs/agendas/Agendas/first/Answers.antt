use Rattle.std.proofs.Common.{subst, map}
use Rattle.whole.specs.Targets.{all_shown}
use Rattle.whole.specs.Agendas.{IsDone, IsDueFirst}
use Rattle.whole.proofs.Firsts.{first_at}
use Rattle.whole.proofs.AllAgendas.{some_next, all_done, due_first}
use Rattle.whole.proofs.agendas.Agendas.first.Goals as goal

pub first-first-requires : goal.first-first-requires
first-first-requires c =
    some_next c.self.inside.plan.now c.self.inside.agendas.items c.self.inside.nexts (map (λ ts. all_shown ts.items) c.self.inside.targets.items) c.self.invariant c.invariant.ensures.some_federate

pub returns-then-is_forever : goal.returns-then-is_forever
returns-then-is_forever c =
    let nexts = c.self.inside.nexts in
    let x = c.first-first.result in
    let w = c.first-first.ensures in
    subst IsDone c.self.view_is
    (all_done c.self.inside.plan.now c.self.inside.agendas.items nexts (map (λ ts. all_shown ts.items) c.self.inside.targets.items) c.self.invariant w.place (first_at nexts x w) x w.there
    (c.is_forever.ensures.0 c.if-is_forever.true))

pub returns-else-is_forever : goal.returns-else-is_forever
returns-else-is_forever c =
    let nexts = c.self.inside.nexts in
    let x = c.first-first.result in
    let w = c.first-first.ensures in
    subst (λ s. IsDueFirst s x.federate x.tag) c.self.view_is
    (due_first c.self.inside.plan.now c.self.inside.agendas.items nexts (map (λ ts. all_shown ts.items) c.self.inside.targets.items) c.self.invariant w.place (first_at nexts x w) x w.there
    (λ e. (let it_is = c.is_forever.ensures.1 e in let it_is_not = c.if-is_forever.false in absurd cc)))
