use Rattle.std.proofs.Common.{◌≡◌, List, length, map, ap, sym, ◌∙◌}
use Rattle.std.proofs.lemmas.Option.{slice_get-map}
use Rattle.network.specs.Undone.{look}
use Rattle.reactor_agenda.specs.Agenda.{Agenda}
use Rattle.whole.specs.Targets.{all_shown}
use Rattle.whole.specs.Agendas.{Agendas, undone_of, next_on, for_each}
use Rattle.whole.proofs.Putting.{written}
use Rattle.whole.proofs.AllAgendas.{agenda_at, undone_at}
use Rattle.whole.proofs.agendas.Agendas.new.Goals as goal

pub invariant_of-result : goal.invariant_of-result
invariant_of-result c =
    let d = c.args.plan.now in
    let open_with = c.in_ok-put_inputs.ensures in
    let many : length c.put_inputs.new.agendas ≡ length c.in_ok-agendas.agendas.items = open_with.count ∙ sym c.in_ok-agendas.ensures.count in
    let same = written c.in_ok-agendas.agendas.items c.put_inputs.new.agendas c.in_ok-agendas.agendas.len c.in_ok-agendas.agendas.ok.0 many in
    rw same (record {
      count = open_with.count;
      each = λ f a at. (open_with.each f a at).up_to;
      next = λ f. c.in_ok-nexts.ensures f ∙ ap (λ xs. for_each d (next_on d xs) f) (c.as_slice.ensures.value ∙ same);
      wired = λ f. slice_get-map (λ ts. all_shown ts.items) c.in_ok-targets.targets.items f ∙ c.in_ok-targets.ensures f;
    })

pub returns-clause-pending : goal.returns-clause-pending
returns-clause-pending c = λ f tag slot there.
    let d = c.args.plan.now in
    let open_with = c.in_ok-put_inputs.ensures in
    let many : length c.put_inputs.new.agendas ≡ length c.in_ok-agendas.agendas.items = open_with.count ∙ sym c.in_ok-agendas.ensures.count in
    let same = written c.in_ok-agendas.agendas.items c.put_inputs.new.agendas c.in_ok-agendas.agendas.len c.in_ok-agendas.agendas.ok.0 many in
    let shown : List Agenda → Agendas = λ xs. record { draft = d; undone = map (λ x. x.undone) xs } in
    let a = agenda_at d c.put_inputs.new.agendas open_with.count f there in
    ap (λ xs. look (undone_of (shown xs) f) tag slot) same
    ∙ (ap (λ u. look u tag slot) (undone_at d c.put_inputs.new.agendas f a.0 a.1) ∙ (open_with.each f a.0 a.1).undone tag slot)
