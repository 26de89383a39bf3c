use Rattle.std.proofs.Common.{◌∙◌, ap, sym, subst, arith, w64, FitsSigned, rules}
use Rattle.std.proofs.lemmas.Int.{to_z-of_z}
use Rattle.std.specs.BTreeMap.{insert_entry}
use Rattle.std.specs.Ordering.{is_lt}
use Rattle.network.specs.Undone.{Rises}
use Rattle.reactor_agenda.specs.Invariant.{held_in, key_cmp}
use Rattle.reactor_agenda.proofs.Past.{first_stays}
use Rattle.reactor_agenda.proofs.Queued.{moved}
use Rattle.reactor_agenda.proofs.ordered.move_later.Goals as goal

pub loop-front-preserved : goal.loop-front-preserved
loop-front-preserved c =
    let fits : FitsSigned w64 c.in-Some.value = search rules in
    let so_far = c.loop-front.invariant in
    record {
      all = moved c.loop-front.front.items c.pop_back.new.self.items c.loop-front.rest.entries c.insert.new.self.entries (c.in-Some.last, c.in-Some.value)
          (subst (λ es. Rises (held_in es)) (sym so_far.all) c.requires.rises) c.in-Some.ensures.items
          (c.in-Ok.ensures.entries ∙ ap (insert_entry key_cmp c.loop-front.rest.entries c.in-Some.last) (to_z-of_z w64 c.in-Some.value fits)) ∙ so_far.all;
      first = first_stays c.args.key.now c.loop-front.front.items c.pop_back.new.self.items (c.in-Some.last, c.in-Some.value) c.in-Some.ensures.items
          (sym (c.is_lt.ensures ∙ ap is_lt c.last_cmp.ensures) ∙ c.loop-front-test.true) (ap is_lt so_far.first ∙ c.requires.first) ∙ so_far.first;
      room = omega (arith, c.in-Some.ensures.cases, c.in-Some.ensures.capacity);
    }
