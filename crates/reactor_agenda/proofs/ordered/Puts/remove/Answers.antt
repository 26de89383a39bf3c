use Rattle.std.proofs.Common.{◌≡◌, ◌<◌, ◌++◌, ◌∙◌, ap, subst, length, arith, ℤ, pos}
use Rattle.std.specs.Prelude.{OnSome}
use Rattle.std.specs.BTreeMap.{is_at}
use Rattle.std.specs.List.{remove}
use Rattle.std.specs.Map.{remove_entry}
use Rattle.network.specs.Undone.{Rises}
use Rattle.reactor_agenda.specs.declared.key.Key.{Key}
use Rattle.reactor_agenda.specs.Invariant.{held_in, key_cmp}
use Rattle.reactor_agenda.proofs.Past.{rises_left}
use Rattle.reactor_agenda.proofs.Queued.{rises_without, removed_at, removed_past}
use Rattle.reactor_agenda.proofs.ordered.Puts.remove.Goals as goal

pub place_of-requires : goal.place_of-requires
place_of-requires c = rises_left c.self.inside.front.items c.self.inside.rest.entries c.self.invariant.rising

pub returns-in-Some : goal.returns-in-Some
returns-in-Some c =
    let d : Key × ℤ = (c.args.key.now, pos 0) in
    let items = subst (λ r. OnSome r (c.remove.new.self.items ≡ remove c.self.inside.front.items c.in-Some.place)) (c.remove.ensures.succeeds d c.in-Some.ensures.found)
    c.remove.ensures.items in
    let within : c.in-Some.place < length c.self.inside.front.items = omega (arith, c.in-Some.ensures.found, c.self.inside.front.ok.0) in
    ap held_in c.refill.ensures.all
    ∙ removed_at c.self.inside.front.items c.remove.new.self.items c.self.inside.rest.entries c.args.self.now c.args.key.now c.in-Some.place d
    c.self.invariant.rising c.self.view_is within (c.in-Some.ensures.key d) items

pub invariant_of-self : goal.invariant_of-self
invariant_of-self c = record {
  rising = rises_without c.args.key.now c.args.self.now (held_in (c.refill.new.front.items ++ c.refill.new.rest.entries)) (returns-in-Some c)
      (subst Rises c.self.view_is c.self.invariant.rising);
  next = c.refill.ensures.next;
}

pub returns-in-None : goal.returns-in-None
returns-in-None c =
    removed_past c.self.inside.front.items c.self.inside.rest.entries c.remove-in-None.new.self.entries c.args.self.now c.args.key.now c.self.invariant.rising
    c.self.view_is c.in-None.ensures.none c.remove-in-None.ensures.entries

pub invariant_of-self-in-None : goal.invariant_of-self-in-None
invariant_of-self-in-None c = record {
  rising = rises_without c.args.key.now c.args.self.now (held_in (c.self.inside.front.items ++ c.remove-in-None.new.self.entries)) (returns-in-None c)
      (subst Rises c.self.view_is c.self.invariant.rising);
  next = λ none. c.remove-in-None.ensures.entries ∙ ap (remove_entry (is_at (key_cmp c.args.key.now))) (c.self.invariant.next none);
}
