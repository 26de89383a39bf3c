use Rattle.std.proofs.Common.{◌<◌, ◌++◌, ◌∙◌, ap, subst, set, length, arith, ℤ, pos, Some, to_z, of_z, w64}
use Rattle.std.proofs.lemmas.Int.{to_z-of_z}
use Rattle.network.specs.Undone.{Rises}
use Rattle.reactor_agenda.specs.declared.key.Key.{Key}
use Rattle.reactor_agenda.specs.Invariant.{held_in, undo_to}
use Rattle.reactor_agenda.proofs.Past.{rises_left}
use Rattle.reactor_agenda.proofs.Queued.{rises_with, replaced_at, replaced_past, set_none, none_held}
use Rattle.reactor_agenda.proofs.ordered.Puts.replace.Goals as goal

pub place_of-requires : goal.place_of-requires
place_of-requires c = rises_left c.self.inside.front.items c.self.inside.rest.entries c.self.invariant.rising

pub returns-in-Some : goal.returns-in-Some
returns-in-Some c =
    let d : Key × ℤ = (c.args.key, pos 0) in
    let within : c.in-Some.place < length c.self.inside.front.items = omega (arith, c.in-Some.ensures.found, c.self.inside.front.ok.0) in
    replaced_at c.self.inside.front.items (set c.self.inside.front.items c.in-Some.place (c.args.key, to_z w64 (of_z w64 c.args.value))) c.self.inside.rest.entries
    c.args.self.now c.args.key c.args.value c.in-Some.place d c.self.invariant.rising c.self.view_is within (c.in-Some.ensures.key d)
    (ap (λ v. set c.self.inside.front.items c.in-Some.place (c.args.key, v)) (to_z-of_z w64 c.args.value c.ranges.value))

pub invariant_of-self : goal.invariant_of-self
invariant_of-self c =
    let new = set c.self.inside.front.items c.in-Some.place (c.args.key, to_z w64 (of_z w64 c.args.value)) in
    record {
      rising = rises_with c.args.key c.args.value c.args.self.now (held_in (new ++ c.self.inside.rest.entries)) (returns-in-Some c)
          (subst Rises c.self.view_is c.self.invariant.rising);
      next = λ none. c.self.invariant.next
          (set_none c.self.inside.front.items c.in-Some.place (c.args.key, to_z w64 (of_z w64 c.args.value)) none);
    }

pub returns-in-None : goal.returns-in-None
returns-in-None c =
    replaced_past c.self.inside.front.items c.self.inside.rest.entries c.replace_in.new.rest.entries c.args.key (to_z w64 (of_z w64 c.args.value)) c.in-None.ensures.none
    c.replace_in.ensures
    ∙ ap (λ v. undo_to c.args.key (Some v) (held_in (c.self.inside.front.items ++ c.self.inside.rest.entries))) (to_z-of_z w64 c.args.value c.ranges.value)
    ∙ ap (undo_to c.args.key (Some c.args.value)) c.self.view_is

pub invariant_of-self-in-None : goal.invariant_of-self-in-None
invariant_of-self-in-None c = record {
  rising = rises_with c.args.key c.args.value c.args.self.now (held_in (c.self.inside.front.items ++ c.replace_in.new.rest.entries)) (returns-in-None c)
      (subst Rises c.self.view_is c.self.invariant.rising);
  next = λ none. none_held c.replace_in.new.rest.entries
      (c.replace_in.ensures ∙ ap (λ es. undo_to c.args.key (Some (to_z w64 (of_z w64 c.args.value))) (held_in es)) (c.self.invariant.next none));
}
