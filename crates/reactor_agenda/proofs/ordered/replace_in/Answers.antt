use Rattle.std.proofs.Common.{◌∙◌, ap, sym, to_z, of_z, w64, Some}
use Rattle.std.proofs.lemmas.Int.{to_z-of_z}
use Rattle.reactor_agenda.specs.Invariant.{held_in, undo_to}
use Rattle.reactor_agenda.proofs.Keyed.{set_absent, set_present}
use Rattle.reactor_agenda.proofs.ordered.replace_in.Goals as goal

pub returns-in-Ok : goal.returns-in-Ok
returns-in-Ok c =
    ap held_in c.in-Ok.ensures.entries
    ∙ set_present c.args.rest.now.entries c.args.key (to_z w64 (of_z w64 c.args.value)) c.in-Ok.ensures.was_ordered
    (sym c.contains_key.ensures ∙ c.if-contains_key.true)
    ∙ ap (λ v. undo_to c.args.key (Some v) (held_in c.args.rest.now.entries)) (to_z-of_z w64 c.args.value c.ranges.value)

pub returns-else-contains_key : goal.returns-else-contains_key
returns-else-contains_key c =
    set_absent c.args.rest.now.entries c.args.key c.args.value (sym c.contains_key.ensures ∙ c.if-contains_key.false)
