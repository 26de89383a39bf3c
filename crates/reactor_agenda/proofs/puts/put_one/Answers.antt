use Rattle.std.proofs.Common.{ap, sym, subst, ◌∙◌, to_z, of_z, w64, FitsSigned, rules}
use Rattle.std.proofs.lemmas.Int.{to_z-of_z}
use Rattle.network.specs.Undone.{put}
use Rattle.reactor_agenda.specs.Invariant.{held_at, undo_to, undo_all, IsFit}
use Rattle.std.specs.List.{AllByRecursion}
use Rattle.tag.specs.LogicalTime.{IsFinite}
use Rattle.reactor_agenda.proofs.Filtered.{all_put}
use Rattle.reactor_agenda.proofs.Keyed.{undo_all_more}
use Rattle.reactor_agenda.proofs.puts.put_one.Goals as goal

pub returns-clause-put : goal.returns-clause-put
returns-clause-put c =
    let fits : FitsSigned w64 c.value.result = search rules in
    c.in_ok-was.ensures.put ∙ ap (λ k. put (held_at (k, to_z w64 (of_z w64 c.value.result))) c.args.puts.now) c.key_of.ensures
    ∙ ap (λ v. put (record { tag = c.args.event.tag; slot = c.args.event.slot; value = v }) c.args.puts.now) (to_z-of_z w64 c.value.result fits ∙ c.value.ensures)

pub returns-clause-noted : goal.returns-clause-noted
returns-clause-noted c =
    ap (λ us. undo_all us c.insert.new.self) c.push_reserved.ensures.items
    ∙ undo_all_more c.args.undos.now.items (record { key = c.key_of-key.result; was = c.in_ok-was.was' }) c.insert.new.self
    ∙ ap (undo_all c.args.undos.now.items) (
    ap (λ k. undo_to k c.in_ok-was.was' c.insert.new.self) (c.key_of-key.ensures ∙ sym c.key_of.ensures) ∙ c.in_ok-was.ensures.was
    )

pub returns-clause-fit : goal.returns-clause-fit
returns-clause-fit c = λ stop early old.
    subst (AllByRecursion (IsFit stop)) (sym (returns-clause-put c))
    (all_put (IsFit stop) c.args.event c.args.puts.now (record { finite = subst IsFinite c.tag.ensures c.invariant.ensures; at_most = early }) old)
