use Rattle.std.proofs.Common.{◌++◌, ◌∷◌, [], ◌∙◌, ap, sym, to_z, of_z, w64, FitsSigned, rules, Some, None}
use Rattle.std.proofs.lemmas.Int.{to_z-of_z}
use Rattle.std.specs.Ordering.{is_lt}
use Rattle.network.specs.Undone.{put}
use Rattle.reactor_agenda.specs.Invariant.{held_at, held_in, undo_to}
use Rattle.reactor_agenda.proofs.Queued.{IsPut, held_by, put_before, put_over, put_back, put_after, put_not, none_left}
use Rattle.reactor_agenda.proofs.ordered.Puts.insert.Goals as goal

-- before all
before : (c : goal.After-push_front_reserved) → IsPut c.args.key c.args.value None c.args.self.now c.push_front_reserved.new.self.items c.self.inside.rest.entries
before c =
    put_before c.reserve.new.self.items c.self.inside.rest.entries c.push_front_reserved.new.self.items c.args.self.now c.args.key c.args.value
    (held_by c.self.invariant c.self.view_is (ap (λ l. l ++ c.self.inside.rest.entries) c.in_ok-reserve.ensures.items))
    (λ none. c.self.invariant.next (sym c.in_ok-reserve.ensures.items ∙ none))
    (sym (c.is_lt.ensures ∙ ap is_lt c.first_cmp.ensures) ∙ c.if-is_lt.true)
    (c.push_front_reserved.ensures.items ∙ ap (λ v. (c.args.key, v) ∷ c.reserve.new.self.items) (to_z-of_z w64 c.args.value c.ranges.value))

pub invariant_of-self-then-is_lt : goal.invariant_of-self-then-is_lt
invariant_of-self-then-is_lt c = (before c).queued

pub returns-then-is_lt-clause-was : goal.returns-then-is_lt-clause-was
returns-then-is_lt-clause-was c = (before c).undo_is

-- in place of the last of those in front
over : (c : goal.After-push_back_reserved) →
    IsPut c.args.key c.args.value (Some c.in-Some.was) c.args.self.now c.push_back_reserved.new.self.items c.move_later.new.rest.entries
over c =
    put_over c.move_later.new.front.items c.move_later.new.rest.entries c.take_last.new.front.items c.push_back_reserved.new.self.items c.args.self.now c.args.key
    c.args.value c.in-Some.was
    (held_by c.self.invariant c.self.view_is (c.in_ok-move_later.ensures.all ∙ ap (λ l. l ++ c.self.inside.rest.entries) c.in_ok-reserve.ensures.items))
    c.in-Some.ensures.taken
    (c.push_back_reserved.ensures.items ∙ ap (λ v. c.take_last.new.front.items ++ (c.args.key, v) ∷ []) (to_z-of_z w64 c.args.value c.ranges.value))

pub invariant_of-self-in-Some : goal.invariant_of-self-in-Some
invariant_of-self-in-Some c = (over c).queued

pub returns-in-Some-clause-put : goal.returns-in-Some-clause-put
returns-in-Some-clause-put c = (over c).put_is

pub returns-in-Some-clause-was : goal.returns-in-Some-clause-was
returns-in-Some-clause-was c =
    let fits : FitsSigned w64 c.in-Some.was = search rules in
    ap (λ w. undo_to c.args.key (Some w) (held_in (c.push_back_reserved.new.self.items ++ c.move_later.new.rest.entries))) (to_z-of_z w64 c.in-Some.was fits)
    ∙ (over c).undo_is

-- after all
back : (c : goal.After-push_back_reserved-then-is_empty) →
    IsPut c.args.key c.args.value None c.args.self.now c.push_back_reserved-then-is_empty.new.self.items c.move_later.new.rest.entries
back c =
    put_back c.move_later.new.front.items c.take_last.new.front.items c.move_later.new.rest.entries c.push_back_reserved-then-is_empty.new.self.items c.args.self.now
    c.args.key c.args.value
    (held_by c.self.invariant c.self.view_is (c.in_ok-move_later.ensures.all ∙ ap (λ l. l ++ c.self.inside.rest.entries) c.in_ok-reserve.ensures.items))
    c.in_ok-move_later.ensures.last c.in_default.ensures.other (none_left c.move_later.new.rest.entries (c.is_empty.ensures.0 c.if-is_empty.true))
    (c.push_back_reserved-then-is_empty.ensures.items
    ∙ ap (λ v. c.take_last.new.front.items ++ (c.args.key, v) ∷ []) (to_z-of_z w64 c.args.value c.ranges.value))

pub invariant_of-self-then-is_empty : goal.invariant_of-self-then-is_empty
invariant_of-self-then-is_empty c = (back c).queued

pub returns-then-is_empty-clause-put : goal.returns-then-is_empty-clause-put
returns-then-is_empty-clause-put c = (back c).put_is

pub returns-then-is_empty-clause-was : goal.returns-then-is_empty-clause-was
returns-then-is_empty-clause-was c = (back c).undo_is

-- after those in front
pub invariant_of-self-in_err-insert : goal.invariant_of-self-in_err-insert
invariant_of-self-in_err-insert c =
    put_not c.move_later.new.front.items c.take_last.new.front.items c.move_later.new.rest.entries c.insert.new.self.entries c.args.self.now c.args.key
    (held_by c.self.invariant c.self.view_is (c.in_ok-move_later.ensures.all ∙ ap (λ l. l ++ c.self.inside.rest.entries) c.in_ok-reserve.ensures.items))
    (ap is_lt c.in_ok-move_later.ensures.first ∙ sym (c.is_lt.ensures ∙ ap is_lt c.first_cmp.ensures) ∙ c.if-is_lt.false) c.in_default.ensures.other.0
    c.in_err-insert.ensures.err

after : (c : goal.In_ok-insert) → IsPut c.args.key (to_z w64 (of_z w64 c.args.value)) c.in_ok-insert.field-0 c.args.self.now c.take_last.new.front.items c.insert.new.self.entries
after c =
    put_after c.move_later.new.front.items c.take_last.new.front.items c.move_later.new.rest.entries c.insert.new.self.entries c.args.self.now c.args.key
    (to_z w64 (of_z w64 c.args.value)) c.in_ok-insert.field-0
    (held_by c.self.invariant c.self.view_is (c.in_ok-move_later.ensures.all ∙ ap (λ l. l ++ c.self.inside.rest.entries) c.in_ok-reserve.ensures.items))
    (ap is_lt c.in_ok-move_later.ensures.first ∙ sym (c.is_lt.ensures ∙ ap is_lt c.first_cmp.ensures) ∙ c.if-is_lt.false)
    c.in_ok-move_later.ensures.last c.in_default.ensures.other c.in_ok-insert.ensures.entries (sym c.in_ok-insert.ensures.old)

pub invariant_of-self-2 : goal.invariant_of-self-2
invariant_of-self-2 c = (after c).queued

pub returns-clause-put : goal.returns-clause-put
returns-clause-put c = (after c).put_is ∙ ap (λ v. put (held_at (c.args.key, v)) c.args.self.now) (to_z-of_z w64 c.args.value c.ranges.value)

pub returns-clause-was : goal.returns-clause-was
returns-clause-was c = (after c).undo_is
