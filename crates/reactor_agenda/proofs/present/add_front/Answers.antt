use Rattle.std.proofs.Common.{◌≡◌, [], ◌∷◌, rules, to_z, of_z, w64, ap, sym, subst, ◌∙◌}
use Rattle.std.specs.VecDeque.Iter.{deque_iter_rest}
use Rattle.reactor_agenda.specs.Invariant.{held_in}
use Rattle.reactor_agenda.specs.Present.{set_entries}
use Rattle.reactor_agenda.proofs.Putting.{Ordered, ordered}
use Rattle.reactor_agenda.proofs.Writing.{entries_at, in_place_by, none_more}
use Rattle.reactor_agenda.proofs.present.add_front.Goals as goal

pub loop-key-init : goal.loop-key-init
loop-key-init c =
    let all : deque_iter_rest c.into_iter-key-iterator.result ≡ c.args.front.now.items =
    ap deque_iter_rest c.into_iter-key-iterator.ensures.into_iter_gives ∙ c.iter-key-items.ensures.rest in
    record {
      ordered = subst (λ es. Ordered (held_in es)) (sym all) (ordered (held_in c.args.front.now.items) c.requires.rises);
      in_place = c.requires.in_place;
      entries = ap (λ es. set_entries (entries_at c.args.tag (held_in es)) c.args.entries.now.items) all;
    }

pub loop-key-preserved : goal.loop-key-preserved
loop-key-preserved c = record {
  ordered = search rules;
  in_place = in_place_by (entries_at c.args.tag (held_in ((c.in-Some.field-0.now.0, to_z w64 (of_z w64 c.in-Some.field-0.now.1)) ∷ []))) c.loop-key.entries.items c.add_put.new.entries.items
      c.in_ok-add_put.ensures c.loop-key.invariant.in_place;
  entries = search rules;
}

pub returns-then-not-is_at_most : goal.returns-then-not-is_at_most
returns-then-not-is_at_most c =
    none_more c.args.tag (deque_iter_rest c.loop-key.key-iterator) (deque_iter_rest c.next.new.self) c.in-Some.field-0.now c.loop-key.entries.items
    c.in-Some.ensures.steps c.loop-key.invariant.ordered (sym c.is_at_most.ensures ∙ c.if-not-is_at_most.true)
    ∙ c.loop-key.invariant.entries
