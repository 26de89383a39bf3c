use Rattle.std.proofs.Common.{◌≡◌, [], ◌∷◌, rules, to_z, of_z, w64, ap, sym, subst, ◌∙◌}
use Rattle.reactor_agenda.specs.Invariant.{held_in}
use Rattle.reactor_agenda.specs.Present.{set_entries}
use Rattle.reactor_agenda.proofs.Keyed.{rises_in}
use Rattle.reactor_agenda.proofs.Putting.{Ordered, ordered}
use Rattle.reactor_agenda.proofs.Writing.{entries_at, in_place_by, none_more}
use Rattle.reactor_agenda.proofs.present.add_rest.Goals as goal

pub loop-key-init : goal.loop-key-init
loop-key-init c =
    let all : c.into_iter-key-iterator.result ≡ c.args.rest.now.entries = c.into_iter-key-iterator.ensures.into_iter_gives.0 in
    record {
      ordered = subst (λ es. Ordered (held_in es)) (sym all) (ordered (held_in c.args.rest.now.entries) (rises_in c.args.rest.now.entries c.len-count.ensures.ordered));
      in_place = c.requires;
      entries = ap (λ es. set_entries (entries_at c.args.tag (held_in es)) c.args.entries.now.items) all;
    }

pub loop-key-preserved : goal.loop-key-preserved
loop-key-preserved c = record {
  ordered = search rules;
  in_place = in_place_by (entries_at c.args.tag (held_in ((c.in-Some.key.now, to_z w64 (of_z w64 c.in-Some.value.now)) ∷ []))) c.loop-key.entries.items c.add_put.new.entries.items
      c.in_ok-add_put.ensures c.loop-key.invariant.in_place;
  entries = search rules;
}

pub returns-then-not-is_at_most : goal.returns-then-not-is_at_most
returns-then-not-is_at_most c =
    none_more c.args.tag c.loop-key.key-iterator c.next.new.self (c.in-Some.key.now, c.in-Some.value.now) c.loop-key.entries.items c.in-Some.ensures.steps
    c.loop-key.invariant.ordered (sym c.is_at_most.ensures ∙ c.if-not-is_at_most.true)
    ∙ c.loop-key.invariant.entries
