use Rattle.std.proofs.Common.{ap, ◌∙◌}
use Rattle.reactor_agenda.specs.Invariant.{held_in}
use Rattle.reactor_agenda.specs.Present.{set_entries}
use Rattle.reactor_agenda.proofs.Past.{rises_left}
use Rattle.reactor_agenda.proofs.Writing.{entries_at, entries_of_both, in_place_by, then_ok}
use Rattle.reactor_agenda.proofs.present.add_puts.Goals as goal

pub add_front-requires-clause-rises : goal.add_front-requires-clause-rises
add_front-requires-clause-rises c = rises_left c.puts.inside.front.items c.puts.inside.rest.entries c.puts.invariant.rising

pub add_rest-requires : goal.add_rest-requires
add_rest-requires c =
    in_place_by (entries_at c.args.tag (held_in c.puts.inside.front.items)) c.args.entries.now.items c.add_front.new.entries.items c.in_ok-add_front.ensures c.requires

pub returns : goal.returns
returns c =
    then_ok c.add_rest.result (λ is.
    is ∙ ap (set_entries (entries_at c.args.tag (held_in c.puts.inside.rest.entries))) c.in_ok-add_front.ensures
    ∙ entries_of_both c.args.tag c.puts.inside.front.items c.puts.inside.rest.entries c.args.entries.now.items
    ∙ ap (λ u. set_entries (entries_at c.args.tag u) c.args.entries.now.items) c.puts.view_is) c.add_rest.ensures
