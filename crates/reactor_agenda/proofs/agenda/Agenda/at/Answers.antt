use Rattle.std.proofs.Common.{ap, sym, subst, ◌∙◌}
use Rattle.network.specs.Event.{value_at}
use Rattle.network.specs.Undone.{Rises}
use Rattle.reactor_agenda.specs.Agenda.{Agenda, present_in}
use Rattle.reactor_agenda.specs.Invariant.{all_firings}
use Rattle.reactor_agenda.specs.Present.{set_entries, AreInPlace}
use Rattle.reactor_agenda.proofs.Views.{rises_undone}
use Rattle.reactor_agenda.proofs.Listing.{present_listed}
use Rattle.reactor_agenda.proofs.Slots.{present_is}
use Rattle.reactor_agenda.proofs.Writing.{entries_at, in_place_by, present_values}
use Rattle.reactor_agenda.proofs.agenda.Agenda.at.Goals as goal

pub add_puts-requires : goal.add_puts-requires
add_puts-requires c =
    in_place_by (entries_at c.args.tag (all_firings c.as_slice.result.now)) c.clear.new.self.items c.add_firings.new.entries.items c.in_ok-add_firings.ensures (subst AreInPlace (sym c.clear.ensures.items) tt)

pub returns-clause-entries : goal.returns-clause-entries
returns-clause-entries c =
    c.in_ok-add_puts.ensures
    ∙ ap (set_entries (entries_at c.args.tag c.self.inside.puts)) (
    c.in_ok-add_firings.ensures ∙ ap (λ ts. set_entries (entries_at c.args.tag (all_firings ts)) c.clear.new.self.items) c.as_slice.ensures.value
    ∙ ap (set_entries (entries_at c.args.tag (all_firings c.self.inside.timers.items))) c.clear.ensures.items
    )
    ∙ present_is c.args.tag c.self.inside.puts c.self.inside.timers.items
    ∙ ap (λ (v : Agenda). present_in v.undone c.args.tag) c.self.view_is

pub returns-clause-inputs : goal.returns-clause-inputs
returns-clause-inputs c = λ slot. ap (λ es. value_at es slot) (returns-clause-entries c) ∙ present_values c.args.tag c.args.self.now.undone slot

pub returns-clause-listed : goal.returns-clause-listed
returns-clause-listed c = λ count below.
    let rises : Rises c.args.self.now.undone = subst (λ (v : Agenda). Rises v.undone) c.self.view_is (rises_undone c.self.inside.puts c.self.inside.timers.items) in
    returns-clause-entries c ∙ present_listed c.args.tag c.args.self.now.undone count rises below
