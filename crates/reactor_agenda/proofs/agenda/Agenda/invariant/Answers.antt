use Rattle.std.proofs.Common.{subst}
use Rattle.reactor_agenda.specs.Agenda.{IsAgenda}
use Rattle.reactor_agenda.specs.Invariant.{undone_of, IsFit}
use Rattle.reactor_agenda.proofs.Views.{rises_undone, all_undone, in_time_from}
use Rattle.reactor_agenda.proofs.agenda.Agenda.invariant.Goals as goal

pub returns : goal.returns
returns c =
    subst IsAgenda c.self.view_is (record {
      rises = rises_undone c.self.inside.puts c.self.inside.timers.items;
      in_time = in_time_from c.self.inside.stop (undone_of c.self.inside.puts c.self.inside.timers.items)
          (all_undone (IsFit c.self.inside.stop) c.self.inside.puts c.self.inside.timers.items c.self.invariant.events_fit c.self.invariant.firings_fit);
    })
