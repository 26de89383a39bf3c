use Rattle.std.proofs.Common.{◌↔◌, IsTrue, sym, subst}
use Rattle.node.specs.declared.event.Event.TheVariants.{Announce, Advance}
use Rattle.node.specs.Step.{Station, IsIdle}
use Rattle.node.proofs.station.Station.is_idle.Goals as goal

pub returns-in-Announce : goal.returns-in-Announce
returns-in-Announce g c =
    subst (λ e. IsTrue c.has_nothing_to_say.result ↔ IsIdle g.N.Node.core c.args.self.now e) (sym c.in-Announce.is)
    (subst (λ (s : Station _). IsTrue c.has_nothing_to_say.result ↔ IsIdle g.N.Node.core s Announce) c.self.view_is c.has_nothing_to_say.ensures)

pub returns-in-Advance : goal.returns-in-Advance
returns-in-Advance g c =
    subst (λ e. IsTrue c.has_nothing_to_run.result ↔ IsIdle g.N.Node.core c.args.self.now e) (sym c.in-Advance.is)
    (subst (λ (s : Station _). IsTrue c.has_nothing_to_run.result ↔ IsIdle g.N.Node.core s Advance) c.self.view_is c.has_nothing_to_run.ensures)
