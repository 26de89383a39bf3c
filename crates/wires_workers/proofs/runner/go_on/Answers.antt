-- Where it waits, or ends, nothing is handed in.
use Rattle.std.proofs.Common.{List, sym, subst}
use Rattle.node.specs.declared.event.Event.{Event as IsEvent}
use Rattle.wires_workers.specs.HandedIn.{AreHandedIn}
use Rattle.wires_workers.specs.Runner.{AreOf}
use Rattle.wires_workers.proofs.Runners.{of_wait, of_end}
use Rattle.wires_workers.proofs.runner.go_on.Goals as goal

pub returns-in-Wait : goal.returns-in-Wait
returns-in-Wait g c = subst (λ next. (x : List IsEvent) × AreOf next x × AreHandedIn c.args.share.now x c.args.share.now)
    (sym c.in-Wait.is) (of_wait c.args.share.now)

pub returns-in-End : goal.returns-in-End
returns-in-End g c = subst (λ next. (x : List IsEvent) × AreOf next x × AreHandedIn c.args.share.now x c.args.share.now)
    (sym c.in-End.is) (of_end c.args.share.now)
