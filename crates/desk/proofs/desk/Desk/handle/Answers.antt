use Rattle.desk.proofs.Replays.{replays}
use Rattle.desk.proofs.desk.Desk.handle.Goals as goal

pub invariant_of-self : goal.invariant_of-self
invariant_of-self g c =
    replays g.N.Node.core g.N.Node.HUB c.self.inside.station c.step.new.station c.self.inside.journal c.step.new.journal c.args.event c.step.result
    c.self.invariant (c.initial_stations_stay.ensures c.self.inside.station c.args.event) c.step.ensures.step c.step.ensures.journal c.step.ensures.station_unchanged
    c.step.ensures.journal_unchanged
