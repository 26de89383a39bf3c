use Rattle.std.proofs.Common.{◌≡◌, ◌∙◌, [], ◌++◌, ap, sym}
use Rattle.desk.proofs.Batches.{replays_all}
use Rattle.desk.proofs.desk.Desk.with_journal.Goals as goal

pub invariant_of-result : goal.invariant_of-result
invariant_of-result g c =
    let none : c.self.inside.journal ≡ [] = ap (λ d. d.journal) c.self.view_is ∙ c.requires in
    replays_all g.N.Node.core g.N.Node.HUB c.initial_stations_stay.ensures c.self.inside.station c.replay.new.station c.self.inside.journal c.args.journal
    c.args.journal c.self.invariant c.in_ok-replay.ensures (sym (ap (λ l. l ++ c.args.journal) none))
