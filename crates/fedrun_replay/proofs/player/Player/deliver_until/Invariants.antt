use Rattle.std.proofs.Common.{◌-◌, ◌≤◌}
use Rattle.world_progress.specs.Rounds.{cursor_in, delivers}
use Rattle.fedrun_replay.proofs.Delivering.{Tries}
use Rattle.fedrun_replay.proofs.player.Player.deliver_until.Given as goal

abbrev pub invariant-loop-gone : goal.invariant-loop-gone
invariant-loop-gone g l = record {
  few : l.gone - cursor_in l.initial.self.cursors l.dir ≤ l.sent - cursor_in l.initial.self.cursors l.dir;
  made :
      Tries l.line (delivers l.dir (cursor_in l.initial.self.cursors l.dir) (l.gone - cursor_in l.initial.self.cursors l.dir)) l.initial.self l.self
      (g.W.Write.contents l.initial.out) (g.W.Write.contents l.out);
}
