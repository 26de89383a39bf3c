use Rattle.std.proofs.Common.{◌≡◌}
use Rattle.fedrun_draw.proofs.playing.Recording.pass_each.Given as goal

abbrev pub invariant-loop-federate : goal.invariant-loop-federate
invariant-loop-federate l = l.self.history ≡ l.initial.self.history
