use Rattle.std.proofs.Common.{◌≡◌}
use Rattle.fedrun_draw.proofs.playing.Recording.look_at_all.Given as goal

abbrev pub invariant-loop-one : goal.invariant-loop-one
invariant-loop-one l = l.self.history.steps ≡ l.initial.self.history.steps
