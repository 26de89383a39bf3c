use Rattle.std.proofs.Common.{◌≡◌}
use Rattle.fedrun_draw.proofs.playing.Recording.see_frames.Given as goal

abbrev pub invariant-loop-before : goal.invariant-loop-before
invariant-loop-before l = l.self.history.steps ≡ l.initial.self.history.steps
