use Rattle.std.proofs.Common.{◌≡◌}
use Rattle.fedrun_draw.proofs.playing.Recording.see_rows.Given as goal

abbrev pub invariant-loop-place : goal.invariant-loop-place
invariant-loop-place l = l.self.history.steps ≡ l.initial.self.history.steps
