use Rattle.std.proofs.Common.{◌≡◌, ◌++◌, take}
use Rattle.fedrun_replay.specs.Play.{made_for}
use Rattle.fedrun_frames.proofs.making.add_each.Given as goal

-- the steps so far are added
abbrev pub invariant-loop-step : goal.invariant-loop-step
invariant-loop-step l = l.made.items ≡ l.initial.made.items ++ made_for l.line (take l.step-index l.steps)
