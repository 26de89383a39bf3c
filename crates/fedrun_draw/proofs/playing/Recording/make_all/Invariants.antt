use Rattle.std.proofs.Common.{◌≡◌, ◌+◌, ◌++◌, take, vec_len}
use Rattle.fedrun_draw.specs.Drawn.{moment_lines, made_lines}
use Rattle.fedrun_draw.proofs.playing.Recording.make_all.Given as goal

-- the steps so far are recorded, each with its line
abbrev pub invariant-loop-one : goal.invariant-loop-one
invariant-loop-one l =
    (vec_len l.self.history.steps ≡ vec_len l.initial.self.history.steps + l.one-index)
    × (moment_lines l.self.history.steps.items ≡ moment_lines l.initial.self.history.steps.items ++ made_lines (take l.one-index l.made))
