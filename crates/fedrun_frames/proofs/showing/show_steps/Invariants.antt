use Rattle.std.proofs.Common.{take}
use Rattle.fedrun_frames.proofs.Telling.{Shows}
use Rattle.fedrun_frames.proofs.showing.show_steps.Given as goal

-- the steps so far are made and written
abbrev pub invariant-loop-one : goal.invariant-loop-one
invariant-loop-one g l =
    Shows l.plan (take l.one-index l.made) l.initial.world l.world (g.W.Write.contents l.initial.out) (g.W.Write.contents l.out)
