use Rattle.std.proofs.Common.{◌+◌, length, slice_get}
use Rattle.fedrun_frames.proofs.Sending.{UpTo}
use Rattle.fedrun_trace.specs.Steps.{start_to}
use Rattle.fedrun_trace.proofs.arrows.write_starts.Given as goal

-- those of the arrows to the steps so far are written
abbrev pub invariant-loop-later : goal.invariant-loop-later
invariant-loop-later g l =
    UpTo (λ i. start_to l.plan l.seen (i + 1) (slice_get l.made i)) l.seen.step (length l.made) l.later
    (g.W.Write.contents l.initial.out) (g.W.Write.contents l.out)
