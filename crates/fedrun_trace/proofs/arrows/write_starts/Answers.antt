use Rattle.std.proofs.Common.{◌<◌, ◌≤◌, ◌+◌, length, slice_get, arith}
use Rattle.fedrun_frames.proofs.Sending.{up_to_next}
use Rattle.fedrun_trace.specs.Steps.{start_to}
use Rattle.fedrun_trace.proofs.arrows.write_starts.Goals as goal

pub loop-later-preserved : goal.loop-later-preserved
loop-later-preserved g c =
    let d = c.args.plan.now in
    let seen = c.args.seen.now in
    let made = c.args.made.now in
    let from : seen.step ≤ c.loop-later.later = omega arith in
    let there : c.loop-later.later < length made = omega arith in
    up_to_next (λ i. start_to d seen (i + 1) (slice_get made i)) seen.step (length made) c.loop-later.later (g.W.Write.contents c.args.out.now)
    (g.W.Write.contents c.loop-later.out) (g.W.Write.contents c.write_start_to.new.out) from there c.loop-later.invariant c.in_ok-write_start_to.ensures
