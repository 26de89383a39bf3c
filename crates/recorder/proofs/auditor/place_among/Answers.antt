use Rattle.std.proofs.Common.{◌≢◌, ◌≤◌, arith, below_more, Some}
use Rattle.world_stations.specs.World.{frames_in, frame_at}
use Rattle.world.specs.World.{stations_of}
use Rattle.recorder.proofs.auditor.place_among.Goals as goal

pub loop-k-preserved : goal.loop-k-preserved
loop-k-preserved c = λ k from_k less.
    below_more (λ k. c.args.from ≤ k → frame_at (frames_in (stations_of c.args.world.now) c.args.dir) k ≢ Some c.args.frame.now) c.loop-k.k
    (λ k less from_k. c.loop-k.invariant k from_k less)
    (λ from_k there. let yes = c.is_at.ensures.1 there in let no = c.if-is_at.false in cc) k less from_k

pub returns-clause-none : goal.returns-clause-none
returns-clause-none c = λ none k from_k less. c.loop-k.invariant k from_k (omega (arith, c.loop-k-test.false))
