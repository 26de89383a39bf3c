-- What came next is behind all before.
use Rattle.wires_workers.proofs.Runners.{goes_on}
use Rattle.wires_workers.proofs.runner.run.Goals as goal

pub loop-preserved : goal.loop-preserved
loop-preserved g c = goes_on c.loop.share c.go_on-next.new.share c.loop.next c.loop.invariant c.go_on-next.ensures
