use Rattle.node.proofs.Ahead.{ahead}
use Rattle.node.proofs.laws.steps_go_on.Goals as goal

pub returns : goal.returns
returns g c s event = ahead g.N.Node.core g.met.N.Node.goes_on g.N.Node.HUB s event
