use Rattle.world.proofs.Headline.{faithful}
use Rattle.world.proofs.Seen.{seen}
use Rattle.world.proofs.world.World.invariant.Goals as goal

pub returns : goal.returns
returns c = faithful c.args.self.now (seen c.self.view_is c.self.invariant).fit
