use Rattle.std.proofs.Common.{ap, ◌∙◌, length}
use Rattle.world_stations.specs.World.{frames_in}
use Rattle.world_stations.specs.Federation.{Federation}
use Rattle.world.proofs.Seen.{seen}
use Rattle.world.proofs.world.World.sent.Goals as goal

pub returns : goal.returns
returns c = c.sent.ensures ∙ ap (λ (w : Federation). length (frames_in w c.args.dir)) (c.deref.ensures ∙ (seen c.self.view_is c.self.invariant).stations_are)
