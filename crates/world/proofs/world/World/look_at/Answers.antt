use Rattle.std.proofs.Common.{ap, ◌∙◌}
use Rattle.world_stations.specs.World.{frames_in, frame_at}
use Rattle.world_stations.specs.Federation.{Federation}
use Rattle.world.proofs.Seen.{seen}
use Rattle.world.proofs.world.World.look_at.Goals as goal

pub returns : goal.returns
returns c = c.look_at.ensures ∙ ap (λ (w : Federation). frame_at (frames_in w c.args.dir) c.args.k) (c.deref.ensures ∙ (seen c.self.view_is c.self.invariant).stations_are)
