use Rattle.std.proofs.Common.{ap, ◌∙◌, option_map}
use Rattle.link.specs.Image.{room_left}
use Rattle.world_stations.specs.Taken.{sender}
use Rattle.world_stations.specs.Federation.{Federation}
use Rattle.world.proofs.Seen.{seen}
use Rattle.world.proofs.world.World.room_left.Goals as goal

pub returns : goal.returns
returns c = c.room_left.ensures ∙ ap (λ (w : Federation). option_map room_left (sender w c.args.dir)) (c.deref.ensures ∙ (seen c.self.view_is c.self.invariant).stations_are)
