use Rattle.std.proofs.Common.{ap, ◌∙◌, length, option_map}
use Rattle.world_stations.specs.Taken.{sender}
use Rattle.world_stations.specs.Federation.{Federation}
use Rattle.world.proofs.Seen.{seen}
use Rattle.world.proofs.world.World.unacked.Goals as goal

pub returns : goal.returns
returns c = c.unacked.ensures ∙ ap (λ (w : Federation). option_map (λ e. length e.kept) (sender w c.args.dir)) (c.deref.ensures ∙ (seen c.self.view_is c.self.invariant).stations_are)
