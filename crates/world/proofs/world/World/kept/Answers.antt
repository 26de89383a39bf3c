use Rattle.std.proofs.Common.{◌≡◌, false, sym, ap, ◌∙◌}
use Rattle.std.specs.List.{list_any}
use Rattle.world_stations.specs.Kept.{is_forget}
use Rattle.world_stations.proofs.Worlds.{listed_so}
use Rattle.world_stations.proofs.Rows.{all_kept}
use Rattle.world.specs.World.{WorldView, stations_of}
use Rattle.world.proofs.Seen.{seen}
use Rattle.world.proofs.world.World.kept.Goals as goal

pub returns-else-self : goal.returns-else-self
returns-else-self c =
    let w : WorldView = c.args.self.now in
    let none : list_any is_forget w.steps ≡ false = sym (seen c.self.view_is c.self.invariant).forgotten_is ∙ c.if-self.false in
    let none_so : list_any is_forget (stations_of w).steps ≡ false = ap (list_any is_forget) (listed_so w.draft w.programs w.inputs w.steps) ∙ none in
    sym (all_kept w.draft w.programs w.inputs w.steps none_so c.args.federate)
