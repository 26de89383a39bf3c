use Rattle.std.proofs.Common.{◌≡◌, false, sym, ◌∙◌}
use Rattle.std.specs.List.{list_any}
use Rattle.world_stations.specs.Kept.{is_forget}
use Rattle.world.proofs.Seen.{seen}
use Rattle.world.proofs.Stuck.{stuck_is}
use Rattle.world.proofs.world.World.stuck.Goals as goal

pub returns-then-not-self : goal.returns-then-not-self
returns-then-not-self c =
    let s = seen c.self.view_is c.self.invariant in
    let none : list_any is_forget c.args.self.now.steps ≡ false = sym s.forgotten_is ∙ c.if-not-self.true in
    let is = stuck_is c.args.self.now s.fit none in
    ((λ yes. is.0 (c.is_quiet.ensures.0 yes)), (λ stuck. c.is_quiet.ensures.1 (is.1 stuck)))
