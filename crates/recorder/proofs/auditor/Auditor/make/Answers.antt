use Rattle.std.proofs.Common.{sym, subst}
use Rattle.recorder_search.specs.Motion.{IsEvent}
use Rattle.world.specs.World.{WorldView}
use Rattle.recorder.specs.Placing.{world_motion}
use Rattle.recorder.proofs.auditor.Auditor.make.Goals as goal

pub apply_known-requires : goal.apply_known-requires
apply_known-requires c =
    subst (λ (w : WorldView). IsEvent world_motion w c.args.step c.args.node c.args.event.now) (sym c.self.view_is) c.requires
