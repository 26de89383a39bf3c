use Rattle.std.proofs.Common.{◌∙◌, sym, subst}
use Rattle.recorder_search.specs.Motion.{IsEvent}
use Rattle.world.specs.World.{stations_of}
use Rattle.recorder.specs.Placing.{world_motion}
use Rattle.recorder.proofs.Placing.{alone_found, none_alone}
use Rattle.recorder.proofs.auditor.step_of.Goals as goal

pub returns-in-Frame-clause-none : goal.returns-in-Frame-clause-none
returns-in-Frame-clause-none c = λ none exact step is.
    c.delivery_of.ensures.none none exact step (subst (λ e. IsEvent world_motion c.args.world.now step c.args.node e) c.in-Frame.is is)

pub returns-in_default : goal.returns-in_default
returns-in_default c = record {
  found = alone_found (stations_of c.args.world.now) c.args.node c.args.event.now c.step_alone.result c.step_alone.ensures;
  none = λ none exact step is. none_alone (stations_of c.args.world.now) c.args.node c.args.event.now c.in_default.not-Frame (sym c.step_alone.ensures ∙ none) step is;
}
