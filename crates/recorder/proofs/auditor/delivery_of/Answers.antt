use Rattle.std.proofs.Common.{◌≡◌, ◌∙◌, sym, refl, subst, Some}
use Rattle.world_stations.specs.World.{frames_in, frame_at}
use Rattle.world.specs.World.{stations_of}
use Rattle.recorder.proofs.Placing.{no_frame}
use Rattle.recorder.proofs.auditor.delivery_of.Goals as goal

pub returns-in_default-clause-none : goal.returns-in_default-clause-none
returns-in_default-clause-none c = λ none exact step. no_frame (stations_of c.args.world.now) c.args.node c.args.peer c.args.frame.now
    (λ dir way k there. let no = sym c.in_default.is ∙ c.direction_to.ensures ∙ way in cc) step

pub returns-in_default-place_of-clause-none : goal.returns-in_default-place_of-clause-none
returns-in_default-place_of-clause-none c = λ none exact step. no_frame (stations_of c.args.world.now) c.args.node c.args.peer c.args.frame.now
    (λ dir way k there.
    let e = sym c.in-Some.is ∙ c.direction_to.ensures ∙ way in
    let same : c.in-Some.dir ≡ dir = cc in
    c.in_default-place_of.ensures.none refl exact k (subst (λ d. frame_at (frames_in (stations_of c.args.world.now) d) k ≡ Some c.args.frame.now) (sym same) there)) step
