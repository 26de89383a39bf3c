use Rattle.std.proofs.Common.{[], ◌∷◌, rules, ◌≡◌, subst, sym}
use Rattle.world_stations.specs.Federation.{step_in}
use Rattle.world.specs.World.{WorldView, stations_of, with_step}
use Rattle.fedrun_replay.specs.Play.{made_for, PlaysSome}
use Rattle.fedrun_replay.proofs.Playing.{some_of_none, played_one}
use Rattle.fedrun_replay.proofs.player.Player.make.Goals as goal

pub returns-in-Err : goal.returns-in-Err
returns-in-Err g c =
    let bytes = g.W.Write.contents c.args.out.now in
    let asked = made_for c.args.line (c.args.step ∷ []) in
    let same : c.apply.new.self ≡ c.args.self.now.world = search rules in
    subst (λ (w : WorldView). PlaysSome asked c.args.self.now.world w bytes bytes) (sym same) (some_of_none asked c.args.self.now.world bytes)

pub returns : goal.returns
returns g c =
    let world : c.self.inside.world ≡ c.args.self.now.world = search rules in
    let cursors : c.self.inside.cursors ≡ c.args.self.now.cursors = search rules in
    let one_more : c.apply.new.self ≡ with_step c.args.self.now.world c.args.step = search rules in
    let ended : c.in-Ok.outcome ≡ (step_in (stations_of c.args.self.now.world) c.args.step).outcome =
    subst (λ (w : WorldView). c.in-Ok.outcome ≡ (step_in (stations_of w) c.args.step).outcome) world c.in-Ok.ensures.outcome in
    played_one c.write_outcome.result c.args.self.now (record { world = c.apply.new.self; cursors = c.self.inside.cursors }) c.args.line c.args.step
    c.in-Ok.outcome (g.W.Write.contents c.args.out.now) (g.W.Write.contents c.write_outcome.new.out) one_more cursors ended c.write_outcome.ensures.ok
    c.write_outcome.ensures.err
