use Rattle.std.proofs.Common.{◌≡◌, ◌<◌, Err, rules, arith}
use Rattle.world_progress.specs.Rounds.{turn_tasks}
use Rattle.fedrun_replay.specs.Play.{count_in}
use Rattle.fedrun_replay.proofs.Doing.{does_nothing, each_on, each_failed, each_all, counted}
use Rattle.fedrun_replay.proofs.player.Player.turn_each.Goals as goal

pub loop-federate-init : goal.loop-federate-init
loop-federate-init g c = does_nothing c.args.line c.args.self.now (g.W.Write.contents c.args.out.now)

pub returns-in_err-turn : goal.returns-in_err-turn
returns-in_err-turn g c =
    let fault = c.in_err-turn.field-0.0 in
    let failed : c.from_residual.result ≡ Err fault = search rules in
    let world : c.self.inside.world ≡ c.args.self.now.world = search rules in
    let count = counted c.federate_count-count.result c.self.inside.world c.args.self.now c.federate_count-count.ensures world in
    let below : c.loop-federate.federate < count_in c.args.self.now = omega arith in
    each_failed c.from_residual.result fault c.args.line turn_tasks c.loop-federate.federate c.args.self.now c.loop-federate.self c.turn.new.self
    (g.W.Write.contents c.args.out.now) (g.W.Write.contents c.loop-federate.out) (g.W.Write.contents c.turn.new.out) failed below c.loop-federate.invariant
    c.in_err-turn.ensures

pub loop-federate-preserved : goal.loop-federate-preserved
loop-federate-preserved g c =
    each_on c.args.line turn_tasks c.loop-federate.federate c.args.self.now c.loop-federate.self c.turn.new.self (g.W.Write.contents c.args.out.now)
    (g.W.Write.contents c.loop-federate.out) (g.W.Write.contents c.turn.new.out) c.loop-federate.invariant c.in_ok-turn.ensures

pub returns : goal.returns
returns g c =
    let world : c.self.inside.world ≡ c.args.self.now.world = search rules in
    let count = counted c.federate_count-count.result c.self.inside.world c.args.self.now c.federate_count-count.ensures world in
    let all : c.loop-federate.federate ≡ count_in c.args.self.now = omega arith in
    each_all c.args.line turn_tasks c.loop-federate.federate (count_in c.args.self.now) c.args.self.now c.loop-federate.self (g.W.Write.contents c.args.out.now)
    (g.W.Write.contents c.loop-federate.out) all c.loop-federate.invariant
