use Rattle.std.proofs.Common.{◌≡◌, ◌<◌, [], ◌∷◌, Err, rules, arith}
use Rattle.world_stations.specs.declared.dir.Dir.TheVariants.{Up}
use Rattle.world_progress.specs.Rounds.{brings}
use Rattle.fedrun_replay.specs.Play.{count_in}
use Rattle.fedrun_replay.proofs.Doing.{does_nothing, each_on, each_failed, each_all, counted}
use Rattle.fedrun_replay.proofs.player.Player.deliver_from_each.Goals as goal

pub loop-sender-init : goal.loop-sender-init
loop-sender-init g c = does_nothing c.args.line c.args.self.now (g.W.Write.contents c.args.out.now)

pub returns-in_err-deliver : goal.returns-in_err-deliver
returns-in_err-deliver g c =
    let fault = c.in_err-deliver.field-0.0 in
    let failed : c.from_residual.result ≡ Err fault = search rules in
    let world : c.self.inside.world ≡ c.args.self.now.world = search rules in
    let count = counted c.federate_count-count.result c.self.inside.world c.args.self.now c.federate_count-count.ensures world in
    let below : c.loop-sender.sender < count_in c.args.self.now = omega arith in
    each_failed c.from_residual.result fault c.args.line (λ sender. brings (Up sender) ∷ []) c.loop-sender.sender c.args.self.now c.loop-sender.self c.deliver.new.self
    (g.W.Write.contents c.args.out.now) (g.W.Write.contents c.loop-sender.out) (g.W.Write.contents c.deliver.new.out) failed below c.loop-sender.invariant
    c.in_err-deliver.ensures

pub loop-sender-preserved : goal.loop-sender-preserved
loop-sender-preserved g c =
    each_on c.args.line (λ sender. brings (Up sender) ∷ []) c.loop-sender.sender c.args.self.now c.loop-sender.self c.deliver.new.self (g.W.Write.contents c.args.out.now)
    (g.W.Write.contents c.loop-sender.out) (g.W.Write.contents c.deliver.new.out) c.loop-sender.invariant c.in_ok-deliver.ensures

pub returns : goal.returns
returns g c =
    let world : c.self.inside.world ≡ c.args.self.now.world = search rules in
    let count = counted c.federate_count-count.result c.self.inside.world c.args.self.now c.federate_count-count.ensures world in
    let all : c.loop-sender.sender ≡ count_in c.args.self.now = omega arith in
    each_all c.args.line (λ sender. brings (Up sender) ∷ []) c.loop-sender.sender (count_in c.args.self.now) c.args.self.now c.loop-sender.self (g.W.Write.contents c.args.out.now)
    (g.W.Write.contents c.loop-sender.out) all c.loop-sender.invariant
