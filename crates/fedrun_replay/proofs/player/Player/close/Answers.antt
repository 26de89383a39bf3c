use Rattle.std.proofs.Common.{◌≡◌, ◌<◌, Err, rules, subst, arith}
use Rattle.std.proofs.lemmas.Bool.{iff_false}
use Rattle.world_stations.specs.Federation.{IsStuck}
use Rattle.world.specs.World.{WorldView, stations_of}
use Rattle.fedrun_replay.proofs.Closed.{closed_none, closed_next, closed_stopped, closed_stuck, closed_all}
use Rattle.fedrun_replay.proofs.player.Player.close.Goals as goal

pub loop-made-init : goal.loop-made-init
loop-made-init g c = closed_none c.args.line c.args.most c.args.self.now (g.W.Write.contents c.args.out.now)

pub returns-then-stuck : goal.returns-then-stuck
returns-then-stuck g c =
    let stuck : IsStuck (stations_of c.loop-made.self.world) = search rules in
    closed_stuck c.args.line c.args.most c.args.self.now c.loop-made.self (g.W.Write.contents c.args.out.now) (g.W.Write.contents c.loop-made.out)
    c.loop-made._made stuck c.loop-made.invariant

pub returns-in_err-closing_round : goal.returns-in_err-closing_round
returns-in_err-closing_round g c =
    let fault = c.in_err-closing_round.field-0.0 in
    let failed : c.from_residual.result ≡ Err fault = search rules in
    let world : c.self.inside.world ≡ c.loop-made.self.world = search rules in
    let not_stuck : ¬ (IsStuck (stations_of c.loop-made.self.world)) =
    subst (λ (w : WorldView). ¬ (IsStuck (stations_of w))) world (iff_false c.stuck.ensures c.if-stuck.false) in
    let below : c.loop-made._made < c.args.most = omega arith in
    closed_stopped c.from_residual.result fault c.args.line c.args.most c.args.self.now c.loop-made.self c.closing_round.new.self
    (g.W.Write.contents c.args.out.now) (g.W.Write.contents c.loop-made.out) (g.W.Write.contents c.closing_round.new.out) c.loop-made._made failed below
    not_stuck c.loop-made.invariant c.in_err-closing_round.ensures

pub loop-made-preserved : goal.loop-made-preserved
loop-made-preserved g c =
    let world : c.self.inside.world ≡ c.loop-made.self.world = search rules in
    let not_stuck : ¬ (IsStuck (stations_of c.loop-made.self.world)) =
    subst (λ (w : WorldView). ¬ (IsStuck (stations_of w))) world (iff_false c.stuck.ensures c.if-stuck.false) in
    let below : c.loop-made._made < c.args.most = omega arith in
    closed_next c.args.line c.args.most c.args.self.now c.loop-made.self c.closing_round.new.self (g.W.Write.contents c.args.out.now)
    (g.W.Write.contents c.loop-made.out) (g.W.Write.contents c.closing_round.new.out) c.loop-made._made below not_stuck c.loop-made.invariant
    c.in_ok-closing_round.ensures

pub returns : goal.returns
returns g c =
    let all : c.loop-made._made ≡ c.args.most = omega arith in
    closed_all c.args.line c.args.most c.args.self.now c.loop-made.self (g.W.Write.contents c.args.out.now) (g.W.Write.contents c.loop-made.out)
    c.loop-made._made all c.loop-made.invariant
