use Rattle.std.proofs.Common.{◌≡◌, ◌≤◌, ◌<◌, ◌-◌, ℕ, subst, sym, ap, ◌∙◌, Err, rules, arith}
use Rattle.world_progress.specs.Rounds.{Cursors, cursor_in, delivers, with_made}
use Rattle.fedrun_replay.specs.Play.{playing_of, made_for}
use Rattle.fedrun_replay.proofs.Delivering.{Tries, tried_none, tried_next, tried_stopped, tried_all}
use Rattle.fedrun_replay.proofs.Doing.{if_stopped}
use Rattle.fedrun_replay.proofs.player.Player.deliver_until.Goals as goal

pub loop-gone-init : goal.loop-gone-init
loop-gone-init g c =
    let from = cursor_in c.args.self.now.cursors c.args.dir in
    let bytes = g.W.Write.contents c.args.out.now in
    let cursors : c.self.inside.cursors ≡ c.args.self.now.cursors = search rules in
    let at : c.at-gone.result ≡ from = c.at-gone.ensures ∙ ap (λ (cursors : Cursors). cursor_in cursors c.args.dir) cursors in
    record {
      few = omega arith;
      made =
          subst (λ (k : ℕ). Tries c.args.line (delivers c.args.dir from (k - from)) c.args.self.now c.args.self.now bytes bytes) (sym at)
          (tried_none c.args.line c.args.dir from c.args.self.now bytes);
    }

pub returns-in_err-make : goal.returns-in_err-make
returns-in_err-make g c =
    let v = c.args.self.now in
    let from = cursor_in v.cursors c.args.dir in
    let before = g.W.Write.contents c.args.out.now in
    let mid = g.W.Write.contents c.loop-gone.out in
    let after = g.W.Write.contents c.make.new.out in
    let fault = c.in_err-make.field-0.0 in
    let failed : c.from_residual.result ≡ Err fault = search rules in
    let cursors : c.self.inside.cursors ≡ c.args.self.now.cursors = search rules in
    let at : c.at-gone.result ≡ from = c.at-gone.ensures ∙ ap (λ (cursors : Cursors). cursor_in cursors c.args.dir) cursors in
    let within : from ≤ c.loop-gone.gone = omega arith in
    let below : c.loop-gone.gone < c.args.sent = omega arith in
    let steps = delivers c.args.dir from (c.args.sent - from) in
    if_stopped c.from_residual.result fault (made_for c.args.line steps) (with_made (playing_of v) steps) v c.make.new.self before after
    failed (tried_stopped fault c.args.line c.args.dir from c.loop-gone.gone c.args.sent v c.loop-gone.self c.make.new.self before mid after within below
    c.loop-gone.invariant.made c.in_err-make.ensures)

pub loop-gone-preserved : goal.loop-gone-preserved
loop-gone-preserved g c =
    let from = cursor_in c.args.self.now.cursors c.args.dir in
    let cursors : c.self.inside.cursors ≡ c.args.self.now.cursors = search rules in
    let at : c.at-gone.result ≡ from = c.at-gone.ensures ∙ ap (λ (cursors : Cursors). cursor_in cursors c.args.dir) cursors in
    let within : from ≤ c.loop-gone.gone = omega arith in
    let below : c.loop-gone.gone < c.args.sent = omega arith in
    record {
      few = omega arith;
      made =
          tried_next c.args.line c.args.dir from c.loop-gone.gone c.args.self.now c.loop-gone.self c.make.new.self (g.W.Write.contents c.args.out.now)
          (g.W.Write.contents c.loop-gone.out) (g.W.Write.contents c.make.new.out) within c.loop-gone.invariant.made c.in_ok-make.ensures;
    }

pub returns : goal.returns
returns g c =
    let from = cursor_in c.args.self.now.cursors c.args.dir in
    let cursors : c.self.inside.cursors ≡ c.args.self.now.cursors = search rules in
    let at : c.at-gone.result ≡ from = c.at-gone.ensures ∙ ap (λ (cursors : Cursors). cursor_in cursors c.args.dir) cursors in
    let all : c.loop-gone.gone - from ≡ c.args.sent - from = omega arith in
    tried_all c.args.line c.args.dir from c.loop-gone.gone c.args.sent c.args.self.now c.loop-gone.self (g.W.Write.contents c.args.out.now)
    (g.W.Write.contents c.loop-gone.out) all c.loop-gone.invariant.made
