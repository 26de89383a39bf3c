use Rattle.std.proofs.Common.{◌≡◌, List, take, Err, rules, subst}
use Rattle.std.proofs.lemmas.List.{take_all}
use Rattle.files_script.specs.declared.script.ScheduleLine.{ScheduleLine}
use Rattle.fedrun_replay.specs.Play.{playing_of, count_in, made_by, after_lines}
use Rattle.fedrun_replay.proofs.Doing.{if_stopped}
use Rattle.fedrun_replay.proofs.Obeying.{Obeys, obeyed_none, obeyed_next, obeyed_stopped}
use Rattle.fedrun_replay.proofs.player.Player.play.Goals as goal

pub loop-line-init : goal.loop-line-init
loop-line-init g c = obeyed_none c.args.self.now (g.W.Write.contents c.args.out.now)

pub returns-in_err-obey : goal.returns-in_err-obey
returns-in_err-obey g c =
    let v = c.args.self.now in
    let before = g.W.Write.contents c.args.out.now in
    let after = g.W.Write.contents c.obey.new.out in
    let lines = c.args.lines.now in
    let fault = c.in_err-obey.field-0.0 in
    let failed : c.from_residual.result ≡ Err fault = search rules in
    if_stopped c.from_residual.result fault (made_by (count_in v) lines (playing_of v)) (after_lines (count_in v) lines (playing_of v)) v c.obey.new.self before after
    failed (obeyed_stopped fault lines c.loop-line.line-index _ v c.loop-line.self c.obey.new.self before (g.W.Write.contents c.loop-line.out) after
    c.loop-line-test.true c.loop-line.invariant c.in_err-obey.ensures)

pub loop-line-preserved : goal.loop-line-preserved
loop-line-preserved g c =
    obeyed_next c.args.lines.now c.loop-line.line-index _ c.args.self.now c.loop-line.self c.obey.new.self (g.W.Write.contents c.args.out.now)
    (g.W.Write.contents c.loop-line.out) (g.W.Write.contents c.obey.new.out) c.loop-line-test.true c.loop-line.invariant c.in_ok-obey.ensures

pub returns : goal.returns
returns g c =
    let lines = c.args.lines.now in
    let all : take c.loop-line.line-index lines ≡ lines = take_all c.loop-line.line-index lines c.loop-line-test.false in
    subst (λ (front : List ScheduleLine). Obeys front c.args.self.now c.loop-line.self (g.W.Write.contents c.args.out.now) (g.W.Write.contents c.loop-line.out)) all
    c.loop-line.invariant
