use Rattle.std.proofs.Common.{◌≡◌, ◌+◌, ℕ, List, Option, Err, rules, sym, subst}
use Rattle.files_script.specs.declared.script.ScheduleLine.{ScheduleLine}
use Rattle.fedrun_replay.specs.Closing.{PlaysSchedule, IsPlaying}
use Rattle.fedrun_replay.proofs.Obeying.{Obeys, StopsIn}
use Rattle.fedrun_replay.proofs.Closed.{played_alone, stopped_in_lines, played_to_end}
use Rattle.fedrun_replay.proofs.player.Player.play_on.Goals as goal

pub returns-in_err-play : goal.returns-in_err-play
returns-in_err-play g c =
    let v = c.args.self.now in
    let later = c.play.new.self in
    let before = g.W.Write.contents c.args.out.now in
    let after = g.W.Write.contents c.play.new.out in
    let fault = c.in_err-play.field-0.0 in
    let failed : c.from_residual.result ≡ Err fault = search rules in
    stopped_in_lines c.from_residual.result fault c.args.script.now c.args.closing v later before after failed
    (subst (λ (lines : List ScheduleLine). StopsIn fault lines v later before after) c.lines.ensures c.in_err-play.ensures)

pub returns-in-Some : goal.returns-in-Some
returns-in-Some g c =
    let v = c.args.self.now in
    let mid = c.play.new.self in
    let before = g.W.Write.contents c.args.out.now in
    let between = g.W.Write.contents c.play.new.out in
    let last : c.line_after.result ≡ c.args.script.now.last_line + 1 = search rules in
    subst (λ (closing : Option ℕ). IsPlaying c.close.result c.args.script.now closing v c.close.new.self before (g.W.Write.contents c.close.new.out)) (sym c.in-Some.is)
    (played_to_end c.close.result c.args.script.now c.line_after.result c.in-Some.most v mid c.close.new.self before between (g.W.Write.contents c.close.new.out) last
    (subst (λ (lines : List ScheduleLine). Obeys lines v mid before between) c.lines.ensures c.in_ok-play.ensures) c.close.ensures)

pub returns-in-None : goal.returns-in-None
returns-in-None g c =
    let v = c.args.self.now in
    let mid = c.play.new.self in
    let before = g.W.Write.contents c.args.out.now in
    let between = g.W.Write.contents c.play.new.out in
    subst (λ (closing : Option ℕ). PlaysSchedule c.args.script.now closing v mid.world before between) (sym c.in-None.is)
    (played_alone c.args.script.now v mid before between
    (subst (λ (lines : List ScheduleLine). Obeys lines v mid before between) c.lines.ensures c.in_ok-play.ensures))
