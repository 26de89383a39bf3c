use Rattle.std.proofs.Common.{◌≡◌, ℕ, List, Err, rules, subst}
use Rattle.world_progress.specs.Rounds.{Task, for_each, resend_tasks, round_tasks, closing_round_tasks, steps_of_tasks, after_tasks}
use Rattle.fedrun_replay.specs.Play.{playing_of, count_in, made_for, HasDone}
use Rattle.fedrun_replay.proofs.Doing.{done_on, stopped_early, if_stopped}
use Rattle.fedrun_replay.proofs.Obeying.{same_count}
use Rattle.fedrun_replay.proofs.player.Player.closing_round.Goals as goal

pub returns-in_err-resend_each : goal.returns-in_err-resend_each
returns-in_err-resend_each g c =
    let v = c.args.self.now in
    let n = count_in v in
    let before = g.W.Write.contents c.args.out.now in
    let after = g.W.Write.contents c.resend_each.new.out in
    let fault = c.in_err-resend_each.field-0.0 in
    let failed : c.from_residual.result ≡ Err fault = search rules in
    let all : List Task = closing_round_tasks n in
    if_stopped c.from_residual.result fault (made_for c.args.line (steps_of_tasks all (playing_of v))) (after_tasks all (playing_of v)) v c.resend_each.new.self before after
    failed (stopped_early fault c.args.line (for_each resend_tasks n) (round_tasks n) v c.resend_each.new.self before after c.in_err-resend_each.ensures)

pub returns : goal.returns
returns g c =
    let v = c.args.self.now in
    let n = count_in v in
    let before = g.W.Write.contents c.args.out.now in
    let mid = g.W.Write.contents c.resend_each.new.out in
    let after = g.W.Write.contents c.round.new.out in
    let same : count_in c.resend_each.new.self ≡ n =
    same_count (made_for c.args.line (steps_of_tasks (for_each resend_tasks n) (playing_of v))) v c.resend_each.new.self before mid c.in_ok-resend_each.ensures.plays in
    let round : HasDone c.round.result c.args.line (round_tasks n) c.resend_each.new.self c.round.new.self mid after =
    subst (λ (k : ℕ). HasDone c.round.result c.args.line (round_tasks k) c.resend_each.new.self c.round.new.self mid after) same c.round.ensures in
    done_on c.round.result c.args.line (for_each resend_tasks n) (round_tasks n) v c.resend_each.new.self c.round.new.self before mid after
    c.in_ok-resend_each.ensures round
