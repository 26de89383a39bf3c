use Rattle.std.proofs.Common.{◌≡◌, ◌-◌, ℕ, List, [], ◌∷◌, length, subst, ap, ◌∙◌, Err, rules}
use Rattle.world_stations.specs.World.{frames_in}
use Rattle.world.specs.World.{WorldView, stations_of}
use Rattle.world_progress.specs.Rounds.{Cursors, Task, brings, cursor_in, delivers, waiting, moved_to, sent_in, steps_of_tasks, after_tasks}
use Rattle.fedrun_replay.specs.Play.{playing_of, made_for, HasStopped}
use Rattle.fedrun_replay.proofs.Doing.{if_stopped}
use Rattle.fedrun_replay.proofs.Delivering.{Tries, brought, brought_stopped}
use Rattle.fedrun_replay.proofs.player.Player.deliver.Goals as goal

pub returns-in_err-deliver_until : goal.returns-in_err-deliver_until
returns-in_err-deliver_until g c =
    let v = c.args.self.now in
    let dir = c.args.dir in
    let from = cursor_in v.cursors dir in
    let before = g.W.Write.contents c.args.out.now in
    let after = g.W.Write.contents c.deliver_until.new.out in
    let fault = c.in_err-deliver_until.field-0.0 in
    let failed : c.from_residual.result ≡ Err fault = search rules in
    let world : c.self.inside.world ≡ v.world = search rules in
    let sent : c.sent-sent.result ≡ sent_in (playing_of v) dir =
    c.sent-sent.ensures ∙ ap (λ (w : WorldView). length (frames_in (stations_of w) dir)) world in
    let all : List Task = brings dir ∷ [] in
    let stopped : HasStopped fault (made_for c.args.line (waiting (playing_of v) dir)) v.world c.deliver_until.new.self.world before after =
    subst (λ (n : ℕ). HasStopped fault (made_for c.args.line (delivers dir from (n - from))) v.world c.deliver_until.new.self.world before after) sent
    c.in_err-deliver_until.ensures in
    if_stopped c.from_residual.result fault (made_for c.args.line (steps_of_tasks all (playing_of v))) (after_tasks all (playing_of v)) v c.deliver_until.new.self before after
    failed (brought_stopped fault c.args.line dir v c.deliver_until.new.self before after stopped)

pub returns : goal.returns
returns g c =
    let v = c.args.self.now in
    let dir = c.args.dir in
    let from = cursor_in v.cursors dir in
    let before = g.W.Write.contents c.args.out.now in
    let after = g.W.Write.contents c.deliver_until.new.out in
    let mid = c.deliver_until.new.self in
    let world : c.self.inside.world ≡ v.world = search rules in
    let sent : c.sent-sent.result ≡ sent_in (playing_of v) dir =
    c.sent-sent.ensures ∙ ap (λ (w : WorldView). length (frames_in (stations_of w) dir)) world in
    let came : Tries c.args.line (waiting (playing_of v) dir) v mid before after =
    subst (λ (n : ℕ). Tries c.args.line (delivers dir from (n - from)) v mid before after) sent c.in_ok-deliver_until.ensures in
    let world_then : c.self-2.inside.world ≡ mid.world = search rules in
    let cursors_then : c.self-2.inside.cursors ≡ mid.cursors = search rules in
    let moved : c.go_to.new.self ≡ moved_to mid.cursors dir c.sent-sent.result =
    c.go_to.ensures ∙ ap (λ (cursors : Cursors). moved_to cursors dir c.sent-sent.result) cursors_then in
    brought c.args.line dir c.sent-sent.result v mid (record { world = c.self-2.inside.world; cursors = c.go_to.new.self }) before after sent world_then moved came
