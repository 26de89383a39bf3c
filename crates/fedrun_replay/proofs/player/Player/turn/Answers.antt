use Rattle.std.proofs.Common.{◌≡◌, List, [], ◌∷◌, Err, rules}
use Rattle.world_stations.specs.declared.step.Step.TheVariants.{Announce, Advance}
use Rattle.world_progress.specs.Rounds.{Task, makes, turn_tasks, steps_of_tasks, after_tasks}
use Rattle.fedrun_replay.specs.Play.{playing_of, made_for}
use Rattle.fedrun_replay.proofs.Doing.{done_on, stopped_early, if_stopped}
use Rattle.fedrun_replay.proofs.player.Player.turn.Goals as goal

pub returns-in_err-make : goal.returns-in_err-make
returns-in_err-make g c =
    let v = c.args.self.now in
    let before = g.W.Write.contents c.args.out.now in
    let after = g.W.Write.contents c.make.new.out in
    let fault = c.in_err-make.field-0.0 in
    let failed : c.from_residual.result ≡ Err fault = search rules in
    let first : List Task = makes (Announce c.args.federate) ∷ [] in
    let then : List Task = makes (Advance c.args.federate) ∷ [] in
    let all : List Task = turn_tasks c.args.federate in
    if_stopped c.from_residual.result fault (made_for c.args.line (steps_of_tasks all (playing_of v))) (after_tasks all (playing_of v)) v c.make.new.self before after
    failed (stopped_early fault c.args.line first then v c.make.new.self before after c.in_err-make.ensures)

pub returns : goal.returns
returns g c =
    let first : List Task = makes (Announce c.args.federate) ∷ [] in
    let then : List Task = makes (Advance c.args.federate) ∷ [] in
    done_on c.make-2.result c.args.line first then c.args.self.now c.make.new.self c.make-2.new.self (g.W.Write.contents c.args.out.now)
    (g.W.Write.contents c.make.new.out) (g.W.Write.contents c.make-2.new.out) c.in_ok-make.ensures c.make-2.ensures
