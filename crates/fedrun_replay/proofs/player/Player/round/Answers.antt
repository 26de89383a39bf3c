use Rattle.std.proofs.Common.{◌≡◌, ℕ, List, [], ◌∷◌, ◌++◌, Err, rules, subst, ◌∙◌}
use Rattle.world_stations.specs.declared.dir.Dir.TheVariants.{Up, Down}
use Rattle.world_progress.specs.Rounds.{Task, brings, for_each, turn_tasks, round_tasks, steps_of_tasks, after_tasks}
use Rattle.fedrun_replay.specs.Play.{playing_of, count_in, made_for, HasDone}
use Rattle.fedrun_replay.proofs.Doing.{Does, Stops, done_on, stopped_early, stopped_on, if_stopped}
use Rattle.fedrun_replay.proofs.Obeying.{same_count}
use Rattle.fedrun_replay.proofs.player.Player.round.Goals as goal

-- what each federate sent comes, and what was sent to each
abbrev ups : ℕ → List Task
ups n = for_each (λ j. brings (Up j) ∷ []) n

abbrev downs : ℕ → List Task
downs n = for_each (λ j. brings (Down j) ∷ []) n

pub returns-in_err-turn_each : goal.returns-in_err-turn_each
returns-in_err-turn_each g c =
    let v = c.args.self.now in
    let n = count_in v in
    let before = g.W.Write.contents c.args.out.now in
    let after = g.W.Write.contents c.turn_each.new.out in
    let fault = c.in_err-turn_each.field-0.0 in
    let failed : c.from_residual.result ≡ Err fault = search rules in
    let all : List Task = round_tasks n in
    if_stopped c.from_residual.result fault (made_for c.args.line (steps_of_tasks all (playing_of v))) (after_tasks all (playing_of v)) v c.turn_each.new.self before after
    failed (stopped_early fault c.args.line (for_each turn_tasks n) (ups n ++ downs n) v c.turn_each.new.self before after c.in_err-turn_each.ensures)

pub returns-in_err-deliver_from_each : goal.returns-in_err-deliver_from_each
returns-in_err-deliver_from_each g c =
    let v = c.args.self.now in
    let n = count_in v in
    let mid = c.turn_each.new.self in
    let later = c.deliver_from_each.new.self in
    let before = g.W.Write.contents c.args.out.now in
    let between = g.W.Write.contents c.turn_each.new.out in
    let after = g.W.Write.contents c.deliver_from_each.new.out in
    let fault = c.in_err-deliver_from_each.field-0.0 in
    let failed : c.from_residual-in_err-deliver_from_each.result ≡ Err fault = search rules in
    let all : List Task = round_tasks n in
    let same : count_in mid ≡ n =
    same_count (made_for c.args.line (steps_of_tasks (for_each turn_tasks n) (playing_of v))) v mid before between c.in_ok-turn_each.ensures.plays in
    let stopped : Stops fault c.args.line (ups n) mid later between after =
    subst (λ (k : ℕ). Stops fault c.args.line (ups k) mid later between after) same c.in_err-deliver_from_each.ensures in
    if_stopped c.from_residual-in_err-deliver_from_each.result fault (made_for c.args.line (steps_of_tasks all (playing_of v))) (after_tasks all (playing_of v)) v later before after
    failed (stopped_on fault c.args.line (for_each turn_tasks n) (ups n ++ downs n) v mid later before between after c.in_ok-turn_each.ensures
    (stopped_early fault c.args.line (ups n) (downs n) mid later between after stopped))

pub returns : goal.returns
returns g c =
    let v = c.args.self.now in
    let n = count_in v in
    let first = c.turn_each.new.self in
    let mid = c.deliver_from_each.new.self in
    let later = c.deliver_to_each.new.self in
    let a = g.W.Write.contents c.args.out.now in
    let b = g.W.Write.contents c.turn_each.new.out in
    let d = g.W.Write.contents c.deliver_from_each.new.out in
    let e = g.W.Write.contents c.deliver_to_each.new.out in
    let same : count_in first ≡ n =
    same_count (made_for c.args.line (steps_of_tasks (for_each turn_tasks n) (playing_of v))) v first a b c.in_ok-turn_each.ensures.plays in
    let came : Does c.args.line (ups n) first mid b d =
    subst (λ (k : ℕ). Does c.args.line (ups k) first mid b d) same c.in_ok-deliver_from_each.ensures in
    let same_then : count_in mid ≡ n =
    same_count (made_for c.args.line (steps_of_tasks (ups n) (playing_of first))) first mid b d came.plays ∙ same in
    let last : HasDone c.deliver_to_each.result c.args.line (downs n) mid later d e =
    subst (λ (k : ℕ). HasDone c.deliver_to_each.result c.args.line (downs k) mid later d e) same_then c.deliver_to_each.ensures in
    done_on c.deliver_to_each.result c.args.line (for_each turn_tasks n) (ups n ++ downs n) v first later a b e c.in_ok-turn_each.ensures
    (done_on c.deliver_to_each.result c.args.line (ups n) (downs n) first mid later b d e came last)
