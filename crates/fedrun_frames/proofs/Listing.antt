-- Steps that are listed as a player makes them.
use Rattle.std.proofs.Common.{◌≡◌, ℕ, ◌+◌, ◌<◌, inl, List, [], ◌∷◌, ◌++◌, length, get_or, take, drop, Option, None, Some, Ok, refl, sym, ap, ◌∙◌, subst, append_assoc, append-nil, arith}
use Rattle.std.proofs.lemmas.List.{take_more, map-append}
use Rattle.std.proofs.Math.Seq.{drop-append_seam}
use Rattle.plan.specs.declared.draft.Draft.{Draft}
use Rattle.plan.specs.declared.input.Input.{Input}
use Rattle.plan.specs.Federation.{federate_count}
use Rattle.reactor_program.specs.Behaviour.{Behaviour}
use Rattle.world_stations.specs.declared.step.Step.{Step}
use Rattle.world_progress.specs.Rounds.{Playing, Task, steps_of_tasks, after_tasks, closing_rounds_tasks}
use Rattle.world.specs.World.{WorldView, with_steps}
use Rattle.files_script.specs.declared.script.ScheduleLine.{ScheduleLine}
use Rattle.files_script.specs.Scripts.{Script}
use Rattle.fedrun_replay.specs.Play.{PlayerView, Made, playing_of, count_in, tasks_of, after_lines, made_for, made_by, steps_of, unasked_player, HasDone}
use Rattle.fedrun_replay.specs.Closing.{MakesAll, HasClosed}
use Rattle.fedrun_replay.proofs.Playing.{steps_made_for}
use Rattle.fedrun_replay.proofs.Obeying.{made_by_append, after_lines_append, same_count}
use Rattle.fedrun_frames.specs.Making.{ListsTasks, ListsLines, ListsRounds, ListsClosing}
use Rattle.fedrun_frames.specs.Shown.{AreStepsOf, unplayed}

-- the steps that a world has more than another
new_steps : (made : List Step) (w later : WorldView) → later ≡ with_steps w made → drop (length w.steps) later.steps ≡ made
new_steps made w later is = ap (λ (v : WorldView). drop (length w.steps) v.steps) is ∙ drop-append_seam w.steps made

-- a player did tasks, and the steps that it has more were listed
pub lists_tasks : (line : ℕ) (tasks : List Task) (v later : PlayerView) (a b : Option (List ℕ)) (before after : List Made)
    → HasDone {T = Unit {0}} (Ok tt) line tasks v later a b → after ≡ before ++ made_for line (drop (length v.world.steps) later.world.steps)
    → ListsTasks line tasks v later before after
lists_tasks line tasks v later a b before after done are =
    let steps : List Step = steps_of_tasks tasks (playing_of v) in
    let new : drop (length v.world.steps) later.world.steps ≡ steps =
    new_steps (steps_of (made_for line steps)) v.world later.world done.plays.later_is ∙ steps_made_for line steps in
    record {
      listed = are ∙ ap (λ (s : List Step). before ++ made_for line s) new;
      is = done.is;
      count = same_count (made_for line steps) v later a b done.plays;
    }

-- it made closing rounds, and the steps that it has more were listed
pub lists_rounds : (line most : ℕ) (v later : PlayerView) (a b : Option (List ℕ)) (before after : List Made)
    → HasClosed line most v later a b → after ≡ before ++ made_for line (drop (length v.world.steps) later.world.steps)
    → ListsRounds line most v before after
lists_rounds line most v later a b before after closed are =
    let steps : List Step = steps_of_tasks (closing_rounds_tasks (count_in v) closed.rounds) (playing_of v) in
    let new : drop (length v.world.steps) later.world.steps ≡ steps =
    new_steps (steps_of (made_for line steps)) v.world later.world closed.made.plays.later_is ∙ steps_made_for line steps in
    record {
      rounds = closed.rounds;
      all = closed.all;
      listed = are ∙ ap (λ (s : List Step). before ++ made_for line s) new;
    }

-- no line asks for anything
pub lines_none : (v : PlayerView) (made : List Made) → ListsLines [] v v made made
lines_none v made = record { listed = sym (append-nil made); is = refl; count = refl }

-- the line at this place was done too
pub lines_next : (lines : List ScheduleLine) (place : ℕ) (x : ScheduleLine) (v mid later : PlayerView) (before between after : List Made) → place < length lines
    → ListsLines (take place lines) v mid before between
    → ListsTasks (get_or lines place x).number (tasks_of (count_in mid) (get_or lines place x).command) mid later between after
    → ListsLines (take (place + 1) lines) v later before after
lines_next lines place x v mid later before between after there first more =
    let xs : List ScheduleLine = take place lines in
    let line : ScheduleLine = get_or lines place x in
    let n : ℕ = count_in v in
    let p : Playing = playing_of v in
    let tasks : List Task = tasks_of n line.command in
    let new : List Made = made_for line.number (steps_of_tasks tasks (playing_of mid)) in
    let here : ListsTasks line.number tasks mid later between after =
    subst (λ (k : ℕ). ListsTasks line.number (tasks_of k line.command) mid later between after) first.count more in
    let made : made_by n (xs ++ line ∷ []) p ≡ made_by n xs p ++ new =
    made_by_append n xs (line ∷ []) p
    ∙ ap (λ (one : List Made). made_by n xs p ++ one) (append-nil (made_for line.number (steps_of_tasks tasks (after_lines n xs p))))
    ∙ ap (λ (q : Playing). made_by n xs p ++ made_for line.number (steps_of_tasks tasks q)) (sym first.is) in
    subst (λ (front : List ScheduleLine). ListsLines front v later before after) (sym (take_more lines place x there))
    (record {
      listed =
          here.listed ∙ ap (λ (front : List Made). front ++ new) first.listed ∙ append_assoc before (made_by n xs p) new
          ∙ ap (λ (all : List Made). before ++ all) (sym made);
      is = here.is ∙ ap (after_tasks tasks) first.is ∙ sym (after_lines_append n xs (line ∷ []) p);
      count = here.count ∙ first.count;
    })

-- the step at this place was listed too
pub steps_next : (line : ℕ) (steps : List Step) (place : ℕ) (x : Step) (before between after : List Made) (step : Step) → place < length steps
    → step ≡ get_or steps place x → between ≡ before ++ made_for line (take place steps) → after ≡ between ++ (record { line = line; step = step }) ∷ []
    → after ≡ before ++ made_for line (take (place + 1) steps)
steps_next line steps place x before between after step there is so_far one =
    let as_made : Step → Made = λ (s : Step). record { line = line; step = s } in
    one ∙ ap (λ (front : List Made). front ++ as_made step ∷ []) so_far ∙ append_assoc before (made_for line (take place steps)) (as_made step ∷ [])
    ∙ ap (λ (s : Step). before ++ (made_for line (take place steps) ++ as_made s ∷ [])) is
    ∙ ap (λ (made : List Made). before ++ made) (sym (map-append as_made (take place steps) (get_or steps place x ∷ [])))
    ∙ ap (λ (front : List Step). before ++ made_for line front) (sym (take_more steps place x there))

module _ (d : Draft) (programs : List Behaviour) (inputs : List Input) (s : Script) where
  abbrev n : ℕ
  n = federate_count d

  abbrev p : Playing
  p = unplayed d programs inputs

  -- no closing round is asked for
  pub steps_alone : (later : PlayerView) (made : List Made) → ListsLines s.lines (unasked_player d programs inputs) later [] made
      → AreStepsOf d programs inputs s None made
  steps_alone later made lists = record {
    rounds = 0;
    all = record { may = record { at_most = omega arith; not_before = λ earlier less. absurd (omega arith) }; ended = inl refl };
    are = lists.listed ∙ sym (append-nil (made_by n s.lines p));
  }

  -- closing rounds were made for the line after the last
  pub steps_to_end : (line most : ℕ) (mid : PlayerView) (between made : List Made) → line ≡ s.last_line + 1
      → ListsLines s.lines (unasked_player d programs inputs) mid [] between → ListsRounds line most mid between made
      → AreStepsOf d programs inputs s (Some most) made
  steps_to_end line most mid between made last lists rounds = record {
    rounds = rounds.rounds;
    all =
        subst (λ (q : Playing). MakesAll n most q rounds.rounds) lists.is
        (subst (λ (k : ℕ). MakesAll k most (playing_of mid) rounds.rounds) lists.count rounds.all);
    are =
        rounds.listed
        ∙ ap (λ (front : List Made). front ++ made_for line (steps_of_tasks (closing_rounds_tasks (count_in mid) rounds.rounds) (playing_of mid))) lists.listed
        ∙ ap (λ (l : ℕ). made_by n s.lines p ++ made_for l (steps_of_tasks (closing_rounds_tasks (count_in mid) rounds.rounds) (playing_of mid))) last
        ∙ ap (λ (k : ℕ). made_by n s.lines p ++ made_for (s.last_line + 1) (steps_of_tasks (closing_rounds_tasks k rounds.rounds) (playing_of mid))) lists.count
        ∙ ap (λ (q : Playing). made_by n s.lines p ++ made_for (s.last_line + 1) (steps_of_tasks (closing_rounds_tasks n rounds.rounds) q)) lists.is;
  }

  -- all of them
  pub steps_listed : (closing : Option ℕ) (mid : PlayerView) (between made : List Made) → ListsLines s.lines (unasked_player d programs inputs) mid [] between
      → ListsClosing s closing mid between made → AreStepsOf d programs inputs s closing made
  steps_listed None mid between made lists same =
      steps_alone mid made (subst (λ (all : List Made). ListsLines s.lines (unasked_player d programs inputs) mid [] all) (sym same) lists)
  steps_listed (Some most) mid between made lists rounds = steps_to_end (s.last_line + 1) most mid between made refl lists rounds
