-- Where the lines of a schedule by which nobody forgets leave a player: nobody forgot, and rounds went past no more frames than were sent.
use Rattle.std.proofs.Common.{◌≡◌, ℕ, zero, suc, ◌-◌, ◌≤◌, false, List, [], ◌∷◌, ◌++◌, refl, sym, ap, ◌∙◌, subst, arith}
use Rattle.std.specs.List.{list_any, AllByRecursion}
use Rattle.std.proofs.lemmas.Bool.{or_parts, or_from}
use Rattle.network.specs.Tables.{IsLawfulWith}
use Rattle.network_laws.proofs.Lists.{each_append}
use Rattle.plan.specs.declared.draft.Draft.{Draft}
use Rattle.plan.specs.declared.input.Input.{Input}
use Rattle.plan.specs.Federation.{federate_count}
use Rattle.plan.specs.Least.{least_of}
use Rattle.reactor_program.specs.Behaviour.{Behaviour}
use Rattle.plan_network.specs.Network.{network_of}
use Rattle.node_cores.specs.FederateCore.{federate_core}
use Rattle.node_cores.specs.CoordinatorCore.{coordinator_core}
use Rattle.world_stations.specs.declared.dir.Dir.{Dir}
use Rattle.world_stations.specs.declared.dir.Dir.TheVariants.{Up, Down}
use Rattle.world_stations.specs.declared.step.Step.{Step}
use Rattle.world_stations.specs.World.{after_steps}
use Rattle.world_stations.specs.Kept.{is_forget}
use Rattle.world_stations.specs.Federation.{Federation, initial_world, world_after}
use Rattle.world_progress.specs.Rounds.{Playing, cursor_in, sent_in, waiting, Task, makes, brings, skips, after_task, after_tasks, for_each, turn_tasks, round_tasks, IsWithinSent}
use Rattle.world_progress.proofs.TaskLists.{world_after_append}
use Rattle.world_progress.proofs.Reached.{Reached}
use Rattle.world_progress.proofs.Serving.{AreWithin, deliveries_keep, within_cursor, within_task}
use Rattle.world_progress.proofs.Halting.{reached_steps}
use Rattle.files_script.specs.declared.command.Command.{Command}
use Rattle.files_script.specs.declared.command.Command.TheVariants.{Make, Skip, Round}
use Rattle.files_script.specs.declared.script.ScheduleLine.{ScheduleLine}
use Rattle.fedrun_replay.specs.Play.{playing_of, unmoved, unasked_player, tasks_of, after_lines}
use Rattle.fedrun_replay.specs.Enough.{is_forgetting}

-- nobody forgets by any of these steps
abbrev AreKeeping : List Step → Type 0
AreKeeping steps = AllByRecursion (λ (step : Step). is_forget step ≡ false) steps

keeping_more : (steps more : List Step) → list_any is_forget steps ≡ false → AreKeeping more → list_any is_forget (steps ++ more) ≡ false
keeping_more [] [] none keeping = refl
keeping_more [] (step ∷ rest) none keeping = or_from (is_forget step) (list_any is_forget rest) keeping.0 (keeping_more [] rest refl keeping.1)
keeping_more (step ∷ rest) more none keeping =
    let both = or_parts (is_forget step) (list_any is_forget rest) none in
    or_from (is_forget step) (list_any is_forget (rest ++ more)) both.0 (keeping_more rest more both.1 keeping)

-- nobody forgets by a task
abbrev IsKeeping : Task → Type 0
IsKeeping (makes step) = is_forget step ≡ false
IsKeeping (brings dir) = Unit {0}
IsKeeping (skips dir) = Unit {0}

each_keeping : (tasks : ℕ → List Task) → ((j : ℕ) → AllByRecursion IsKeeping (tasks j)) → (count : ℕ) → AllByRecursion IsKeeping (for_each tasks count)
each_keeping tasks each zero = tt
each_keeping tasks each (suc count) = each_append IsKeeping (for_each tasks count) (tasks count) (each_keeping tasks each count) (each count)

abbrev ups : ℕ → List Task
ups count = for_each (λ j. brings (Up j) ∷ []) count

abbrev downs : ℕ → List Task
downs count = for_each (λ j. brings (Down j) ∷ []) count

round_keeping : (count : ℕ) → AllByRecursion IsKeeping (round_tasks count)
round_keeping count =
    each_append IsKeeping (for_each turn_tasks count) (ups count ++ downs count) (each_keeping turn_tasks (λ j. (refl, (refl, tt))) count)
    (each_append IsKeeping (ups count) (downs count) (each_keeping (λ j. brings (Up j) ∷ []) (λ j. (tt, tt)) count)
    (each_keeping (λ j. brings (Down j) ∷ []) (λ j. (tt, tt)) count))

command_keeping : (count : ℕ) (command : Command) → is_forgetting command ≡ false → AllByRecursion IsKeeping (tasks_of count command)
command_keeping count (Make step) keeps = (keeps, tt)
command_keeping count (Skip dir) keeps = (tt, tt)
command_keeping count Round keeps = round_keeping count

-- the world after these steps from another
abbrev after : Federation → List Step → Federation
after w steps = after_steps coordinator_core federate_core w steps

-- nobody forgot in a player's world, and rounds went past no more frames than were sent
pub record IsLeft (d : Draft) (programs : List Behaviour) (inputs : List Input) (p : Playing) : Type 0 where
  pub steps : List Step
  pub kept : list_any is_forget steps ≡ false
  pub is : p.world ≡ world_after d programs inputs steps
  pub within : AreWithin d p

-- no cursor was moved yet
unmoved_up : (count j : ℕ) → cursor_in (unmoved count) (Up j) ≡ 0
unmoved_up zero j = refl
unmoved_up (suc count) zero = refl
unmoved_up (suc count) (suc j) = unmoved_up count j

unmoved_there : (count : ℕ) (dir : Dir) → cursor_in (unmoved count) dir ≡ 0
unmoved_there count (Up j) = unmoved_up count j
unmoved_there count (Down j) = unmoved_up count j

none_passed : (sent : ℕ) → 0 ≤ sent
none_passed sent = omega arith

pub unasked_left : (d : Draft) (programs : List Behaviour) (inputs : List Input) → IsLeft d programs inputs (playing_of (unasked_player d programs inputs))
unasked_left d programs inputs = record {
  steps = [];
  kept = refl;
  is = refl;
  within = λ dir below. (
      let sent : ℕ = sent_in (playing_of (unasked_player d programs inputs)) dir in
      subst (λ (cursor : ℕ). cursor ≤ sent) (sym (unmoved_there (federate_count d) dir)) (none_passed sent)
      );
}

module _ (d : Draft) (programs : List Behaviour) (inputs : List Input) (lawful : IsLawfulWith (network_of d programs inputs) (least_of d)) where
  reached_left : (p : Playing) → IsLeft d programs inputs p → Reached d programs inputs p.world
  reached_left p left =
      let P : Federation → Type 0 = λ w. Reached d programs inputs w in
      subst P (sym left.is) (reached_steps d programs inputs lawful left.steps left.kept)

  world_left : (p : Playing) (more : List Step) → (left : IsLeft d programs inputs p) → after p.world more ≡ world_after d programs inputs (left.steps ++ more)
  world_left p more left =
      ap (λ (w : Federation). after w more) left.is ∙ sym (world_after_append (initial_world d programs inputs) left.steps more)

  task_left : (task : Task) (p : Playing) → IsKeeping task → IsLeft d programs inputs p → IsLeft d programs inputs (after_task task p)
  task_left (makes step) p keeps left = record {
    steps = left.steps ++ step ∷ [];
    kept = keeping_more left.steps (step ∷ []) left.kept (keeps, tt);
    is = world_left p (step ∷ []) left;
    within = within_task d programs inputs lawful p.world (reached_left p left) p (makes step) keeps (reached_left p left) left.within;
  }
  task_left (brings dir) p keeps left = record {
    steps = left.steps ++ waiting p dir;
    kept = keeping_more left.steps (waiting p dir) left.kept (deliveries_keep dir (cursor_in p.cursors dir) (sent_in p dir - cursor_in p.cursors dir));
    is = world_left p (waiting p dir) left;
    within = within_task d programs inputs lawful p.world (reached_left p left) p (brings dir) tt (reached_left p left) left.within;
  }
  task_left (skips dir) p keeps left =
      record { steps = left.steps; kept = left.kept; is = left.is; within = within_cursor d programs inputs lawful p.world (reached_left p left) p dir left.within }

  tasks_left : (tasks : List Task) (p : Playing) → AllByRecursion IsKeeping tasks → IsLeft d programs inputs p → IsLeft d programs inputs (after_tasks tasks p)
  tasks_left [] p keeps left = left
  tasks_left (task ∷ rest) p keeps left = tasks_left rest (after_task task p) keeps.1 (task_left task p keeps.0 left)

  pub lines_left : (lines : List ScheduleLine) (p : Playing) → list_any (λ (line : ScheduleLine). is_forgetting line.command) lines ≡ false
      → IsLeft d programs inputs p → IsLeft d programs inputs (after_lines (federate_count d) lines p)
  lines_left [] p none left = left
  lines_left (line ∷ rest) p none left =
      let both = or_parts (is_forgetting line.command) (list_any (λ (l : ScheduleLine). is_forgetting l.command) rest) none in
      let tasks : List Task = tasks_of (federate_count d) line.command in
      lines_left rest (after_tasks tasks p) both.1 (tasks_left tasks p (command_keeping (federate_count d) line.command both.0) left)

  -- no more frames of a federate's direction
  pub within_left : (p : Playing) → IsLeft d programs inputs p → IsWithinSent p
  within_left p left dir below =
      let reached = reached_left p left in
      let size = reached.run.shown.federates in
      left.within dir (omega arith)
