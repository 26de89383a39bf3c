-- The steps of a replay: which the lines of a schedule make, and what is printed of them.
use Rattle.std.specs.Prelude.{◌≡◌, ℕ, List, [], ◌∷◌, ◌++◌, map, replicate, Option, Result, Ok, Err, codes}
use Rattle.std.specs.Fmt.{decimal}
use Rattle.std.specs.Io.KnownBytes.{Appends}
use Rattle.plan.specs.declared.draft.Draft.{Draft}
use Rattle.plan.specs.declared.input.Input.{Input}
use Rattle.plan.specs.Federation.{federate_count}
use Rattle.reactor_program.specs.Behaviour.{Behaviour}
use Rattle.world_stations.specs.declared.step.Step.{Step}
use Rattle.world_stations.specs.declared.outcome.Outcome.{Outcome}
use Rattle.world_stations.specs.declared.outcome.Outcome.TheVariants.{Nothing, Done, Refused}
use Rattle.world_stations.specs.Federation.{Federation, step_in}
use Rattle.world_progress.specs.Rounds.{Cursors, Playing, Task, makes, skips, with_made, steps_of_tasks, after_tasks}
use Rattle.world_progress.specs.Rounds.{round_tasks}
use Rattle.world.specs.World.{WorldView, stations_of, with_steps}
use Rattle.files_script.specs.declared.command.Command.{Command}
use Rattle.files_script.specs.declared.command.Command.TheVariants.{Make, Skip, Round}
use Rattle.files_script.specs.declared.script.ScheduleLine.{ScheduleLine}
use Rattle.fedrun_replay.specs.declared.fault.ReplayFault.{ReplayFault}
use Rattle.fedrun_replay.specs.declared.fault.ReplayFault.TheVariants.{World, CannotWrite}

-- a world by what it was made from and its steps, and the cursors
pub record PlayerView : Type 0 where
  pub world : WorldView
  pub cursors : Cursors

-- as rounds see it
abbrev pub playing_of : PlayerView → Playing
playing_of v = record { world = stations_of v.world; cursors = v.cursors }

-- how many federates it has
abbrev pub count_in : PlayerView → ℕ
count_in v = federate_count v.world.draft

-- a federation's world of which nothing was asked
abbrev pub unasked : Draft → List Behaviour → List Input → WorldView
unasked d programs inputs = record { draft = d; programs = programs; inputs = inputs; steps = [] }

-- this many cursors of each way, which rounds didn't move
abbrev pub unmoved : ℕ → Cursors
unmoved count = record { up = replicate count 0; down = replicate count 0 }

-- the player of a federation of which nothing was asked
abbrev pub unasked_player : Draft → List Behaviour → List Input → PlayerView
unasked_player d programs inputs = record { world = unasked d programs inputs; cursors = unmoved (federate_count d) }

-- what a line of a schedule asks for, with this many federates
abbrev pub tasks_of : ℕ → Command → List Task
tasks_of federates (Make step) = makes step ∷ []
tasks_of federates (Skip dir) = skips dir ∷ []
tasks_of federates Round = round_tasks federates

-- after the lines of a schedule, one after the other
abbrev pub after_lines : ℕ → List ScheduleLine → Playing → Playing
after_lines federates [] p = p
after_lines federates (line ∷ rest) p = after_lines federates rest (after_tasks (tasks_of federates line.command) p)

-- a step, and the line that it was made for
pub record Made : Type 0 where
  pub line : ℕ
  pub step : Step

-- steps that were made for one line
abbrev pub made_for : ℕ → List Step → List Made
made_for line steps = map (λ step. record { line = line; step = step }) steps

-- the steps that the lines of a schedule make, each with its line's number
abbrev pub made_by : ℕ → List ScheduleLine → Playing → List Made
made_by federates [] p = []
made_by federates (line ∷ rest) p =
    made_for line.number (steps_of_tasks (tasks_of federates line.command) p)
    ++ made_by federates rest (after_tasks (tasks_of federates line.command) p)

-- the steps of these, in order
abbrev pub steps_of : List Made → List Step
steps_of made = map (λ m. m.step) made

-- what is printed of a step made for this line, by how it ended
abbrev pub told : ℕ → Outcome → List ℕ
told line Nothing = []
told line Done = []
told line (Refused number) = codes "step " ++ (decimal line ++ (codes " refused " ++ (decimal number ++ codes "\n")))

-- what is printed of these steps, made one after the other in a world
abbrev pub refusals : Federation → List Made → List ℕ
refusals w [] = []
refusals w (made ∷ rest) = told made.line (step_in w made.step).outcome ++ refusals (step_in w made.step).world rest

-- a world came from another by just these steps, and a writer's bytes grew by what is printed of them
pub record Plays (made : List Made) (w later : WorldView) (before after : Option (List ℕ)) : Type 0 where
  pub later_is : later ≡ with_steps w (steps_of made)
  pub printed : Appends before after (refusals (stations_of w) made)

-- it came from it by the first of these steps
pub record PlaysSome (asked : List Made) (w later : WorldView) (before after : Option (List ℕ)) : Type 0 where
  pub made : List Made
  pub unmade : List Made
  pub first : asked ≡ made ++ unmade
  pub plays : Plays made w later before after

-- a player made just these steps, and then its world and cursors are these
pub record HasMade (asked : List Made) (then : Playing) (v later : PlayerView)
    (before after : Option (List ℕ)) : Type 0 where
  pub plays : Plays asked v.world later.world before after
  pub is : playing_of later ≡ then

-- where there was no memory for a step, those before it were made; what a writer holds after it refused isn't known
abbrev pub HasStopped : ReplayFault → List Made → WorldView → WorldView → Option (List ℕ) → Option (List ℕ) → Type 0
HasStopped (World memory) asked w later before after = PlaysSome asked w later before after
HasStopped CannotWrite asked w later before after = Unit {0}

-- a player was to make these steps
abbrev pub HasPlayed : {T : Type 0} → Result T ReplayFault → List Made → Playing → PlayerView → PlayerView
    → Option (List ℕ) → Option (List ℕ) → Type 0
HasPlayed (Ok done) asked then v later before after = HasMade asked then v later before after
HasPlayed (Err fault) asked then v later before after = HasStopped fault asked v.world later.world before after

-- a player was to make these steps for a line, and to move no cursor
abbrev pub HasTried : {T : Type 0} → Result T ReplayFault → ℕ → List Step → PlayerView → PlayerView → Option (List ℕ)
    → Option (List ℕ) → Type 0
HasTried result line steps v later before after =
    HasPlayed result (made_for line steps) (with_made (playing_of v) steps) v later before after

-- a player was to do this for a line
abbrev pub HasDone : {T : Type 0} → Result T ReplayFault → ℕ → List Task → PlayerView → PlayerView → Option (List ℕ)
    → Option (List ℕ) → Type 0
HasDone result line tasks v later before after =
    HasPlayed result (made_for line (steps_of_tasks tasks (playing_of v))) (after_tasks tasks (playing_of v)) v
    later before after
