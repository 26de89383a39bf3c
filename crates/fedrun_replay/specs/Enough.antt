-- When closing rounds are enough, and how a replay ends then.
use Rattle.std.specs.Prelude.{◌≡◌, ℕ, ◌*◌, ◌≤◌, Bool, false, List, ◌++◌, Option, None, Some, codes}
use Rattle.std.specs.List.{list_any}
use Rattle.std.specs.Io.KnownBytes.{Appends}
use Rattle.network.specs.Undivided.{Row, whole, part}
use Rattle.plan.specs.declared.draft.Draft.{Draft}
use Rattle.plan.specs.declared.input.Input.{Input}
use Rattle.plan.specs.Federation.{federate_count}
use Rattle.reactor_program.specs.Behaviour.{Behaviour}
use Rattle.plan_network.specs.Network.{network_of}
use Rattle.world_stations.specs.Kept.{is_forget}
use Rattle.world_stations.specs.Federation.{IsStuck}
use Rattle.world_progress.specs.Fuel.{enough_turns, fuel_of}
use Rattle.world.specs.World.{WorldView, stations_of}
use Rattle.files_text.specs.declared.row_format.RowFormat.TheVariants.{Csv}
use Rattle.files_text.specs.RowText.{printed_rows}
use Rattle.files_text.specs.CsvText.{csv_header}
use Rattle.files_text.specs.Formats.{formatted_rows}
use Rattle.files_text.specs.PlanText.{printed_each}
use Rattle.files_script.specs.declared.command.Command.{Command}
use Rattle.files_script.specs.declared.command.Command.TheVariants.{Make, Skip, Round}
use Rattle.files_script.specs.Scripts.{Script}

-- a command by which a federate forgets
abbrev pub is_forgetting : Command → Bool
is_forgetting (Make step) = is_forget step
is_forgetting (Skip dir) = false
is_forgetting Round = false

-- no line of a schedule makes a federate forget
abbrev pub ForgetsNobody : Script → Type 0
ForgetsNobody s = list_any (λ line. is_forgetting line.command) s.lines ≡ false

-- this many closing rounds are enough, wherever such a schedule left its frames: twice as many as all that a run can do
abbrev pub enough_rounds : Draft → List Behaviour → List Input → ℕ
enough_rounds d programs inputs = 2 * fuel_of (network_of d programs inputs)

-- nobody forgets by a schedule, and as many closing rounds are asked for as are enough, or more
abbrev pub AsksForEnough : Draft → List Behaviour → List Input → Script → Option ℕ → Type 0
AsksForEnough d programs inputs s None = ⊥
AsksForEnough d programs inputs s (Some most) = ForgetsNobody s × (enough_rounds d programs inputs ≤ most)

-- federate j's whole part of the undivided program's rows: there are no more after any number of turns
abbrev pub whole_part : Draft → List Behaviour → List Input → ℕ → List Row
whole_part d programs inputs j =
    part j (whole (network_of d programs inputs) (enough_turns (network_of d programs inputs)))

-- that the world is stuck, each federate's whole part, in order, and the end
abbrev pub every_row : Draft → List Behaviour → List Input → List ℕ
every_row d programs inputs =
    codes "stuck\n" ++ (printed_each (λ j. printed_rows d.federates (whole_part d programs inputs j)) (federate_count d)
    ++ codes "end\n")

-- every row as comma-separated values: each federate's whole part, in order, under the header
abbrev pub every_row_as_csv : Draft → List Behaviour → List Input → List ℕ
every_row_as_csv d programs inputs =
    csv_header ++ printed_each (λ j. formatted_rows Csv d.federates (whole_part d programs inputs j)) (federate_count d)

-- a replay ended with the world stuck, and a writer's bytes grew by that and by every row
pub record EndsWithEveryRow (d : Draft) (programs : List Behaviour) (inputs : List Input) (w : WorldView)
    (before after : Option (List ℕ)) : Type 0 where
  pub stuck : IsStuck (stations_of w)
  pub printed : Appends before after (every_row d programs inputs)

-- the same, and they grew by every row as comma-separated values
pub record EndsWithEveryRowAsCsv (d : Draft) (programs : List Behaviour) (inputs : List Input) (w : WorldView)
    (before after : Option (List ℕ)) : Type 0 where
  pub stuck : IsStuck (stations_of w)
  pub printed : Appends before after (every_row_as_csv d programs inputs)
