-- What is printed of an undivided program: the rows of its turns, all that were asked for or those before the one that
-- found no memory.
use Rattle.std.specs.Prelude.{◌≡◌, ℕ, ◌+◌, ◌<◌, ◌≤◌, List, [], ◌++◌, length, Option}
use Rattle.std.specs.Io.KnownBytes.{Appends}
use Rattle.plan.specs.declared.draft.Draft.{Draft}
use Rattle.plan.specs.declared.input.Input.{Input}
use Rattle.network.specs.Undivided.{whole}
use Rattle.reactor_program.specs.Behaviour.{Behaviour}
use Rattle.plan_network.specs.Network.{network_of}
use Rattle.whole.specs.Progress.{Progress, pending_in, all_rows_in}
use Rattle.files_text.specs.declared.row_format.RowFormat.{RowFormat}
use Rattle.files_text.specs.Formats.{heading, formatted_rows}

-- an undivided program after at most this many turns, fewer only where nothing is left to do
pub record IsTurned (d : Draft) (programs : List Behaviour) (inputs : List Input) (turns : ℕ)
    (p : Progress) : Type 0 where
  pub draft_is : p.draft ≡ d
  pub programs_are : p.programs ≡ programs
  pub inputs_are : p.inputs ≡ inputs
  pub most : p.turns ≤ turns
  pub finished : p.turns < turns → pending_in p ≡ []

-- a writer's bytes grew by the rows of an undivided program after at most this many turns, in a format
pub record PrintsRows (d : Draft) (programs : List Behaviour) (inputs : List Input) (turns : ℕ) (format : RowFormat)
    (before after : Option (List ℕ)) : Type 0 where
  pub progress : Progress
  pub turned : IsTurned d programs inputs turns progress
  pub printed : Appends before after (heading format ++ formatted_rows format d.federates (all_rows_in progress))

-- a writer's bytes grew by the rows of the undivided program's first turns, at most this many
pub record PrintsFirstRows (d : Draft) (programs : List Behaviour) (inputs : List Input) (turns : ℕ)
    (format : RowFormat) (before after : Option (List ℕ)) : Type 0 where
  pub made : ℕ
  pub most : made ≤ turns
  pub printed : Appends before after
      (heading format ++ formatted_rows format d.federates (whole (network_of d programs inputs) made))

-- an undivided program this many turns later, with all rows let go
abbrev pub let_go_after : ℕ → Progress → Progress
let_go_after turns p =
    record {
      draft = p.draft;
      programs = p.programs;
      inputs = p.inputs;
      turns = p.turns + turns;
      discarded = p.turns + turns;
    }

-- a writer's bytes grew by the rows of all turns of an undivided program, one for each, and these were let go
pub record IsPrinted (p : Progress) (format : RowFormat) (before after : Option (List ℕ)) : Type 0 where
  pub discard : p.discarded ≡ p.turns
  pub one_for_each_turn : length (all_rows_in p) ≡ p.turns
  pub printed : Appends before after (heading format ++ formatted_rows format p.draft.federates (all_rows_in p))
