-- An undivided program that goes on turn by turn: what it was made from, how many turns were made, and whose rows were
-- let go.
use Rattle.std.specs.Prelude.{ℕ, ◌+◌, List, drop}
use Rattle.network.specs.Event.{Event}
use Rattle.network.specs.Network.{Network}
use Rattle.network.specs.Undivided.{Undivided, Row, undivided_after, whole}
use Rattle.plan.specs.declared.draft.Draft.{Draft}
use Rattle.plan.specs.declared.input.Input.{Input}
use Rattle.reactor_program.specs.Behaviour.{Behaviour}
use Rattle.plan_network.specs.Network.{network_of}

-- what an undivided program was made from, how many turns were made, and of how many, the first ones, the rows were let
-- go
pub record Progress : Type 0 where
  pub draft : Draft
  pub programs : List Behaviour
  pub inputs : List Input
  pub turns : ℕ
  pub discarded : ℕ

-- the network of the federation with its programs and recorded inputs
abbrev pub network_in : Progress → Network
network_in p = network_of p.draft p.programs p.inputs

-- where the undivided program is after the turns made
abbrev pub undivided_in : Progress → Undivided
undivided_in p = undivided_after (network_in p) p.turns

-- the rows of all turns made
abbrev pub all_rows_in : Progress → List Row
all_rows_in p = whole (network_in p) p.turns

-- those that weren't let go
abbrev pub rows_in : Progress → List Row
rows_in p = drop p.discarded (all_rows_in p)

-- what is pending after the turns made
abbrev pub pending_in : Progress → List Event
pending_in p = (undivided_in p).pending

-- this many turns later
abbrev pub later_by : ℕ → Progress → Progress
later_by turns p =
    record {
      draft = p.draft;
      programs = p.programs;
      inputs = p.inputs;
      turns = p.turns + turns;
      discarded = p.discarded;
    }
