-- What is wrong with the shape of a federation file, and at which key.
use Rattle.std.specs.Prelude.{◌≡◌, ℕ, ◌<◌, ◌⊎◌, List, length, slice_get, Some, codes}
use Rattle.toml.specs.Data.{Data, table, Members}
use Rattle.reactor_program.specs.declared.limits.TheConstants.{MOST_STATES, MOST_REACTIONS, MOST_LINES}
use Rattle.loadfed_tables.specs.declared.fault.TableFault.{TableFault}
use Rattle.loadfed_tables.specs.declared.fault.TableFault.TheVariants.{OverLimit}
use Rattle.loadfed_tables.specs.Tables.{SaysNumber, SaysName, SaysDuration, MaySay, SaysDurationOrZero, SaysArray}
use Rattle.loadfed_tables.specs.Tables.{SaysTexts, SaysNames, SaysTables, SaysPort}
use Rattle.loadfed_tables.specs.TableFaults.{IsWrongAt, HasUnknownKey}
use Rattle.loadfed.specs.Shape.{file_keys, federate_keys, timer_keys, state_keys, reaction_keys, connection_keys}
use Rattle.loadfed.specs.Shape.{SaysTriggers, SaysFederateName}

-- more entries than there may be
pub record HasTooMany (key : List ℕ) (most : ℕ) (members : Members) (fault : TableFault) : Type 0 where
  pub told : fault ≡ OverLimit
  pub entries : List Data
  pub there : SaysArray key members entries
  pub many : most < length entries

-- a fault in one of the tables of an array
pub record HasFaultInside (Has : Members → TableFault → Type 0) (key : List ℕ) (members : Members)
    (fault : TableFault) : Type 0 where
  pub entries : List Data
  pub there : SaysArray key members entries
  pub place : ℕ
  pub inner : Members
  pub entry_is : slice_get entries place ≡ Some (table inner)
  pub inside : Has inner fault

-- no array of tables, or a fault in one of them
abbrev pub HasTablesFault : (Members → TableFault → Type 0) → List ℕ → Members → TableFault → Type 0
HasTablesFault Has key members fault =
    IsWrongAt key (SaysTables key members) fault ⊎ HasFaultInside Has key members fault

-- in a timer's table
abbrev pub HasTimerFault : Members → TableFault → Type 0
HasTimerFault members fault =
    HasUnknownKey timer_keys members fault
    ⊎ (IsWrongAt (codes "name") (SaysName (codes "name") members) fault
    ⊎ (IsWrongAt (codes "offset") (SaysDurationOrZero (codes "offset") members) fault
    ⊎ IsWrongAt (codes "period") (SaysDurationOrZero (codes "period") members) fault))

-- in a state's table
abbrev pub HasStateFault : Members → TableFault → Type 0
HasStateFault members fault =
    HasUnknownKey state_keys members fault
    ⊎ (IsWrongAt (codes "name") (SaysName (codes "name") members) fault
    ⊎ IsWrongAt (codes "value") (SaysNumber (codes "value") members) fault)

-- in a reaction's table
abbrev pub HasReactionFault : Members → TableFault → Type 0
HasReactionFault members fault =
    HasUnknownKey reaction_keys members fault
    ⊎ (IsWrongAt (codes "triggers") (SaysTriggers members) fault
    ⊎ (IsWrongAt (codes "body") (SaysTexts (codes "body") members) fault
    ⊎ HasTooMany (codes "body") MOST_LINES members fault))

-- in the states of a federate: too many, or one of them
abbrev pub HasStatesFault : Members → TableFault → Type 0
HasStatesFault members fault =
    HasTooMany (codes "state") MOST_STATES members fault ⊎ HasTablesFault HasStateFault (codes "state") members fault

-- in the reactions of a federate: too many, or one of them
abbrev pub HasReactionsFault : Members → TableFault → Type 0
HasReactionsFault members fault =
    HasTooMany (codes "reaction") MOST_REACTIONS members fault
    ⊎ HasTablesFault HasReactionFault (codes "reaction") members fault

-- no array of names stands at the key
abbrev pub HasNamesFault : List ℕ → Members → TableFault → Type 0
HasNamesFault key members fault = IsWrongAt key (SaysNames key members) fault

-- in the slots of a federate
abbrev pub HasSlotsFault : Members → TableFault → Type 0
HasSlotsFault members fault =
    HasNamesFault (codes "inputs") members fault
    ⊎ (HasNamesFault (codes "outputs") members fault
    ⊎ (HasTablesFault HasTimerFault (codes "timers") members fault
    ⊎ (HasNamesFault (codes "actions") members fault ⊎ HasNamesFault (codes "physical") members fault)))

-- in a federate's table
abbrev pub HasFederateFault : Members → TableFault → Type 0
HasFederateFault members fault =
    HasUnknownKey federate_keys members fault
    ⊎ (IsWrongAt (codes "name") (SaysFederateName members) fault
    ⊎ (HasSlotsFault members fault ⊎ (HasStatesFault members fault ⊎ HasReactionsFault members fault)))

-- in a connection's table
abbrev pub HasConnectionFault : Members → TableFault → Type 0
HasConnectionFault members fault =
    HasUnknownKey connection_keys members fault
    ⊎ (IsWrongAt (codes "from") (SaysPort (codes "from") members) fault
    ⊎ (IsWrongAt (codes "to") (SaysPort (codes "to") members) fault
    ⊎ IsWrongAt (codes "after") (MaySay SaysDuration (codes "after") members) fault))

-- in a federation file's table
abbrev pub HasShapeFault : Members → TableFault → Type 0
HasShapeFault members fault =
    HasUnknownKey file_keys members fault
    ⊎ (IsWrongAt (codes "stop") (SaysDuration (codes "stop") members) fault
    ⊎ (HasTablesFault HasFederateFault (codes "federate") members fault
    ⊎ HasTablesFault HasConnectionFault (codes "connection") members fault))
