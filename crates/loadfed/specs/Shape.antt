-- What a federation file says, table by table.
use Rattle.std.specs.Prelude.{◌≡◌, ◌≢◌, ℕ, ◌≤◌, Bool, List, [], ◌∷◌, length, codes}
use Rattle.std.specs.List.{AllZip, list_any}
use Rattle.std.specs.Str.{bytes_eq}
use Rattle.plan_slots.specs.declared.slots.Slots.{Slots}
use Rattle.plan_slots.specs.declared.slots.Timer.{Timer}
use Rattle.plan.specs.declared.draft.Federate.{Federate}
use Rattle.plan.specs.declared.draft.ConnectionDraft.{ConnectionDraft}
use Rattle.plan.specs.declared.draft.Draft.{Draft}
use Rattle.reactor_program.specs.declared.program.State.{State}
use Rattle.reactor_program.specs.declared.reaction_draft.ReactionDraft.{ReactionDraft}
use Rattle.toml.specs.Data.{Members}
use Rattle.reactor_program.specs.declared.limits.TheConstants.{MOST_STATES, MOST_REACTIONS, MOST_LINES}
use Rattle.loadfed_tables.specs.Tables.{HasOnly, SaysNumber, SaysName, SaysPort, SaysDuration, MaySay}
use Rattle.loadfed_tables.specs.Tables.{SaysDurationOrZero, SaysTexts, SaysNames, SaysTables, SaysEach}

-- the keys of a federation file
abbrev pub file_keys : List (List ℕ)
file_keys = codes "stop" ∷ codes "federate" ∷ codes "connection" ∷ []

-- the keys of a federate
abbrev pub federate_keys : List (List ℕ)
federate_keys =
    codes "name" ∷ codes "inputs" ∷ codes "outputs" ∷ codes "actions" ∷ codes "physical" ∷ codes "timers"
    ∷ codes "state"
    ∷ codes "reaction" ∷ []

-- the keys of a timer
abbrev pub timer_keys : List (List ℕ)
timer_keys = codes "name" ∷ codes "offset" ∷ codes "period" ∷ []

-- the keys of a state
abbrev pub state_keys : List (List ℕ)
state_keys = codes "name" ∷ codes "value" ∷ []

-- the keys of a reaction
abbrev pub reaction_keys : List (List ℕ)
reaction_keys = codes "triggers" ∷ codes "body" ∷ []

-- the keys of a connection
abbrev pub connection_keys : List (List ℕ)
connection_keys = codes "from" ∷ codes "to" ∷ codes "after" ∷ []

-- a timer, whose times are 0 where they aren't there
pub record SaysTimer (members : Members) (t : Timer) : Type 0 where
  pub keys : HasOnly timer_keys members
  pub name_is : SaysName (codes "name") members t.name
  pub offset_is : SaysDurationOrZero (codes "offset") members t.offset
  pub period_is : SaysDurationOrZero (codes "period") members t.period

-- a state and its value at first
pub record SaysState (members : Members) (s : State) : Type 0 where
  pub keys : HasOnly state_keys members
  pub name_is : SaysName (codes "name") members s.name
  pub value_is : SaysNumber (codes "value") members s.value

-- at least one text
abbrev pub SaysTriggers : Members → List (List ℕ) → Type 0
SaysTriggers members triggers = SaysTexts (codes "triggers") members triggers × (triggers ≢ [])

-- a reaction of not too many lines
pub record SaysReaction (members : Members) (r : ReactionDraft) : Type 0 where
  pub keys : HasOnly reaction_keys members
  pub triggers_are : SaysTriggers members r.triggers
  pub body_is : SaysTexts (codes "body") members r.body
  pub few_lines : length r.body ≤ MOST_LINES

-- the states and reactions that a federate's table declares
pub record ProgramDraft : Type 0 where
  pub states : List State
  pub reactions : List ReactionDraft

-- not too many states and reactions
pub record SaysProgram (members : Members) (p : ProgramDraft) : Type 0 where
  pub states_are : SaysEach SaysState (codes "state") members p.states
  pub reactions_are : SaysEach SaysReaction (codes "reaction") members p.reactions
  pub few_states : length p.states ≤ MOST_STATES
  pub few_reactions : length p.reactions ≤ MOST_REACTIONS

-- one of these triggers is `startup`
abbrev pub has_startup : List (List ℕ) → Bool
has_startup triggers = list_any (λ trigger. bytes_eq trigger (codes "startup")) triggers

-- one of these reactions has the trigger `startup`
abbrev pub wants_startup : List ReactionDraft → Bool
wants_startup reactions = list_any (λ r. has_startup r.triggers) reactions

-- slots; the startup is set exactly where one of these reactions wants it
pub record SaysSlots (reactions : List ReactionDraft) (members : Members) (s : Slots) : Type 0 where
  pub startup_is : s.startup ≡ wants_startup reactions
  pub inputs_are : SaysNames (codes "inputs") members s.inputs
  pub outputs_are : SaysNames (codes "outputs") members s.outputs
  pub timers_are : SaysEach SaysTimer (codes "timers") members s.timers
  pub actions_are : SaysNames (codes "actions") members s.actions
  pub physical_are : SaysNames (codes "physical") members s.physical

-- a name that isn't the coordinator's
abbrev pub SaysFederateName : Members → List ℕ → Type 0
SaysFederateName members name = SaysName (codes "name") members name × (name ≢ codes "coordinator")

-- a federate; its startup is what its table's reactions want
pub record SaysFederate (members : Members) (f : Federate) : Type 0 where
  pub keys : HasOnly federate_keys members
  pub name_is : SaysFederateName members f.name
  pub reactions : List ReactionDraft
  pub reactions_are : SaysEach SaysReaction (codes "reaction") members reactions
  pub slots_are : SaysSlots reactions members f.slots

-- a connection, with a delay only where `after` says one
pub record SaysConnection (members : Members) (c : ConnectionDraft) : Type 0 where
  pub keys : HasOnly connection_keys members
  pub from_is : SaysPort (codes "from") members c.from
  pub to_is : SaysPort (codes "to") members c.to
  pub after_is : MaySay SaysDuration (codes "after") members c.after

-- federates one by one, and what each one's program is to be
pub record SaysFederates (members : Members) (federates : List Federate) (programs : List ProgramDraft) : Type 0 where
  pub tables : List Members
  pub there : SaysTables (codes "federate") members tables
  pub each_federate : AllZip SaysFederate tables federates
  pub each_program : AllZip SaysProgram tables programs

-- a federation: its draft, and what each of its federates' programs is to be
pub record SaysFederation (members : Members) (d : Draft) (programs : List ProgramDraft) : Type 0 where
  pub keys : HasOnly file_keys members
  pub stop_is : SaysDuration (codes "stop") members d.stop
  pub federates_are : SaysFederates members d.federates programs
  pub connections_are : SaysEach SaysConnection (codes "connection") members d.connections
