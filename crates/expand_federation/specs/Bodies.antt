-- What a document becomes whose bodies are expanded.
use Rattle.std.specs.Prelude.{◌≡◌, ℕ, pos, List, [], ◌∷◌, ◌++◌, codes, All, None, if◌then◌else◌}
use Rattle.std.specs.List.{AllZip, list_any}
use Rattle.plan_names.specs.Naming.{place_of}
use Rattle.toml.specs.Data.{Members}
use Rattle.loadfed_tables.specs.Tables.{SaysName, SaysNames, SaysTexts, SaysTables, SaysEach}
use Rattle.loadfed.specs.Shape.{SaysState, has_startup}
use Rattle.expand_bodies.specs.declared.names.BodyNames.{BodyNames}
use Rattle.expand_bodies.specs.Expanded.{IsExpanded}
use Rattle.expand_documents.specs.Entries.{without}

-- the names of the tables at a key
abbrev pub SaysNamed : List ℕ → Members → List (List ℕ) → Type 0
SaysNamed key members names = SaysEach (SaysName (codes "name")) key members names

-- the triggers of each reaction of a federate
abbrev pub SaysTriggered : Members → List (List (List ℕ)) → Type 0
SaysTriggered federate triggers = SaysEach (SaysTexts (codes "triggers")) (codes "reaction") federate triggers

-- `startup`, where one of these reactions is triggered by it
abbrev pub startup_of : List (List (List ℕ)) → List (List ℕ)
startup_of triggers = if list_any has_startup triggers then codes "startup" ∷ [] else []

-- what may stand after `in.` and `has.` in the bodies of a federate with these actions
pub record AreReadable (federate : Members) (actions readable : List (List ℕ)) : Type 0 where
  pub inputs : List (List ℕ)
  pub timers : List (List ℕ)
  pub physical : List (List ℕ)
  pub triggers : List (List (List ℕ))
  pub inputs_are : SaysNames (codes "inputs") federate inputs
  pub timers_are : SaysNamed (codes "timers") federate timers
  pub physical_are : SaysNames (codes "physical") federate physical
  pub triggers_are : SaysTriggered federate triggers
  pub all : readable ≡ inputs ++ (timers ++ (actions ++ (physical ++ startup_of triggers)))

-- what the bodies of a federate may name
pub record AreNamesOf (federate : Members) (names : BodyNames) : Type 0 where
  pub states_are : SaysNamed (codes "state") federate names.states
  pub outputs_are : SaysNames (codes "outputs") federate names.outputs
  pub actions_are : SaysNames (codes "actions") federate names.actions
  pub readable_are : AreReadable federate names.actions names.readable
  pub no_constants : names.constants.items ≡ []

-- a state that is 0 at first, of a name that none of the federate's own has
pub record IsScratchState (own : List (List ℕ)) (state : Members) : Type 0 where
  pub name : List ℕ
  pub says : SaysState state (record { name = name; value = pos 0 })
  pub unused : place_of own name ≡ None

-- the states of a federate, which has these names for them, and scratch states behind them
pub record HasScratchStates (own : List (List ℕ)) (before after : Members) : Type 0 where
  pub states : List Members
  pub scratch : List Members
  pub states_are : SaysTables (codes "state") before states
  pub all_are : SaysTables (codes "state") after (states ++ scratch)
  pub scratch_are : All (IsScratchState own) scratch

-- a reaction with its body expanded, and nothing else changed
pub record IsReactionWithBody (names : BodyNames) (before after : Members) : Type 0 where
  pub lines : List (List ℕ)
  pub texts : List (List ℕ)
  pub rest : without (codes "body" ∷ []) after ≡ without (codes "body" ∷ []) before
  pub lines_are : SaysTexts (codes "body") before lines
  pub texts_are : SaysTexts (codes "body") after texts
  pub expanded : IsExpanded names lines texts

-- the reactions of a federate, in their order, each with its body expanded
pub record HasBodies (names : BodyNames) (before after : Members) : Type 0 where
  pub reactions : List Members
  pub expanded : List Members
  pub reactions_are : SaysTables (codes "reaction") before reactions
  pub expanded_are : SaysTables (codes "reaction") after expanded
  pub each : AllZip (IsReactionWithBody names) reactions expanded

-- a federate with its bodies expanded and with scratch states for them, and nothing else changed
pub record IsFederateWithBodies (before after : Members) : Type 0 where
  pub names : BodyNames
  pub names_are : AreNamesOf before names
  pub rest : without (codes "state" ∷ codes "reaction" ∷ []) after ≡ without (codes "state" ∷ codes "reaction" ∷ []) before
  pub states_are : HasScratchStates names.states before after
  pub reactions_are : HasBodies names before after

-- a document with the bodies of its federates expanded, and nothing else changed
pub record IsWithBodies (before after : Members) : Type 0 where
  pub federates : List Members
  pub expanded : List Members
  pub federates_are : SaysTables (codes "federate") before federates
  pub expanded_are : SaysTables (codes "federate") after expanded
  pub each : AllZip IsFederateWithBodies federates expanded
  pub rest : without (codes "federate" ∷ []) after ≡ without (codes "federate" ∷ []) before
