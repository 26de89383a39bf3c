-- Which program the triggers and lines of reactions spell, and what is wrong where they spell none.
use Rattle.std.specs.Prelude.{◌≡◌, ℕ, ◌+◌, ◌≤◌, List, length, slice_get, All, None, Some, IsTrue, ◌⊎◌}
use Rattle.std.specs.List.{AllZip}
use Rattle.plan_slots.specs.declared.slots.Slots.{Slots}
use Rattle.plan_names.specs.Naming.{AreDistinct}
use Rattle.plan_slots.specs.Numbering.{all_names}
use Rattle.plan_slots.specs.Limits.{IsWithinLimits}
use Rattle.reactor_program.specs.declared.limits.TheConstants.{MOST_STATES, MOST_REACTIONS, MOST_LINES}
use Rattle.reactor_program.specs.declared.program.Line.{Line}
use Rattle.reactor_program.specs.declared.program.Reaction.{Reaction}
use Rattle.reactor_program.specs.declared.program.State as StateOf
use Rattle.reactor_program.specs.declared.reaction_draft.ReactionDraft.{ReactionDraft}
use Rattle.reactor_program.specs.declared.program_fault.ProgramFault.{ProgramFault}
use Rattle.reactor_program.specs.declared.program_fault.ProgramFault.TheVariants.{BadLine, UnknownOperand, Memory}
use Rattle.reactor_program.specs.declared.program_fault.ProgramFault.TheVariants.{RepeatedState}
use Rattle.reactor_program.specs.Tokens.{tokens_of}
use Rattle.plan_names.specs.Spelling.{is_name}
use Rattle.reactor_program.specs.Grammar.{WrittenLine, SpellsLine}
use Rattle.reactor_program.specs.Resolution.{trigger_slot, state_names, line_of}
use Rattle.reactor_program.specs.Behaviour.{Behaviour}

-- the text is written in one of the forms, as this line with names
abbrev pub IsWritten : List ℕ → WrittenLine → Type 0
IsWritten text written = SpellsLine written (tokens_of text)

-- the text spells this line of a reactor with these slots and states
abbrev pub SpellsLineOf : Slots → List StateOf.State → Line → List ℕ → Type 0
SpellsLineOf s states line text =
    (written : WrittenLine) × IsWritten text written × (line_of s states written ≡ Some line)

-- a reaction: its triggers by slot, then its lines one by one
pub record SpellsReaction (s : Slots) (states : List StateOf.State) (r : Reaction) (d : ReactionDraft) : Type 0 where
  pub triggers : AllZip (λ slot text. trigger_slot s text ≡ Some slot) r.triggers d.triggers
  pub body : AllZip (SpellsLineOf s states) r.body d.body

-- a program: these slots and states, no two of one name, and the reactions one by one
pub record SpellsProgram (s : Slots) (states : List StateOf.State) (drafts : List ReactionDraft)
    (b : Behaviour) : Type 0 where
  pub slots : b.slots ≡ s
  pub states_are : b.states ≡ states
  pub states_apart : AreDistinct (state_names states)
  pub reactions : AllZip (SpellsReaction s states) b.reactions drafts

-- the text is written in none of the forms of lines
abbrev pub HasNoForm : List ℕ → Type 0
HasNoForm text = (written : WrittenLine) → ¬ (IsWritten text written)

-- the text is written in one of the forms, with a name that isn't there
abbrev pub HasUnknownName : Slots → List StateOf.State → List ℕ → Type 0
HasUnknownName s states text = (written : WrittenLine) × IsWritten text written × (line_of s states written ≡ None)

-- a trigger that names no slot is answered at line 0
abbrev pub IsTriggerFault : Slots → ℕ → List (List ℕ) → ProgramFault → Type 0
IsTriggerFault s number texts (UnknownOperand reaction line) =
    (k : ℕ) × (text : List ℕ) × (reaction ≡ number) × (line ≡ 0) × (slice_get texts k ≡ Some text)
    × (trigger_slot s text ≡ None)
IsTriggerFault s number texts (BadLine reaction line) = ⊥
IsTriggerFault s number texts Memory = ⊥
IsTriggerFault s number texts RepeatedState = ⊥

-- a line of no form, or with an unknown name; lines count from 1
abbrev pub IsLineFault : Slots → List StateOf.State → ℕ → List (List ℕ) → ProgramFault → Type 0
IsLineFault s states number texts (BadLine reaction line) =
    (l : ℕ) × (text : List ℕ) × (reaction ≡ number) × (line ≡ l + 1) × (slice_get texts l ≡ Some text) × HasNoForm text
IsLineFault s states number texts (UnknownOperand reaction line) =
    (l : ℕ) × (text : List ℕ) × (reaction ≡ number) × (line ≡ l + 1) × (slice_get texts l ≡ Some text)
    × HasUnknownName s states text
IsLineFault s states number texts Memory = ⊥
IsLineFault s states number texts RepeatedState = ⊥

-- a fault in one of the reactions, which count from 1
abbrev pub IsReactionFault : Slots → List StateOf.State → List ReactionDraft → ProgramFault → Type 0
IsReactionFault s states drafts fault =
    (r : ℕ) × (d : ReactionDraft) × (slice_get drafts r ≡ Some d)
    × (IsTriggerFault s (r + 1) d.triggers fault ⊎ IsLineFault s states (r + 1) d.body fault)

-- a fault is answered where it stands; memory may be wanting anywhere
abbrev pub IsFaultOf : Slots → List StateOf.State → List ReactionDraft → ProgramFault → Type 0
IsFaultOf s states drafts fault =
    (fault ≡ Memory) ⊎ (((fault ≡ RepeatedState) × ¬ (AreDistinct (state_names states)))
    ⊎ IsReactionFault s states drafts fault)

-- what is asked before a program is read: limits, names, and no two slots of one name
pub record IsReadable (s : Slots) (states : List StateOf.State) (drafts : List ReactionDraft) : Type 0 where
  pub few_slots : IsWithinLimits s
  pub few_states : length states ≤ MOST_STATES
  pub few_reactions : length drafts ≤ MOST_REACTIONS
  pub few_lines : All (λ d. length d.body ≤ MOST_LINES) drafts
  pub slots_named : All (λ x. IsTrue (is_name x)) (all_names s)
  pub states_named : All (λ x. IsTrue (is_name x)) (state_names states)
  pub slots_apart : AreDistinct (all_names s)
