-- What the shape of a federation file makes sure of before its programs are read.
use Rattle.std.specs.Prelude.{◌≤◌, List, length, All, IsTrue}
use Rattle.std.specs.List.{AllZip}
use Rattle.plan.specs.declared.draft.Federate.{Federate}
use Rattle.plan_slots.specs.Numbering.{all_names}
use Rattle.plan_names.specs.Spelling.{is_name}
use Rattle.reactor_program.specs.Resolution.{state_names}
use Rattle.reactor_program.specs.declared.limits.TheConstants.{MOST_STATES, MOST_REACTIONS, MOST_LINES}
use Rattle.loadfed.specs.Shape.{ProgramDraft}

-- a federate's slots and states have names, and its program is within the limits
pub record IsReady (f : Federate) (p : ProgramDraft) : Type 0 where
  pub slots_named : All (λ name. IsTrue (is_name name)) (all_names f.slots)
  pub states_named : All (λ name. IsTrue (is_name name)) (state_names p.states)
  pub few_states : length p.states ≤ MOST_STATES
  pub few_reactions : length p.reactions ≤ MOST_REACTIONS
  pub few_lines : All (λ r. length r.body ≤ MOST_LINES) p.reactions

-- each federate with its program is so, and there are as many programs as federates
abbrev pub AreReady : List Federate → List ProgramDraft → Type 0
AreReady federates drafts = AllZip IsReady federates drafts
