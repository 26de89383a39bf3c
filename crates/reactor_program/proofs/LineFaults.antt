-- Where a fault in a line or a reaction stands.
use Rattle.std.proofs.Common.{◌≡◌, ℕ, ◌+◌, List, None, Some, Err, refl, sym, subst, inl, inr, ◌⊎◌}
use Rattle.std.specs.Prelude.{slice_get}
use Rattle.plan_slots.specs.declared.slots.Slots.{Slots}
use Rattle.reactor_program.specs.declared.program.State as StateOf
use Rattle.reactor_program.specs.declared.reaction_draft.ReactionDraft.{ReactionDraft}
use Rattle.reactor_program.specs.declared.fault.LineFault.{LineFault}
use Rattle.reactor_program.specs.declared.fault.LineFault.TheVariants.{NoForm, UnknownName}
use Rattle.reactor_program.specs.declared.program_fault.ProgramFault.{ProgramFault}
use Rattle.reactor_program.specs.declared.program_fault.ProgramFault.TheVariants.{UnknownOperand, Memory}
use Rattle.reactor_program.specs.Resolution.{trigger_slot, line_of}
use Rattle.reactor_program.specs.Reading.{IsReading, told_at}
use Rattle.reactor_program.specs.Spelled.{IsWritten, IsTriggerFault, IsLineFault, IsReactionFault}

pub line_fault : (s : Slots) (states : List StateOf.State) (number : ℕ) (texts : List (List ℕ)) (place : ℕ) (text : List ℕ) → slice_get texts place ≡ Some text
    → (fault : LineFault) → IsReading (IsWritten text) (line_of s states) (Err fault) → IsLineFault s states number texts (told_at number (place + 1) fault)
line_fault s states number texts place text e NoForm h = (place, text, refl, refl, e, h)
line_fault s states number texts place text e UnknownName h = (place, text, refl, refl, e, h)

pub trigger_fault : (s : Slots) (number : ℕ) (texts : List (List ℕ)) (place : ℕ) (text name : List ℕ) → slice_get texts place ≡ Some text → name ≡ text → None ≡ trigger_slot s name
    → IsTriggerFault s number texts (UnknownOperand number 0)
trigger_fault s number texts place text name e same h = let P : List ℕ → Type 0 = λ x. trigger_slot s x ≡ None in (place, text, refl, refl, e, subst P same (sym h))

pub reaction_fault : (s : Slots) (states : List StateOf.State) (drafts : List ReactionDraft) (place : ℕ) (d : ReactionDraft) → slice_get drafts place ≡ Some d
    → (fault : ProgramFault) → (fault ≡ Memory) ⊎ (IsTriggerFault s (place + 1) d.triggers fault ⊎ IsLineFault s states (place + 1) d.body fault)
    → (fault ≡ Memory) ⊎ IsReactionFault s states drafts fault
reaction_fault s states drafts place d e fault (inl m) = inl m
reaction_fault s states drafts place d e fault (inr h) = inr (place, d, e, h)
