-- From the steps of a schedule, and from what a call says of them, to whether it is drawn.
use Rattle.std.proofs.Common.{◌≡◌, ℕ, List, Option, Result, Ok, Err, IfOk, IfErr, OnOk, refl, sym, subst, length}
use Rattle.plan.specs.declared.draft.Draft.{Draft}
use Rattle.plan.specs.declared.input.Input.{Input}
use Rattle.reactor_program.specs.Behaviour.{Behaviour}
use Rattle.files_script.specs.Scripts.{Script}
use Rattle.fedrun_replay.specs.Play.{Made}
use Rattle.fedrun_frames.specs.Shown.{AreStepsOf}
use Rattle.fedrun_draw.specs.declared.fault.DrawFault.{DrawFault}
use Rattle.fedrun_draw.specs.declared.fault.DrawFault.TheVariants.{TooManySteps, TooManyFrames, Memory, CannotWrite}
use Rattle.fedrun_draw.specs.declared.excerpt.Excerpt.{Excerpt}
use Rattle.fedrun_draw.specs.Excerpts.{steps_in}
use Rattle.fedrun_draw.specs.Drawn.{made_lines, AreLinesOf, IsWithin, IsUndrawn, HasFewSteps, IsShort, IsInterrupted, IsFaultOf}

module _ (d : Draft) (programs : List Behaviour) (inputs : List Input) (s : Script) (closing : Option ℕ) (excerpt : Excerpt) where
  -- of steps that aren't too many, what is drawn has as many as the schedule
  pub has_few : {H : Type 0} (count : H → ℕ) (made : List Made) (result : Result H DrawFault) → AreStepsOf d programs inputs s closing made →
      OnOk result (IsWithin (length (steps_in excerpt made))) → IfOk result (λ drawn. count drawn ≡ length (steps_in excerpt made)) → IfOk result (λ drawn. HasFewSteps d programs inputs s closing excerpt (count drawn))
  has_few count made (Ok drawn) are few each =
      record { steps = record { made = made; are = are; many = sym each }; few = subst (λ (n : ℕ). IsWithin n) (sym each) few }
  has_few count made (Err fault) are few each = tt

  -- and they have the schedule's lines
  pub are_lines : {H : Type 0} (lines : H → List ℕ) (made : List Made) (result : Result H DrawFault) → AreStepsOf d programs inputs s closing made →
      IfOk result (λ drawn. lines drawn ≡ made_lines (steps_in excerpt made)) → IfOk result (λ drawn. AreLinesOf d programs inputs s closing excerpt (lines drawn))
  are_lines lines made (Ok drawn) are each = record { made = made; are = are; lines_are = each }
  are_lines lines made (Err fault) are each = tt

  fault_of : (made : List Made) (fault : DrawFault) → AreStepsOf d programs inputs s closing made → IsUndrawn (length (steps_in excerpt made)) fault → IsFaultOf d programs inputs s closing excerpt fault
  fault_of made (TooManySteps count) are undrawn = (record { made = made; are = are; many = undrawn.0 }, undrawn.1)
  fault_of made (TooManyFrames count) are undrawn =
      (record { count = length (steps_in excerpt made); has = record { steps = record { made = made; are = are; many = refl }; few = undrawn.0 } }, undrawn.1)
  fault_of made Memory are undrawn = tt
  fault_of made CannotWrite are undrawn = absurd undrawn

  -- why steps aren't drawn is why the schedule isn't
  pub is_undrawn : {H : Type 0} (made : List Made) (result : Result H DrawFault) → AreStepsOf d programs inputs s closing made →
      IfErr result (IsUndrawn (length (steps_in excerpt made))) → IfErr result (IsFaultOf d programs inputs s closing excerpt)
  is_undrawn made (Ok drawn) are undrawn = tt
  is_undrawn made (Err fault) are undrawn = fault_of made fault are undrawn

  fault_outside : (fault : DrawFault) → IsInterrupted fault → IsFaultOf d programs inputs s closing excerpt fault
  fault_outside (TooManySteps count) outside = absurd outside
  fault_outside (TooManyFrames count) outside = absurd outside
  fault_outside Memory outside = tt
  fault_outside CannotWrite outside = tt

  -- so is what has to do with no schedule
  pub is_interrupted : {H : Type 0} (result : Result H DrawFault) → IfErr result IsInterrupted → IfErr result (IsFaultOf d programs inputs s closing excerpt)
  is_interrupted (Ok made) outside = tt
  is_interrupted (Err fault) outside = fault_outside fault outside

  -- whatever comes of writing what is drawn of it, the schedule is short
  pub is_short : {T : Type 0} (count : ℕ) (result : Result T DrawFault) → HasFewSteps d programs inputs s closing excerpt count → OnOk result (IsShort d programs inputs s closing excerpt)
  is_short count (Ok done) few = record { count = count; has = few }
  is_short count (Err fault) few = tt
