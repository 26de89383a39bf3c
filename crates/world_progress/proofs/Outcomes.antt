-- Steps that are tested before they are done.
use Rattle.std.proofs.Common.{◌≡◌, Bool, true, false, refl}
use Rattle.std.specs.Prelude.{not, if◌then◌else◌}
use Rattle.protocol.specs.declared.refusal.Refusal.{Refusal}
use Rattle.protocol.specs.Outcome.{Outcome, Refused, IfDone}

-- what holds of a step where its test passes holds of it where it is refused else
pub refused_or : {A : Type 0} (P : A → Type 0) (b : Bool) (refusal : Refusal) (o : Outcome A) → (b ≡ true → IfDone o P) → IfDone (if not b then Refused refusal else o) P
refused_or P true refusal o h = h refl
refused_or P false refusal o h = tt
