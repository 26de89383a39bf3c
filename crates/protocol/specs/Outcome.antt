-- How a step ends.
use Rattle.protocol.specs.declared.refusal.Refusal.{Refusal}

-- refused, with nothing changed; nothing to do; or done, with what it made
pub data Outcome (A : Type 0) : Type 0 where
  Refused : (refusal : Refusal) → Outcome A
  Nothing : Outcome A
  Done : (made : A) → Outcome A

-- what was made, or what stood before
abbrev pub made_or : {A : Type 0} → A → Outcome A → A
made_or before (Refused refusal) = before
made_or before Nothing = before
made_or before (Done made) = made

-- with more done to what was made
abbrev pub with_made : {A B : Type 0} → (A → B) → Outcome A → Outcome B
with_made change (Refused refusal) = Refused refusal
with_made change Nothing = Nothing
with_made change (Done made) = Done (change made)

-- what holds of what was made, if something was
abbrev pub IfDone : {A : Type 0} → Outcome A → (A → Type 0) → Type 0
IfDone (Refused refusal) holds = Unit {0}
IfDone Nothing holds = Unit {0}
IfDone (Done made) holds = holds made
