-- Whose Hello a frame is, and what begins with one.
use Rattle.std.specs.Prelude.{◌≡◌, ℕ, List, ◌∷◌, ◌++◌, Bool, false, IsTrue, nat_eq}
use Rattle.signal.specs.declared.frame.Frame.{Frame}
use Rattle.signal.specs.declared.frame.Frame.TheVariants.{Hello, Data, Ack, Refuse}
use Rattle.signal.specs.Frame.{Spells}

-- whether a frame is a Hello of this federate, and so what its connection may begin with
abbrev pub is_hello_of : (federate : ℕ) → Frame → Bool
is_hello_of federate (Hello hello) = nat_eq hello.federate federate
is_hello_of federate (Data incarnation number signal) = false
is_hello_of federate (Ack incarnation taken) = false
is_hello_of federate (Refuse incarnation refusal) = false

-- the bytes begin with a spelling whose first frame is a Hello of this federate
pub record BeginsWithHello (federate : ℕ) (bytes : List ℕ) : Type 0 where
  pub hello : Frame
  pub is_own : IsTrue (is_hello_of federate hello)
  pub others : List Frame
  pub spelling : List ℕ
  pub spells : Spells spelling (hello ∷ others)
  pub rest : List ℕ
  pub splits : bytes ≡ spelling ++ rest
