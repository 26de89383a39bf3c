-- Random bytes from a call that fills some, and what is said with them.
use Rattle.std.specs.Prelude.{List, ℕ, Bool, replicate, Option, Some, None, Result, Ok, Err}
use Rattle.std.specs.Fn.{FnOnceReturnsAtMut}
use denote.Ref.{MutBor}
use denote.Param.Members.{Once}
use Rattle.wires_greeting.specs.declared.sizes.TheConstants.{RANDOM_SIZE}
use Rattle.wires_greeting.specs.Coordinator.{Coordinator, sent_after}

-- a call that fills bytes, and says whether it did
abbrev pub Fill : (F E : Type 0) → Type 1
Fill F E = Once F (MutBor (List ℕ) × Unit {0}) (Result (Unit {0}) E × (MutBor (List ℕ) × Unit {0}))

-- called with room for as many bytes as a greeting has, it succeeds and leaves these there
abbrev pub Gave : {F E : Type 0} → Fill F E → F → List ℕ → Type 0
Gave call fill bytes = FnOnceReturnsAtMut call fill (replicate RANDOM_SIZE 0) (Ok tt) bytes

-- called with such room, it fails
abbrev pub Failed : {F E : Type 0} → Fill F E → F → Type 0
Failed {F} {E} call fill =
    (error : E) × (left : List ℕ) × FnOnceReturnsAtMut call fill (replicate RANDOM_SIZE 0) (Err error) left

-- the challenge to a greeting with these random bytes, if there are some
abbrev pub challenge_by : Coordinator → (greeting : List ℕ) → Option (List ℕ) → (allowed : List Bool)
    → (is_finished : Bool) → Option (List ℕ)
challenge_by side greeting None allowed is_finished = None
challenge_by side greeting (Some random) allowed is_finished = sent_after side greeting random allowed is_finished
