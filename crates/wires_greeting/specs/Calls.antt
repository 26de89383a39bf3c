-- All that is handed to one side of a connection, one after the other, and where that leads.
use Rattle.std.specs.Prelude.{◌≡◌, ℕ, List, [], ◌∷◌, ◌++◌, Bool, true, false, Some, slice_get}
use Rattle.wires_greeting.specs.declared.answer.Answer.{Answer}
use Rattle.wires_greeting.specs.declared.answer.Answer.TheVariants.{GoOn, Finished}
use Rattle.wires_greeting.specs.declared.greeting.Greeting.{Greeting}
use Rattle.wires_greeting.specs.declared.challenge.Challenge.{Challenge}
use Rattle.wires_greeting.specs.Message.{greeting_of, challenge_bytes, challenge_of}
use Rattle.wires_greeting.specs.Proof.{challenge_by, federate_proof}
use Rattle.wires_greeting.specs.Federate.{Federate, after_challenge}
use Rattle.wires_greeting.specs.Coordinator.{Coordinator, waiting, after_greeting, sent_after, after_proof}

-- what is handed to the coordinator's side: bytes where a greeting is read, with its own random bytes, whether each
-- federate may take part, and whether the run is finished; or bytes where a proof is read
pub data CoordinatorCall : Type 0 where
  greets : (bytes random : List ℕ) (allowed : List Bool) (finished : Bool) → CoordinatorCall
  proves : (bytes : List ℕ) → CoordinatorCall

-- the coordinator's side after a call
abbrev pub after_call : Coordinator → CoordinatorCall → Coordinator
after_call side (greets bytes random allowed finished) = after_greeting side bytes random allowed finished
after_call side (proves bytes) = after_proof side bytes

-- and after all calls, in their order
abbrev pub after_calls : Coordinator → List CoordinatorCall → Coordinator
after_calls side [] = side
after_calls side (call ∷ calls) = after_calls (after_call side call) calls

-- a federate's side after all bytes that were handed to it where a challenge is read
abbrev pub after_challenges : Federate → List (List ℕ) → Federate
after_challenges side [] = side
after_challenges side (bytes ∷ later) = after_challenges (after_challenge side bytes) later

-- How a federate came to be let in by a coordinator with this key and these files. On this connection, in this order, a
-- greeting came, by a federate that is there and may take part, with the same files, before the run was finished; the
-- challenge that was sent then proves the coordinator's secret over that greeting and this connection's random bytes;
-- and the federate's proof of the secret came, over the greeting and that challenge.
pub record IsLetIn (key files : List ℕ) (calls : List CoordinatorCall) (greeting : Greeting)
    (challenge : Challenge) : Type 0 where
  pub before : List CoordinatorCall
  pub bytes : List ℕ
  pub random : List ℕ
  pub allowed : List Bool
  pub between : List CoordinatorCall
  pub behind : List CoordinatorCall
  pub in_order : calls ≡ before ++ greets bytes random allowed false
      ∷ (between ++ proves (federate_proof key greeting challenge) ∷ behind)
  pub is_greeting : greeting_of bytes ≡ Some greeting
  pub same_files : greeting.files ≡ files
  pub is_allowed : slice_get allowed greeting.federate ≡ Some true
  pub is_proved : challenge ≡ challenge_by key greeting GoOn random
  pub is_sent : sent_after (after_calls (waiting key files) before) bytes random allowed false
      ≡ Some (challenge_bytes challenge)

-- How a federate came to be told by a coordinator with this key and these files that the run is finished. On this
-- connection, in this order, a greeting came, by a federate that is there, with the same files, once the run was
-- finished; the challenge that was sent then says so and proves the coordinator's secret over that greeting and this
-- connection's random bytes; and the federate's proof of the secret came, over the greeting and that challenge.
pub record IsTold (key files : List ℕ) (calls : List CoordinatorCall) (greeting : Greeting)
    (challenge : Challenge) : Type 0 where
  pub before : List CoordinatorCall
  pub bytes : List ℕ
  pub random : List ℕ
  pub allowed : List Bool
  pub between : List CoordinatorCall
  pub behind : List CoordinatorCall
  pub in_order : calls ≡ before ++ greets bytes random allowed true
      ∷ (between ++ proves (federate_proof key greeting challenge) ∷ behind)
  pub is_greeting : greeting_of bytes ≡ Some greeting
  pub same_files : greeting.files ≡ files
  -- whether it might take part
  pub is_allowed : Bool
  pub is_there : slice_get allowed greeting.federate ≡ Some is_allowed
  pub is_proved : challenge ≡ challenge_by key greeting Finished random
  pub is_sent : sent_after (after_calls (waiting key files) before) bytes random allowed true
      ≡ Some (challenge_bytes challenge)

-- How a federate with this key came to go on after its greeting: what came first is a challenge that says to go on, and
-- proves the coordinator's secret over that greeting.
pub record GoesOn (key : List ℕ) (greeting : Greeting) (came : List (List ℕ)) (challenge : Challenge) : Type 0 where
  pub bytes : List ℕ
  pub later : List (List ℕ)
  pub came_first : came ≡ bytes ∷ later
  pub is_challenge : challenge_of bytes ≡ Some challenge
  pub is_proved : challenge ≡ challenge_by key greeting GoOn challenge.random

-- How a federate with this key came to believe a refusal with this answer: what came first is a challenge that gives
-- this answer, and proves the coordinator's secret over the federate's greeting.
pub record BelievesRefusal (key : List ℕ) (greeting : Greeting) (came : List (List ℕ)) (answer : Answer) : Type 0 where
  pub bytes : List ℕ
  pub later : List (List ℕ)
  pub challenge : Challenge
  pub came_first : came ≡ bytes ∷ later
  pub is_challenge : challenge_of bytes ≡ Some challenge
  pub is_proved : challenge ≡ challenge_by key greeting answer challenge.random
