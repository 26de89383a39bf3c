-- The coordinator's side of a greeting: its states, and what the federate's two messages make of it.
use Rattle.std.specs.Prelude.{ℕ, List, Bool, true, false, bytes_eq, if◌then◌else◌, Option, Some, None, option_map}
use Rattle.std.specs.Prelude.{slice_get}
use Rattle.wires_greeting.specs.declared.answer.Answer.{Answer}
use Rattle.wires_greeting.specs.declared.answer.Answer.TheVariants.{GoOn, OtherFiles, NoSuchFederate, Finished}
use Rattle.wires_greeting.specs.declared.answer.Answer.TheVariants.{NotAllowed}
use Rattle.wires_greeting.specs.declared.greeting.Greeting.{Greeting}
use Rattle.wires_greeting.specs.declared.challenge.Challenge.{Challenge}
use Rattle.wires_greeting.specs.declared.coordinator_side.CoordinatorState.{CoordinatorState}
use Rattle.wires_greeting.specs.declared.coordinator_side.CoordinatorState.TheVariants.{Waiting, Challenged, LetIn}
use Rattle.wires_greeting.specs.declared.coordinator_side.CoordinatorState.TheVariants.{Finishing, Told, Refused}
use Rattle.wires_greeting.specs.declared.coordinator_side.CoordinatorState.TheVariants.{OtherProtocol, NotProved}
use Rattle.wires_greeting.specs.Answer.{is_go_on, is_finished}
use Rattle.wires_greeting.specs.Message.{challenge_bytes, greeting_of}
use Rattle.wires_greeting.specs.Proof.{federate_proof, challenge_by}

-- the coordinator's side, as a caller sees it
pub record Coordinator : Type 0 where
  pub key : List ℕ
  -- the digest of its files
  pub files : List ℕ
  pub state : CoordinatorState

-- the side as it begins: it waits for a greeting
abbrev pub waiting : List ℕ → List ℕ → Coordinator
waiting key files = record { key = key; files = files; state = Waiting }

-- the answer to a federate of the same files, by whether it may take part, if there is such a federate
abbrev pub answer_by : Bool → Option Bool → Answer
answer_by finished None = NoSuchFederate
answer_by finished (Some allowed) = if finished then Finished else if allowed then GoOn else NotAllowed

-- the answer to a greeting, by the coordinator's files and by which federates there are that may take part
abbrev pub answer_to : (files : List ℕ) (allowed : List Bool) (finished : Bool) → Greeting → Answer
answer_to files allowed finished greeting =
    if bytes_eq greeting.files files then answer_by finished (slice_get allowed greeting.federate) else OtherFiles

-- the challenge to a greeting
abbrev pub challenge_to : Coordinator → (random : List ℕ) (allowed : List Bool) (finished : Bool) → Greeting → Challenge
challenge_to side random allowed finished greeting =
    challenge_by side.key greeting (answer_to side.files allowed finished greeting) random

-- the state once this challenge was given to this greeting
abbrev pub answered : Greeting → Challenge → CoordinatorState
answered greeting challenge =
    if is_go_on challenge.answer then Challenged greeting challenge
    else if is_finished challenge.answer then Finishing greeting challenge
    else Refused challenge.answer

-- the state by the greeting that came, if what came is one
abbrev pub greeted : Coordinator → (random : List ℕ) (allowed : List Bool) (finished : Bool) → Option Greeting
    → CoordinatorState
greeted side random allowed finished None = OtherProtocol
greeted side random allowed finished (Some greeting) =
    answered greeting (challenge_to side random allowed finished greeting)

-- whether the greeting is still to come
abbrev pub is_waiting : CoordinatorState → Bool
is_waiting Waiting = true
is_waiting (Challenged greeting challenge) = false
is_waiting (LetIn greeting challenge) = false
is_waiting (Finishing greeting challenge) = false
is_waiting (Told greeting challenge) = false
is_waiting (Refused answer) = false
is_waiting OtherProtocol = false
is_waiting NotProved = false

-- what these bytes make of the side, if it waits for a greeting; else they change nothing
abbrev pub after_greeting : Coordinator → (bytes random : List ℕ) (allowed : List Bool) (finished : Bool) → Coordinator
after_greeting side bytes random allowed finished =
    if is_waiting side.state then record side
    { state = greeted side random allowed finished (greeting_of bytes) } else side

-- what is sent once these bytes came: the challenge, if they are a greeting that was waited for
abbrev pub sent_after : Coordinator → (bytes random : List ℕ) (allowed : List Bool) (finished : Bool) → Option (List ℕ)
sent_after side bytes random allowed finished =
    if is_waiting side.state
    then option_map (λ greeting. challenge_bytes (challenge_to side random allowed finished greeting))
    (greeting_of bytes)
    else None

-- what these bytes make of a state: after a challenge the federate is let in, or was told that the run is finished, if
-- they are its proof by this key
abbrev pub proved : (key proof : List ℕ) → CoordinatorState → CoordinatorState
proved key proof Waiting = Waiting
proved key proof (Challenged greeting challenge) =
    if bytes_eq proof (federate_proof key greeting challenge) then LetIn greeting challenge else NotProved
proved key proof (LetIn greeting challenge) = LetIn greeting challenge
proved key proof (Finishing greeting challenge) =
    if bytes_eq proof (federate_proof key greeting challenge) then Told greeting challenge else NotProved
proved key proof (Told greeting challenge) = Told greeting challenge
proved key proof (Refused answer) = Refused answer
proved key proof OtherProtocol = OtherProtocol
proved key proof NotProved = NotProved

-- the side after a proof
abbrev pub after_proof : Coordinator → List ℕ → Coordinator
after_proof side proof = record side { state = proved side.key proof side.state }

-- the federate that is let in, if one is
abbrev pub let_in : CoordinatorState → Option ℕ
let_in Waiting = None
let_in (Challenged greeting challenge) = None
let_in (LetIn greeting challenge) = Some greeting.federate
let_in (Finishing greeting challenge) = None
let_in (Told greeting challenge) = None
let_in (Refused answer) = None
let_in OtherProtocol = None
let_in NotProved = None

-- the federate that was told that the run is finished, if one was
abbrev pub told : CoordinatorState → Option ℕ
told Waiting = None
told (Challenged greeting challenge) = None
told (LetIn greeting challenge) = None
told (Finishing greeting challenge) = None
told (Told greeting challenge) = Some greeting.federate
told (Refused answer) = None
told OtherProtocol = None
told NotProved = None
