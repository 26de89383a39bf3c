-- The federate's side of a greeting: its states, and what the challenge makes of it.
use Rattle.std.specs.Prelude.{ℕ, List, Bool, true, false, bytes_eq, if◌then◌else◌, Option, Some, None}
use Rattle.wires_greeting.specs.declared.greeting.Greeting.{Greeting}
use Rattle.wires_greeting.specs.declared.challenge.Challenge.{Challenge}
use Rattle.wires_greeting.specs.declared.federate_side.FederateState.{FederateState}
use Rattle.wires_greeting.specs.declared.federate_side.FederateState.TheVariants.{Greeted, Proved, Refused, NotProved}
use Rattle.wires_greeting.specs.Answer.{is_go_on, wants_proof}
use Rattle.wires_greeting.specs.Message.{challenge_of}
use Rattle.wires_greeting.specs.Proof.{coordinator_proof, federate_proof}

-- a federate's side, as a caller sees it
pub record Federate : Type 0 where
  pub key : List ℕ
  -- what it says first
  pub greeting : Greeting
  pub state : FederateState

-- the side as it begins: it greets
abbrev pub begun : List ℕ → Greeting → Federate
begun key greeting = record { key = key; greeting = greeting; state = Greeted }

-- whether the challenge proves that the coordinator has the secret, heard this side's greeting, and answers so
abbrev pub is_proved : Federate → Challenge → Bool
is_proved side challenge =
    bytes_eq challenge.proof (coordinator_proof side.key side.greeting challenge.answer challenge.random)

-- the state by a challenge that is proved: it is believed
abbrev pub believed : Challenge → FederateState
believed challenge = if is_go_on challenge.answer then Proved challenge else Refused challenge.answer

-- the challenge that came, if what came is one that is proved
abbrev pub proved_challenge : Federate → Option Challenge → Option Challenge
proved_challenge side None = None
proved_challenge side (Some challenge) = if is_proved side challenge then Some challenge else None

-- the state by the proved challenge that came, if one came
abbrev pub state_by : Option Challenge → FederateState
state_by None = NotProved
state_by (Some challenge) = believed challenge

-- the state by the challenge that came, if what came is one
abbrev pub challenged : Federate → Option Challenge → FederateState
challenged side came = state_by (proved_challenge side came)

-- whether the challenge is still to come
abbrev pub is_greeted : FederateState → Bool
is_greeted Greeted = true
is_greeted (Proved challenge) = false
is_greeted (Refused answer) = false
is_greeted NotProved = false

-- what these bytes make of the side, if it waits for a challenge; else they change nothing
abbrev pub after_challenge : Federate → List ℕ → Federate
after_challenge side bytes =
    if is_greeted side.state then record side { state = challenged side (challenge_of bytes) } else side

-- what a side sends to the proved challenge that came, if one came: its proof, where frames begin or the run is
-- finished
abbrev pub sent_to : Federate → Option Challenge → Option (List ℕ)
sent_to side None = None
sent_to side (Some challenge) =
    if wants_proof challenge.answer then Some (federate_proof side.key side.greeting challenge) else None

-- what is sent once these bytes came
abbrev pub sent_after : Federate → List ℕ → Option (List ℕ)
sent_after side bytes =
    if is_greeted side.state then sent_to side (proved_challenge side (challenge_of bytes)) else None
