-- What each side proves: that it has the secret, and that this was said on this connection. Each message that is proved
-- begins with a word for the side, so that neither side's proof is the other's.
use Rattle.std.specs.Prelude.{ℕ, List, ◌∷◌, ◌++◌, codes}
use Rattle.wires_greeting.specs.declared.answer.Answer.{Answer}
use Rattle.wires_greeting.specs.declared.greeting.Greeting.{Greeting}
use Rattle.wires_greeting.specs.declared.challenge.Challenge.{Challenge}
use Rattle.wires_greeting.specs.Hmac.{hmac_by}
use Rattle.wires_greeting.specs.Answer.{byte_of}
use Rattle.wires_greeting.specs.Message.{greeting_bytes, challenge_bytes}

-- what the coordinator's proof is over: its word, the greeting, its answer and its random bytes
abbrev pub coordinator_said : Greeting → Answer → List ℕ → List ℕ
coordinator_said greeting answer random = codes "coordinate" ++ greeting_bytes greeting ++ byte_of answer ∷ random

-- what the federate's proof is over: its word, its greeting, and the whole challenge
abbrev pub federate_said : Greeting → Challenge → List ℕ
federate_said greeting challenge = codes "join" ++ greeting_bytes greeting ++ challenge_bytes challenge

-- by the key, the proof of a coordinator that heard this greeting, and answers so
abbrev pub coordinator_proof : List ℕ → Greeting → Answer → List ℕ → List ℕ
coordinator_proof key greeting answer random = hmac_by key (coordinator_said greeting answer random)

-- by the key, the proof of a federate that said this greeting, and heard this challenge
abbrev pub federate_proof : List ℕ → Greeting → Challenge → List ℕ
federate_proof key greeting challenge = hmac_by key (federate_said greeting challenge)

-- the challenge of a coordinator that has the key
abbrev pub challenge_by : List ℕ → Greeting → Answer → List ℕ → Challenge
challenge_by key greeting answer random =
    record { answer = answer; random = random; proof = coordinator_proof key greeting answer random }
