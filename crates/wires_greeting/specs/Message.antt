-- The greeting and the challenge as bytes, both ways. The federate's proof is its bytes.
use Rattle.std.specs.Prelude.{◌≡◌, ℕ, ◌^◌, ◌<◌, List, [], ◌∷◌, ◌++◌, take, drop, length, slice_index, bytes_eq, codes}
use Rattle.std.specs.Prelude.{if◌then◌else◌, Option, Some, None, option_map}
use Rattle.std.specs.Int.{w16, to_be_bytes, from_be_bytes}
use Rattle.wires_greeting.specs.declared.sizes.TheConstants.{DIGEST_SIZE, RANDOM_SIZE, PROOF_SIZE}
use Rattle.wires_greeting.specs.declared.answer.Answer.{Answer}
use Rattle.wires_greeting.specs.declared.greeting.Greeting.{Greeting}
use Rattle.wires_greeting.specs.declared.challenge.Challenge.{Challenge}
use Rattle.wires_greeting.specs.Answer.{byte_of, answer_of}

-- the protocol and its version
abbrev pub protocol : List ℕ
protocol = codes "fedrun 1"

-- the protocol, the federate's number in two bytes, the digest of the files, and random bytes
abbrev pub greeting_bytes : Greeting → List ℕ
greeting_bytes greeting = protocol ++ to_be_bytes w16 greeting.federate ++ greeting.files ++ greeting.random

-- the answer's byte, random bytes, and the coordinator's proof
abbrev pub challenge_bytes : Challenge → List ℕ
challenge_bytes challenge = byte_of challenge.answer ∷ challenge.random ++ challenge.proof

-- the greeting whose parts stand in some bytes behind the protocol
abbrev pub greeting_at : List ℕ → Greeting
greeting_at bytes = record {
  federate = from_be_bytes w16 (slice_index bytes 8 ∷ slice_index bytes 9 ∷ []);
  files = take 32 (drop 10 bytes);
  random = take 32 (drop 42 bytes);
}

-- the greeting that some bytes are, if they are of this protocol and this version
abbrev pub greeting_of : List ℕ → Option Greeting
greeting_of bytes =
    if bytes_eq (take 8 bytes) protocol
    then Some (greeting_at bytes)
    else None

-- the challenge whose answer is this, and whose other parts stand in some bytes
abbrev pub challenge_at : List ℕ → Answer → Challenge
challenge_at bytes answer = record { answer = answer; random = take 32 (drop 1 bytes); proof = take 32 (drop 33 bytes) }

-- the challenge that some bytes are, if the first says an answer
abbrev pub challenge_of : List ℕ → Option Challenge
challenge_of bytes = option_map (challenge_at bytes) (answer_of (slice_index bytes 0))

-- what every greeting of the program keeps
pub record IsGreeting (greeting : Greeting) : Type 0 where
  pub federate_fits : greeting.federate < 2 ^ 16
  pub files_size : length greeting.files ≡ DIGEST_SIZE
  pub random_size : length greeting.random ≡ RANDOM_SIZE

-- what every challenge of the program keeps
pub record IsChallenge (challenge : Challenge) : Type 0 where
  pub random_size : length challenge.random ≡ RANDOM_SIZE
  pub proof_size : length challenge.proof ≡ PROOF_SIZE
