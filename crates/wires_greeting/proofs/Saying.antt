-- What each side proves tells which side it is, and all that was said.
use Rattle.std.proofs.Common.{◌≡◌, ◌≢◌, ℕ, ◌^◌, ◌<◌, List, ◌∷◌, ◌++◌, Some, length, take, drop, get_or, refl, sym, ap, ◌∙◌, arith, append_assoc}
use Rattle.std.proofs.lemmas.List.{take_at, drop_at}
use Rattle.std.proofs.lemmas.Nat.{from_be_bytes-to_be_bytes_2, from_be_bytes-to_be_bytes_8}
use Rattle.std.specs.Int.{w16, w64, from_be_bytes}
use Rattle.wires_greeting.specs.declared.answer.Answer.{Answer}
use Rattle.wires_greeting.specs.declared.greeting.Greeting.{Greeting}
use Rattle.wires_greeting.specs.declared.challenge.Challenge.{Challenge}
use Rattle.wires_greeting.specs.Files.{with_length}
use Rattle.wires_greeting.specs.Answer.{byte_of, answer_of}
use Rattle.wires_greeting.specs.Message.{greeting_bytes, challenge_bytes, IsGreeting, IsChallenge}
use Rattle.wires_greeting.specs.Proof.{coordinator_said, federate_said}
use Rattle.wires_greeting.proofs.Spelling.{greeting, challenge, answer_read}

-- two lists in two parts each, of which the first are as long, are the same in their parts
pub same_halves : (n : ℕ) (a b c d : List ℕ) → length a ≡ n → length b ≡ n → a ++ c ≡ b ++ d → (a ≡ b) × (c ≡ d)
same_halves n a b c d x y e = (
  sym (take_at a c n x) ∙ ap (take n) e ∙ take_at b d n y,
  sym (drop_at a c n x) ∙ ap (drop n) e ∙ drop_at b d n y,
)

-- greetings with the same bytes in front of anything are the same, and so is what stands behind
pub same_greetings : (g other : Greeting) (x y : List ℕ) → IsGreeting g → IsGreeting other → greeting_bytes g ++ x ≡ greeting_bytes other ++ y → (g ≡ other) × (x ≡ y)
same_greetings g other x y h k e =
    let federate : g.federate ≡ other.federate =
    sym (from_be_bytes-to_be_bytes_2 g.federate h.federate_fits) ∙ ap (λ bytes. from_be_bytes w16 (take 2 (drop 8 bytes))) e ∙ from_be_bytes-to_be_bytes_2 other.federate k.federate_fits in
    let behind : g.files ++ g.random ++ x ≡ other.files ++ other.random ++ y = ap (drop 10) e in
    let first = same_halves 32 g.files other.files (g.random ++ x) (other.random ++ y) h.files_size k.files_size (sym (append_assoc g.files g.random x) ∙ behind ∙ append_assoc other.files other.random y) in
    let second = same_halves 32 g.random other.random x y h.random_size k.random_size first.1 in
    ((λ i. greeting (federate i) (first.0 i) (second.0 i)), second.1)

-- answers with the same byte are the same
pub same_answers : (a b : Answer) → byte_of a ≡ byte_of b → a ≡ b
same_answers a b e = let both : Some a ≡ Some b = sym (answer_read a) ∙ ap answer_of e ∙ answer_read b in cc

pub sides : (g other : Greeting) (a : Answer) (random : List ℕ) (c : Challenge) → coordinator_said g a random ≢ federate_said other c
sides g other a random c e = let first : ◌≡◌ {A = ℕ} 99 106 = ap (λ bytes. get_or bytes 0 0) e in omega arith

pub coordinators : (g other : Greeting) (a b : Answer) (random more : List ℕ) → IsGreeting g → IsGreeting other → coordinator_said g a random ≡ coordinator_said other b more →
    (g ≡ other) × (a ≡ b) × (random ≡ more)
coordinators g other a b random more h k e =
    let r = same_greetings g other (byte_of a ∷ random) (byte_of b ∷ more) h k (ap (drop 10) e) in
    (r.0, same_answers a b (ap (λ bytes. get_or bytes 0 0) r.1), ap (drop 1) r.1)

pub federates : (g other : Greeting) (c d : Challenge) → IsGreeting g → IsGreeting other → IsChallenge c → IsChallenge d → federate_said g c ≡ federate_said other d → (g ≡ other) × (c ≡ d)
federates g other c d h k x y e =
    let r = same_greetings g other (challenge_bytes c) (challenge_bytes d) h k (ap (drop 4) e) in
    let answer = same_answers c.answer d.answer (ap (λ bytes. get_or bytes 0 0) r.1) in
    let halves = same_halves 32 c.random d.random c.proof d.proof x.random_size y.random_size (ap (drop 1) r.1) in
    (r.0, λ i. challenge (answer i) (halves.0 i) (halves.1 i))

-- two files behind their lengths, one behind the other, tell both
pub files_told : (a b c d : List ℕ) → length a < 2 ^ 64 → length c < 2 ^ 64 → with_length a ++ with_length b ≡ with_length c ++ with_length d → (a ≡ c) × (b ≡ d)
files_told a b c d x y e =
    let number : length a ≡ length c =
    sym (from_be_bytes-to_be_bytes_8 (length a) x) ∙ ap (λ bytes. from_be_bytes w64 (take 8 bytes)) e ∙ from_be_bytes-to_be_bytes_8 (length c) y in
    let behind : a ++ with_length b ≡ c ++ with_length d = ap (drop 8) e in
    let halves = same_halves (length c) a c (with_length b) (with_length d) number refl behind in
    (halves.0, ap (drop 8) halves.1)
