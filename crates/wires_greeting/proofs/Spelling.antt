-- Greetings and challenges as bytes: what is spelled is read again, and nothing else is read.
use Rattle.std.proofs.Common.{◌≡◌, ℕ, zero, suc, ◌^◌, ◌<◌, ◌==◌, Bool, true, false, List, [], ◌∷◌, ◌++◌, Option, Some, None, if◌then◌else◌, length, take, drop, get_or, refl, sym, ap, ◌∙◌, arith, lit<}
use Rattle.std.specs.Prelude.{bytes_eq, slice_index, option_map}
use Rattle.std.proofs.lemmas.Slice.Eq.{bytes_eq-Decides}
use Rattle.std.proofs.lemmas.List.{take_at, drop_at, take_all, take-append-drop, length-drop, drop-drop, drop_more}
use Rattle.std.specs.Int.{w16, to_be_bytes}
use Rattle.std.proofs.lemmas.Bool.Decides.{Decides-eqb}
use Rattle.std.proofs.lemmas.Nat.{be_bytes_2, from_be_bytes-to_be_bytes_2}
use Rattle.wires_greeting.specs.declared.answer.Answer.{Answer}
use Rattle.wires_greeting.specs.declared.answer.Answer.TheVariants.{GoOn, OtherFiles, NoSuchFederate, Finished, NotAllowed}
use Rattle.wires_greeting.specs.declared.greeting.Greeting.{Greeting}
use Rattle.wires_greeting.specs.declared.challenge.Challenge.{Challenge}
use Rattle.wires_greeting.specs.Answer.{byte_of, answer_of}
use Rattle.wires_greeting.specs.Message.{protocol, greeting_bytes, greeting_at, greeting_of, challenge_at, challenge_bytes, challenge_of, IsGreeting, IsChallenge}

abbrev pub greeting : ℕ → List ℕ → List ℕ → Greeting
greeting federate files random = record { federate = federate; files = files; random = random }

abbrev pub challenge : Answer → List ℕ → List ℕ → Challenge
challenge answer random proof = record { answer = answer; random = random; proof = proof }

-- ---- what is spelled is read again

pub greeting_read : (g : Greeting) → IsGreeting g → greeting_of (greeting_bytes g) ≡ Some g
greeting_read g h =
    let federate : (greeting_at (greeting_bytes g)).federate ≡ g.federate = from_be_bytes-to_be_bytes_2 g.federate h.federate_fits in
    let files : take 32 (drop 10 (greeting_bytes g)) ≡ g.files = take_at g.files g.random 32 h.files_size in
    let behind : drop 42 (greeting_bytes g) ≡ g.random = drop_at g.files g.random 32 h.files_size in
    let random : take 32 (drop 42 (greeting_bytes g)) ≡ g.random = ap (take 32) behind ∙ take_all 32 g.random (omega (arith, h.random_size)) in
    λ i. Some (greeting (federate i) (files i) (random i))

pub answer_read : (a : Answer) → answer_of (byte_of a) ≡ Some a
answer_read GoOn = refl
answer_read OtherFiles = refl
answer_read NoSuchFederate = refl
answer_read Finished = refl
answer_read NotAllowed = refl

pub challenge_read : (c : Challenge) → IsChallenge c → challenge_of (challenge_bytes c) ≡ Some c
challenge_read c h =
    let random : take 32 (drop 1 (challenge_bytes c)) ≡ c.random = take_at c.random c.proof 32 h.random_size in
    let behind : drop 33 (challenge_bytes c) ≡ c.proof = drop_at c.random c.proof 32 h.random_size in
    let proof : take 32 (drop 33 (challenge_bytes c)) ≡ c.proof = ap (take 32) behind ∙ take_all 32 c.proof (omega (arith, h.proof_size)) in
    ap (option_map (challenge_at (challenge_bytes c))) (answer_read c.answer) ∙ (λ i. Some (challenge c.answer (random i) (proof i)))

-- ---- nothing else is read

module _ (bytes : List ℕ) (long : length bytes ≡ 74) (small : (i : ℕ) → slice_index bytes i < 2 ^ 8) where
  abbrev high : ℕ
  high = slice_index bytes 8

  abbrev low : ℕ
  low = slice_index bytes 9

  small_two : (i : ℕ) → get_or (high ∷ low ∷ []) i 0 < 256
  small_two zero = small 8
  small_two (suc zero) = small 9
  small_two (suc (suc i)) = lit< tt

  -- the bytes behind the federate's number
  parts : drop 10 bytes ≡ take 32 (drop 10 bytes) ++ take 32 (drop 42 bytes)
  parts =
      let all = take_all 32 (drop 42 bytes) (omega (arith, long, length-drop 42 bytes)) in
      sym (take-append-drop 32 (drop 10 bytes)) ∙ ap (λ x. take 32 (drop 10 bytes) ++ x) (drop-drop 32 10 bytes ∙ sym all)

  whole : take 8 bytes ≡ protocol → bytes ≡ greeting_bytes (greeting_at bytes)
  whole front =
      let number : to_be_bytes w16 (greeting_at bytes).federate ≡ high ∷ low ∷ [] = be_bytes_2 (high ∷ low ∷ []) (greeting_at bytes).federate refl small_two refl in
      let first : drop 8 bytes ≡ high ∷ drop 9 bytes = drop_more bytes 8 0 (omega (arith, long)) in
      let second : drop 9 bytes ≡ low ∷ drop 10 bytes = drop_more bytes 9 0 (omega (arith, long)) in
      let behind : drop 8 bytes ≡ to_be_bytes w16 (greeting_at bytes).federate ++ (take 32 (drop 10 bytes) ++ take 32 (drop 42 bytes)) =
      first ∙ ap (λ x. high ∷ x) (second ∙ ap (λ x. low ∷ x) parts) ∙ ap (λ x. x ++ (take 32 (drop 10 bytes) ++ take 32 (drop 42 bytes))) (sym number) in
      sym (take-append-drop 8 bytes) ∙ (λ i. front i ++ behind i)

  by_test : (g : Greeting) (t : Bool) → bytes_eq (take 8 bytes) protocol ≡ t → (if t then Some (greeting_at bytes) else None) ≡ Some g → bytes ≡ greeting_bytes g
  by_test g true t e = let made : greeting_at bytes ≡ g = cc in whole ((bytes_eq-Decides (take 8 bytes) protocol).0 t) ∙ ap greeting_bytes made
  by_test g false t e = absurd cc

pub only_greeting : (bytes : List ℕ) (g : Greeting) → length bytes ≡ 74 → ((i : ℕ) → slice_index bytes i < 2 ^ 8) → greeting_of bytes ≡ Some g → bytes ≡ greeting_bytes g
only_greeting bytes g long small e = by_test bytes long small g (bytes_eq (take 8 bytes) protocol) refl e

-- the byte of an answer, where it is this or the byte of a later one
one_of : (byte n : ℕ) (x a : Answer) (later : Option Answer) → byte_of x ≡ n → (later ≡ Some a → byte ≡ byte_of a) → (if byte == n then Some x else later) ≡ Some a → byte ≡ byte_of a
one_of byte n x a later is others e = tested (byte == n) refl e
  where
    tested : (t : Bool) → (byte == n) ≡ t → (if t then Some x else later) ≡ Some a → byte ≡ byte_of a
    tested true t e = let same : x ≡ a = cc in (Decides-eqb byte n).0 t ∙ sym is ∙ ap byte_of same
    tested false t e = others e

-- the byte of an answer that is read
only_answer : (byte : ℕ) (a : Answer) → answer_of byte ≡ Some a → byte ≡ byte_of a
only_answer byte a e =
    let fifth : Option Answer = if byte == 5 then Some NotAllowed else None in
    let fourth : Option Answer = if byte == 4 then Some Finished else fifth in
    let third : Option Answer = if byte == 3 then Some NoSuchFederate else fourth in
    let second : Option Answer = if byte == 2 then Some OtherFiles else third in
    one_of byte 1 GoOn a second refl (one_of byte 2 OtherFiles a third refl (one_of byte 3 NoSuchFederate a fourth refl
    (one_of byte 4 Finished a fifth refl (one_of byte 5 NotAllowed a None refl (λ e. absurd (no_answer e)))))) e
  where
    no_answer : None ≡ Some a → ⊥
    no_answer e = cc

pub only_challenge : (bytes : List ℕ) (c : Challenge) → length bytes ≡ 65 → challenge_of bytes ≡ Some c → bytes ≡ challenge_bytes c
only_challenge [] c long is = absurd (omega (arith, long))
only_challenge (byte ∷ bytes) c long is = by_answer (answer_of byte) refl is
  where
    by_answer : (o : Option Answer) → answer_of byte ≡ o → option_map (challenge_at (byte ∷ bytes)) o ≡ Some c → byte ∷ bytes ≡ challenge_bytes c
    by_answer None a e = absurd cc
    by_answer (Some answer) a e =
        let made : challenge_at (byte ∷ bytes) answer ≡ c = cc in
        let end : take 32 (drop 32 bytes) ≡ drop 32 bytes = take_all 32 (drop 32 bytes) (omega (arith, long, length-drop 32 bytes)) in
        let whole : bytes ≡ take 32 bytes ++ take 32 (drop 32 bytes) = sym (take-append-drop 32 bytes) ∙ ap (λ x. take 32 bytes ++ x) (sym end) in
        (λ i. only_answer byte answer a i ∷ whole i) ∙ ap challenge_bytes made

-- ---- what is read part by part

-- a greeting of the parts at their places, behind the protocol
pub greeting_made : (bytes : List ℕ) (federate : ℕ) (files random : List ℕ) → bytes_eq (take 8 bytes) protocol ≡ true → federate ≡ (greeting_at bytes).federate →
    files ≡ take 32 (drop 10 bytes) → random ≡ take 32 (drop 42 bytes) → Some (greeting federate files random) ≡ greeting_of bytes
greeting_made bytes federate files random t x y z =
    (λ i. Some (greeting (x i) (y i) (z i))) ∙ sym (ap (λ s. if s then Some (greeting_at bytes) else None) t)

-- a challenge of the parts at their places
pub challenge_made : (bytes : List ℕ) (answer : Answer) (random proof : List ℕ) → answer_of (slice_index bytes 0) ≡ Some answer →
    random ≡ take 32 (drop 1 bytes) → proof ≡ take 32 (drop 33 bytes) → Some (challenge answer random proof) ≡ challenge_of bytes
challenge_made bytes answer random proof a y z = (λ i. Some (challenge answer (y i) (z i))) ∙ sym (ap (option_map (challenge_at bytes)) a)
