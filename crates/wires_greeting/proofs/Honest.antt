-- Sides with the same key and the same files go on together, where all that is said comes as it was said.
use Rattle.std.proofs.Common.{◌≡◌, ℕ, Bool, true, false, List, None, Some, if◌then◌else◌, length, refl, ap, ◌∙◌}
use Rattle.std.specs.Prelude.{bytes_eq, slice_get, option_map}
use Rattle.std.proofs.lemmas.Slice.Eq.{bytes_eq-Decides}
use Rattle.sha2.proofs.Facts256.{length-sha256}
use Rattle.wires_greeting.specs.declared.answer.Answer.{Answer}
use Rattle.wires_greeting.specs.declared.answer.Answer.TheVariants.{GoOn, Finished, OtherFiles}
use Rattle.wires_greeting.specs.declared.greeting.Greeting.{Greeting}
use Rattle.wires_greeting.specs.declared.coordinator_side.CoordinatorState.TheVariants.{LetIn, Challenged, Finishing, Told, NotProved}
use Rattle.wires_greeting.specs.Message.{greeting_bytes, greeting_of, challenge_bytes, challenge_of, IsGreeting, IsChallenge}
use Rattle.wires_greeting.specs.Proof.{federate_proof, challenge_by}
use Rattle.wires_greeting.specs.Federate.{begun, proved_challenge, sent_to}
use Rattle.wires_greeting.specs.Federate as federate
use Rattle.wires_greeting.specs.Coordinator.{Coordinator, waiting, answer_by, answer_to, answered, greeted, challenge_to, proved}
use Rattle.wires_greeting.specs.Coordinator as coordinator
use Rattle.wires_greeting.proofs.Spelling.{greeting_read, challenge_read}

same_bytes : (a : List ℕ) → bytes_eq a a ≡ true
same_bytes a = (bytes_eq-Decides a a).1 refl

module _ (key files random : List ℕ) (allowed : List Bool) (g : Greeting) (h : IsGreeting g) (same : g.files ≡ files) (is_allowed : slice_get allowed g.federate ≡ Some true) where
  go_on : answer_to files allowed false g ≡ GoOn
  go_on =
      ap (λ t. if t then answer_by false (slice_get allowed g.federate) else OtherFiles) ((bytes_eq-Decides g.files files).1 same) ∙ ap (answer_by false) is_allowed

  pub challenge_sent : coordinator.sent_after (waiting key files) (greeting_bytes g) random allowed false ≡ Some (challenge_bytes (challenge_by key g GoOn random))
  challenge_sent =
      ap (option_map (λ x. challenge_bytes (challenge_to (waiting key files) random allowed false x))) (greeting_read g h) ∙ ap (λ a. Some (challenge_bytes (challenge_by key g a random))) go_on

  state_is : greeted (waiting key files) random allowed false (greeting_of (greeting_bytes g)) ≡ Challenged g (challenge_by key g GoOn random)
  state_is =
      ap (greeted (waiting key files) random allowed false) (greeting_read g h) ∙ ap (λ a. answered g (challenge_by key g a random)) go_on

  pub is_let_in : (coordinator.after_proof (coordinator.after_greeting (waiting key files) (greeting_bytes g) random allowed false) (federate_proof key g (challenge_by key g GoOn random))).state ≡ LetIn g (challenge_by key g GoOn random)
  is_let_in =
      let c = challenge_by key g GoOn random in
      ap (proved key (federate_proof key g c)) state_is ∙ ap (λ t. if t then LetIn g c else NotProved) (same_bytes (federate_proof key g c))

module _ (key files random : List ℕ) (allowed : List Bool) (g : Greeting) (is_allowed : Bool) (h : IsGreeting g) (same : g.files ≡ files) (is_there : slice_get allowed g.federate ≡ Some is_allowed) where
  finished : answer_to files allowed true g ≡ Finished
  finished =
      ap (λ t. if t then answer_by true (slice_get allowed g.federate) else OtherFiles) ((bytes_eq-Decides g.files files).1 same) ∙ ap (answer_by true) is_there

  pub telling_sent : coordinator.sent_after (waiting key files) (greeting_bytes g) random allowed true ≡ Some (challenge_bytes (challenge_by key g Finished random))
  telling_sent =
      ap (option_map (λ x. challenge_bytes (challenge_to (waiting key files) random allowed true x))) (greeting_read g h) ∙ ap (λ a. Some (challenge_bytes (challenge_by key g a random))) finished

  state_then : greeted (waiting key files) random allowed true (greeting_of (greeting_bytes g)) ≡ Finishing g (challenge_by key g Finished random)
  state_then =
      ap (greeted (waiting key files) random allowed true) (greeting_read g h) ∙ ap (λ a. answered g (challenge_by key g a random)) finished

  pub is_told : (coordinator.after_proof (coordinator.after_greeting (waiting key files) (greeting_bytes g) random allowed true) (federate_proof key g (challenge_by key g Finished random))).state ≡ Told g (challenge_by key g Finished random)
  is_told =
      let c = challenge_by key g Finished random in
      ap (proved key (federate_proof key g c)) state_then ∙ ap (λ t. if t then Told g c else NotProved) (same_bytes (federate_proof key g c))

module _ (key random : List ℕ) (g : Greeting) (long : length random ≡ 32) where
  proved_by : (a : Answer) → proved_challenge (begun key g) (challenge_of (challenge_bytes (challenge_by key g a random))) ≡ Some (challenge_by key g a random)
  proved_by a =
      let c = challenge_by key g a random in
      let is_challenge : IsChallenge c = record { random_size = long; proof_size = length-sha256 _ } in
      ap (proved_challenge (begun key g)) (challenge_read c is_challenge) ∙ ap (λ t. if t then Some c else None) (same_bytes c.proof)

  pub proof_sent : federate.sent_after (begun key g) (challenge_bytes (challenge_by key g GoOn random)) ≡ Some (federate_proof key g (challenge_by key g GoOn random))
  proof_sent = ap (sent_to (begun key g)) (proved_by GoOn)

  pub hearing_sent : federate.sent_after (begun key g) (challenge_bytes (challenge_by key g Finished random)) ≡ Some (federate_proof key g (challenge_by key g Finished random))
  hearing_sent = ap (sent_to (begun key g)) (proved_by Finished)
