-- How a coordinator comes to let a federate in or to tell it that the run is finished, and a federate to go on, by all that is handed
-- to each.
use Rattle.std.proofs.Common.{◌≡◌, ℕ, Bool, true, false, List, [], ◌∷◌, ◌++◌, Option, Some, None, if◌then◌else◌, refl, sym, ap, ◌∙◌}
use Rattle.std.specs.Prelude.{bytes_eq, option_map, slice_get}
use Rattle.std.proofs.lemmas.Slice.Eq.{bytes_eq-Decides}
use Rattle.wires_greeting.specs.declared.answer.Answer.{Answer}
use Rattle.wires_greeting.specs.declared.answer.Answer.TheVariants.{GoOn, OtherFiles, NoSuchFederate, Finished, NotAllowed}
use Rattle.wires_greeting.specs.declared.greeting.Greeting.{Greeting}
use Rattle.wires_greeting.specs.declared.challenge.Challenge.{Challenge}
use Rattle.wires_greeting.specs.declared.coordinator_side.CoordinatorState.{CoordinatorState}
use Rattle.wires_greeting.specs.declared.coordinator_side.CoordinatorState.TheVariants.{Challenged, LetIn, Finishing, Told, Refused, OtherProtocol, NotProved}
use Rattle.wires_greeting.specs.declared.federate_side.FederateState.{FederateState}
use Rattle.wires_greeting.specs.declared.federate_side.FederateState.TheVariants as F
use Rattle.wires_greeting.specs.Answer.{is_go_on}
use Rattle.wires_greeting.specs.Message.{greeting_of, challenge_bytes, challenge_of}
use Rattle.wires_greeting.specs.Proof.{coordinator_proof, federate_proof, challenge_by}
use Rattle.wires_greeting.specs.Federate.{Federate, begun, believed, state_by, challenged, is_proved}
use Rattle.wires_greeting.specs.Coordinator.{Coordinator, waiting, answer_by, answer_to, challenge_to, answered, greeted}
use Rattle.wires_greeting.specs.Calls.{CoordinatorCall, greets, proves, after_calls, after_challenges, IsLetIn, IsTold, GoesOn, BelievesRefusal}

-- ---- the coordinator

abbrev at : List ℕ → List ℕ → CoordinatorState → Coordinator
at key files state = record { key = key; files = files; state = state }

-- these states stay as they are

let_in_stays : (key files : List ℕ) (g : Greeting) (c : Challenge) (calls : List CoordinatorCall) → (after_calls (at key files (LetIn g c)) calls).state ≡ LetIn g c
let_in_stays key files g c [] = refl
let_in_stays key files g c (greets bytes random allowed finished ∷ calls) = let_in_stays key files g c calls
let_in_stays key files g c (proves bytes ∷ calls) = let_in_stays key files g c calls

told_stays : (key files : List ℕ) (g : Greeting) (c : Challenge) (calls : List CoordinatorCall) → (after_calls (at key files (Told g c)) calls).state ≡ Told g c
told_stays key files g c [] = refl
told_stays key files g c (greets bytes random allowed finished ∷ calls) = told_stays key files g c calls
told_stays key files g c (proves bytes ∷ calls) = told_stays key files g c calls

refused_stays : (key files : List ℕ) (a : Answer) (calls : List CoordinatorCall) → (after_calls (at key files (Refused a)) calls).state ≡ Refused a
refused_stays key files a [] = refl
refused_stays key files a (greets bytes random allowed finished ∷ calls) = refused_stays key files a calls
refused_stays key files a (proves bytes ∷ calls) = refused_stays key files a calls

other_protocol_stays : (key files : List ℕ) (calls : List CoordinatorCall) → (after_calls (at key files OtherProtocol) calls).state ≡ OtherProtocol
other_protocol_stays key files [] = refl
other_protocol_stays key files (greets bytes random allowed finished ∷ calls) = other_protocol_stays key files calls
other_protocol_stays key files (proves bytes ∷ calls) = other_protocol_stays key files calls

not_proved_stays : (key files : List ℕ) (calls : List CoordinatorCall) → (after_calls (at key files NotProved) calls).state ≡ NotProved
not_proved_stays key files [] = refl
not_proved_stays key files (greets bytes random allowed finished ∷ calls) = not_proved_stays key files calls
not_proved_stays key files (proves bytes ∷ calls) = not_proved_stays key files calls

-- how it ends behind a challenge: the proof is still to come, or it came among the calls, or something else did
data Ends (waits done : CoordinatorState) (proof : List ℕ) (calls : List CoordinatorCall) (end : CoordinatorState) : Type 0 where
  still_waits : end ≡ waits → Ends waits done proof calls end
  proof_came : (between behind : List CoordinatorCall) → calls ≡ between ++ proves proof ∷ behind → end ≡ done → Ends waits done proof calls end
  not_proved : end ≡ NotProved → Ends waits done proof calls end

-- and so behind one call more, which changes nothing
one_more : (waits done : CoordinatorState) (proof : List ℕ) (calls : List CoordinatorCall) (end : CoordinatorState) (call : CoordinatorCall) →
    Ends waits done proof calls end → Ends waits done proof (call ∷ calls) end
one_more waits done proof calls end call (still_waits e) = still_waits e
one_more waits done proof calls end call (proof_came between behind in_order e) = proof_came (call ∷ between) behind (ap (λ cs. call ∷ cs) in_order) e
one_more waits done proof calls end call (not_proved e) = not_proved e

module _ (key files : List ℕ) (g : Greeting) (c : Challenge) where
  abbrev proof : List ℕ
  proof = federate_proof key g c

  challenged_ends : (calls : List CoordinatorCall) → Ends (Challenged g c) (LetIn g c) proof calls (after_calls (at key files (Challenged g c)) calls).state
  challenged_ends [] = still_waits refl
  challenged_ends (greets bytes random allowed finished ∷ calls) =
      one_more (Challenged g c) (LetIn g c) proof calls (after_calls (at key files (Challenged g c)) calls).state (greets bytes random allowed finished) (challenged_ends calls)
  challenged_ends (proves bytes ∷ calls) = tested (bytes_eq bytes proof) refl
    where
      tested : (same : Bool) → bytes_eq bytes proof ≡ same → Ends (Challenged g c) (LetIn g c) proof (proves bytes ∷ calls) (after_calls (at key files (if same then LetIn g c else NotProved)) calls).state
      tested true is = proof_came [] calls (ap (λ b. proves b ∷ calls) ((bytes_eq-Decides bytes proof).0 is)) (let_in_stays key files g c calls)
      tested false is = not_proved (not_proved_stays key files calls)

  finishing_ends : (calls : List CoordinatorCall) → Ends (Finishing g c) (Told g c) proof calls (after_calls (at key files (Finishing g c)) calls).state
  finishing_ends [] = still_waits refl
  finishing_ends (greets bytes random allowed finished ∷ calls) =
      one_more (Finishing g c) (Told g c) proof calls (after_calls (at key files (Finishing g c)) calls).state (greets bytes random allowed finished) (finishing_ends calls)
  finishing_ends (proves bytes ∷ calls) = tested (bytes_eq bytes proof) refl
    where
      tested : (same : Bool) → bytes_eq bytes proof ≡ same → Ends (Finishing g c) (Told g c) proof (proves bytes ∷ calls) (after_calls (at key files (if same then Told g c else NotProved)) calls).state
      tested true is = proof_came [] calls (ap (λ b. proves b ∷ calls) ((bytes_eq-Decides bytes proof).0 is)) (told_stays key files g c calls)
      tested false is = not_proved (not_proved_stays key files calls)

-- after a challenge, the federate's proof over it came among the calls
record ProofCame (key : List ℕ) (calls : List CoordinatorCall) (g h : Greeting) (c d : Challenge) : Type 0 where
  same_greeting : g ≡ h
  same_challenge : c ≡ d
  between : List CoordinatorCall
  behind : List CoordinatorCall
  in_order : calls ≡ between ++ proves (federate_proof key h d) ∷ behind

came : (key : List ℕ) (calls : List CoordinatorCall) (g h : Greeting) (c d : Challenge) (between behind : List CoordinatorCall) →
    calls ≡ between ++ proves (federate_proof key g c) ∷ behind → g ≡ h → c ≡ d → ProofCame key calls g h c d
came key calls g h c d between behind in_order greeting challenge = record {
  same_greeting = greeting;
  same_challenge = challenge;
  between = between;
  behind = behind;
  in_order = in_order ∙ (λ i. between ++ proves (federate_proof key (greeting i) (challenge i)) ∷ behind);
}

let_in_by : (key : List ℕ) (calls : List CoordinatorCall) (g h : Greeting) (c d : Challenge) (end : CoordinatorState) →
    Ends (Challenged g c) (LetIn g c) (federate_proof key g c) calls end → end ≡ LetIn h d → ProofCame key calls g h c d
let_in_by key calls g h c d end (still_waits is) e = let both : Challenged g c ≡ LetIn h d = sym is ∙ e in absurd cc
let_in_by key calls g h c d end (proof_came between behind in_order is) e =
    let both : LetIn g c ≡ LetIn h d = sym is ∙ e in
    let greeting : g ≡ h = cc in
    let challenge : c ≡ d = cc in
    came key calls g h c d between behind in_order greeting challenge
let_in_by key calls g h c d end (not_proved is) e = let both : NotProved ≡ LetIn h d = sym is ∙ e in absurd cc

told_by : (key : List ℕ) (calls : List CoordinatorCall) (g h : Greeting) (c d : Challenge) (end : CoordinatorState) →
    Ends (Finishing g c) (Told g c) (federate_proof key g c) calls end → end ≡ Told h d → ProofCame key calls g h c d
told_by key calls g h c d end (still_waits is) e = let both : Finishing g c ≡ Told h d = sym is ∙ e in absurd cc
told_by key calls g h c d end (proof_came between behind in_order is) e =
    let both : Told g c ≡ Told h d = sym is ∙ e in
    let greeting : g ≡ h = cc in
    let challenge : c ≡ d = cc in
    came key calls g h c d between behind in_order greeting challenge
told_by key calls g h c d end (not_proved is) e = let both : NotProved ≡ Told h d = sym is ∙ e in absurd cc

never_told : (g h : Greeting) (c d : Challenge) (proof : List ℕ) (calls : List CoordinatorCall) (end : CoordinatorState) →
    Ends (Challenged g c) (LetIn g c) proof calls end → end ≡ Told h d → ⊥
never_told g h c d proof calls end (still_waits is) e = let both : Challenged g c ≡ Told h d = sym is ∙ e in cc
never_told g h c d proof calls end (proof_came between behind in_order is) e = let both : LetIn g c ≡ Told h d = sym is ∙ e in cc
never_told g h c d proof calls end (not_proved is) e = let both : NotProved ≡ Told h d = sym is ∙ e in cc

never_let_in : (g h : Greeting) (c d : Challenge) (proof : List ℕ) (calls : List CoordinatorCall) (end : CoordinatorState) →
    Ends (Finishing g c) (Told g c) proof calls end → end ≡ LetIn h d → ⊥
never_let_in g h c d proof calls end (still_waits is) e = let both : Finishing g c ≡ LetIn h d = sym is ∙ e in cc
never_let_in g h c d proof calls end (proof_came between behind in_order is) e = let both : Told g c ≡ LetIn h d = sym is ∙ e in cc
never_let_in g h c d proof calls end (not_proved is) e = let both : NotProved ≡ LetIn h d = sym is ∙ e in cc

-- what it means that the answer is to go on
record MayGoOn (files : List ℕ) (allowed : List Bool) (finished : Bool) (g : Greeting) : Type 0 where
  same_files : g.files ≡ files
  still_runs : finished ≡ false
  is_allowed : slice_get allowed g.federate ≡ Some true

parts : (same finished : Bool) (o : Option Bool) → (if same then answer_by finished o else OtherFiles) ≡ GoOn → (same ≡ true) × (finished ≡ false) × (o ≡ Some true)
parts true false (Some true) e = (refl, refl, refl)
parts true false (Some false) e = absurd cc
parts true true (Some b) e = absurd cc
parts true finished None e = absurd cc
parts false finished o e = absurd cc

may_go_on : (files : List ℕ) (allowed : List Bool) (finished : Bool) (g : Greeting) → answer_to files allowed finished g ≡ GoOn → MayGoOn files allowed finished g
may_go_on files allowed finished g e =
    let p = parts (bytes_eq g.files files) finished (slice_get allowed g.federate) e in
    record { same_files = (bytes_eq-Decides g.files files).0 p.0; still_runs = p.1; is_allowed = p.2 }

-- what it means that the answer is that the run is finished
record IsOver (files : List ℕ) (allowed : List Bool) (finished : Bool) (g : Greeting) : Type 0 where
  same_files : g.files ≡ files
  is_finished : finished ≡ true
  is_allowed : Bool
  is_there : slice_get allowed g.federate ≡ Some is_allowed

over_parts : (same finished : Bool) (o : Option Bool) → (if same then answer_by finished o else OtherFiles) ≡ Finished → (same ≡ true) × (finished ≡ true) × ((b : Bool) × (o ≡ Some b))
over_parts true true (Some b) e = (refl, refl, (b, refl))
over_parts true false (Some true) e = absurd cc
over_parts true false (Some false) e = absurd cc
over_parts true finished None e = absurd cc
over_parts false finished o e = absurd cc

is_over : (files : List ℕ) (allowed : List Bool) (finished : Bool) (g : Greeting) → answer_to files allowed finished g ≡ Finished → IsOver files allowed finished g
is_over files allowed finished g e =
    let p = over_parts (bytes_eq g.files files) finished (slice_get allowed g.federate) e in
    record { same_files = (bytes_eq-Decides g.files files).0 p.0; is_finished = p.1; is_allowed = p.2.0; is_there = p.2.1 }

module _ (key files bytes random : List ℕ) (allowed : List Bool) (finished : Bool) (calls : List CoordinatorCall) (h : Greeting) (d : Challenge) where
  let_in_from : (g : Greeting) → greeting_of bytes ≡ Some g → answer_to files allowed finished g ≡ GoOn → ProofCame key calls g h (challenge_by key g GoOn random) d →
      IsLetIn key files (greets bytes random allowed finished ∷ calls) h d
  let_in_from g is a r =
      let m = may_go_on files allowed finished g a in
      let go_on : answer_to files allowed false g ≡ GoOn = ap (λ f. answer_to files allowed f g) (sym m.still_runs) ∙ a in
      record {
        before = [];
        bytes = bytes;
        random = random;
        allowed = allowed;
        between = r.between;
        behind = r.behind;
        in_order = ap (λ f. greets bytes random allowed f ∷ calls) m.still_runs ∙ ap (λ cs. greets bytes random allowed false ∷ cs) r.in_order;
        is_greeting = is ∙ ap (λ x. Some x) r.same_greeting;
        same_files = ap (λ (x : Greeting). x.files) (sym r.same_greeting) ∙ m.same_files;
        is_allowed = ap (λ (x : Greeting). slice_get allowed x.federate) (sym r.same_greeting) ∙ m.is_allowed;
        is_proved = sym r.same_challenge ∙ ap (λ (x : Greeting). challenge_by key x GoOn random) r.same_greeting;
        is_sent =
            ap (option_map (λ x. challenge_bytes (challenge_to (waiting key files) random allowed false x))) is
            ∙ ap (λ x. Some (challenge_bytes (challenge_by key g x random))) go_on ∙ ap (λ x. Some (challenge_bytes x)) r.same_challenge;
      }

  refused_never : (a : Answer) → (after_calls (at key files (Refused a)) calls).state ≡ LetIn h d → ⊥
  refused_never a e = let both : Refused a ≡ LetIn h d = sym (refused_stays key files a calls) ∙ e in cc

  by_answer : (g : Greeting) → greeting_of bytes ≡ Some g → (a : Answer) → answer_to files allowed finished g ≡ a →
      (after_calls (at key files (answered g (challenge_by key g a random))) calls).state ≡ LetIn h d → IsLetIn key files (greets bytes random allowed finished ∷ calls) h d
  by_answer g is GoOn a e =
      let c = challenge_by key g GoOn random in
      let_in_from g is a (let_in_by key calls g h c d (after_calls (at key files (Challenged g c)) calls).state (challenged_ends key files g c calls) e)
  by_answer g is OtherFiles a e = absurd (refused_never OtherFiles e)
  by_answer g is NoSuchFederate a e = absurd (refused_never NoSuchFederate e)
  by_answer g is Finished a e =
      let c = challenge_by key g Finished random in
      absurd (never_let_in g h c d (federate_proof key g c) calls (after_calls (at key files (Finishing g c)) calls).state (finishing_ends key files g c calls) e)
  by_answer g is NotAllowed a e = absurd (refused_never NotAllowed e)

  by_greeting : (o : Option Greeting) → greeting_of bytes ≡ o →
      (after_calls (at key files (greeted (waiting key files) random allowed finished o)) calls).state ≡ LetIn h d → IsLetIn key files (greets bytes random allowed finished ∷ calls) h d
  by_greeting None is e = let both : OtherProtocol ≡ LetIn h d = sym (other_protocol_stays key files calls) ∙ e in absurd cc
  by_greeting (Some g) is e = by_answer g is (answer_to files allowed finished g) refl e

module _ (key files bytes random : List ℕ) (allowed : List Bool) (finished : Bool) (calls : List CoordinatorCall) (h : Greeting) (d : Challenge) where
  told_from : (g : Greeting) → greeting_of bytes ≡ Some g → answer_to files allowed finished g ≡ Finished → ProofCame key calls g h (challenge_by key g Finished random) d →
      IsTold key files (greets bytes random allowed finished ∷ calls) h d
  told_from g is a r =
      let m = is_over files allowed finished g a in
      let over : answer_to files allowed true g ≡ Finished = ap (λ f. answer_to files allowed f g) (sym m.is_finished) ∙ a in
      record {
        before = [];
        bytes = bytes;
        random = random;
        allowed = allowed;
        between = r.between;
        behind = r.behind;
        in_order = ap (λ f. greets bytes random allowed f ∷ calls) m.is_finished ∙ ap (λ cs. greets bytes random allowed true ∷ cs) r.in_order;
        is_greeting = is ∙ ap (λ x. Some x) r.same_greeting;
        same_files = ap (λ (x : Greeting). x.files) (sym r.same_greeting) ∙ m.same_files;
        is_allowed = m.is_allowed;
        is_there = ap (λ (x : Greeting). slice_get allowed x.federate) (sym r.same_greeting) ∙ m.is_there;
        is_proved = sym r.same_challenge ∙ ap (λ (x : Greeting). challenge_by key x Finished random) r.same_greeting;
        is_sent =
            ap (option_map (λ x. challenge_bytes (challenge_to (waiting key files) random allowed true x))) is
            ∙ ap (λ x. Some (challenge_bytes (challenge_by key g x random))) over ∙ ap (λ x. Some (challenge_bytes x)) r.same_challenge;
      }

  never_by_refusal : (a : Answer) → (after_calls (at key files (Refused a)) calls).state ≡ Told h d → ⊥
  never_by_refusal a e = let both : Refused a ≡ Told h d = sym (refused_stays key files a calls) ∙ e in cc

  told_by_answer : (g : Greeting) → greeting_of bytes ≡ Some g → (a : Answer) → answer_to files allowed finished g ≡ a →
      (after_calls (at key files (answered g (challenge_by key g a random))) calls).state ≡ Told h d → IsTold key files (greets bytes random allowed finished ∷ calls) h d
  told_by_answer g is GoOn a e =
      let c = challenge_by key g GoOn random in
      absurd (never_told g h c d (federate_proof key g c) calls (after_calls (at key files (Challenged g c)) calls).state (challenged_ends key files g c calls) e)
  told_by_answer g is OtherFiles a e = absurd (never_by_refusal OtherFiles e)
  told_by_answer g is NoSuchFederate a e = absurd (never_by_refusal NoSuchFederate e)
  told_by_answer g is Finished a e =
      let c = challenge_by key g Finished random in
      told_from g is a (told_by key calls g h c d (after_calls (at key files (Finishing g c)) calls).state (finishing_ends key files g c calls) e)
  told_by_answer g is NotAllowed a e = absurd (never_by_refusal NotAllowed e)

  told_by_greeting : (o : Option Greeting) → greeting_of bytes ≡ o →
      (after_calls (at key files (greeted (waiting key files) random allowed finished o)) calls).state ≡ Told h d → IsTold key files (greets bytes random allowed finished ∷ calls) h d
  told_by_greeting None is e = let both : OtherProtocol ≡ Told h d = sym (other_protocol_stays key files calls) ∙ e in absurd cc
  told_by_greeting (Some g) is e = told_by_answer g is (answer_to files allowed finished g) refl e

pub lets_in : (key files : List ℕ) (calls : List CoordinatorCall) (g : Greeting) (c : Challenge) → (after_calls (waiting key files) calls).state ≡ LetIn g c → IsLetIn key files calls g c
lets_in key files [] g c e = absurd cc
lets_in key files (greets bytes random allowed finished ∷ calls) g c e = by_greeting key files bytes random allowed finished calls g c (greeting_of bytes) refl e
lets_in key files (proves bytes ∷ calls) g c e =
    let r = lets_in key files calls g c e in
    record {
      before = proves bytes ∷ r.before;
      bytes = r.bytes;
      random = r.random;
      allowed = r.allowed;
      between = r.between;
      behind = r.behind;
      in_order = ap (λ cs. proves bytes ∷ cs) r.in_order;
      is_greeting = r.is_greeting;
      same_files = r.same_files;
      is_allowed = r.is_allowed;
      is_proved = r.is_proved;
      is_sent = r.is_sent;
    }

pub tells : (key files : List ℕ) (calls : List CoordinatorCall) (g : Greeting) (c : Challenge) → (after_calls (waiting key files) calls).state ≡ Told g c → IsTold key files calls g c
tells key files [] g c e = absurd cc
tells key files (greets bytes random allowed finished ∷ calls) g c e = told_by_greeting key files bytes random allowed finished calls g c (greeting_of bytes) refl e
tells key files (proves bytes ∷ calls) g c e =
    let r = tells key files calls g c e in
    record {
      before = proves bytes ∷ r.before;
      bytes = r.bytes;
      random = r.random;
      allowed = r.allowed;
      between = r.between;
      behind = r.behind;
      in_order = ap (λ cs. proves bytes ∷ cs) r.in_order;
      is_greeting = r.is_greeting;
      same_files = r.same_files;
      is_allowed = r.is_allowed;
      is_there = r.is_there;
      is_proved = r.is_proved;
      is_sent = r.is_sent;
    }

-- ---- the federate

abbrev stands : List ℕ → Greeting → FederateState → Federate
stands key g state = record { key = key; greeting = g; state = state }

proved_stays : (key : List ℕ) (g : Greeting) (c : Challenge) (came : List (List ℕ)) → (after_challenges (stands key g (F.Proved c)) came).state ≡ F.Proved c
proved_stays key g c [] = refl
proved_stays key g c (bytes ∷ later) = proved_stays key g c later

no_stays : (key : List ℕ) (g : Greeting) (a : Answer) (came : List (List ℕ)) → (after_challenges (stands key g (F.Refused a)) came).state ≡ F.Refused a
no_stays key g a [] = refl
no_stays key g a (bytes ∷ later) = no_stays key g a later

doubt_stays : (key : List ℕ) (g : Greeting) (came : List (List ℕ)) → (after_challenges (stands key g F.NotProved) came).state ≡ F.NotProved
doubt_stays key g [] = refl
doubt_stays key g (bytes ∷ later) = doubt_stays key g later

abbrev challenge : Answer → List ℕ → List ℕ → Challenge
challenge answer random proof = record { answer = answer; random = random; proof = proof }

module _ (key : List ℕ) (g : Greeting) (bytes : List ℕ) (later : List (List ℕ)) (d : Challenge) where
  goes_on_from : (c : Challenge) → challenge_of bytes ≡ Some c → c.proof ≡ coordinator_proof key g c.answer c.random → c.answer ≡ GoOn → c ≡ d → GoesOn key g (bytes ∷ later) d
  goes_on_from c is p a same = record {
    bytes = bytes;
    later = later;
    came_first = refl;
    is_challenge = is ∙ ap (λ x. Some x) same;
    is_proved = sym same ∙ (ap (λ x. challenge x c.random c.proof) a ∙ ap (λ x. challenge GoOn c.random x) (p ∙ ap (λ x. coordinator_proof key g x c.random) a)) ∙ ap (λ (x : Challenge). challenge_by key g GoOn x.random) same;
  }

  no_never : (a : Answer) → (after_challenges (stands key g (F.Refused a)) later).state ≡ F.Proved d → ⊥
  no_never a e = let both : F.Refused a ≡ F.Proved d = sym (no_stays key g a later) ∙ e in cc

  -- the end by the same state
  from_state : (s t : FederateState) → s ≡ t → (after_challenges (stands key g s) later).state ≡ F.Proved d → (after_challenges (stands key g t) later).state ≡ F.Proved d
  from_state s t same e = sym (ap (λ x. (after_challenges (stands key g x) later).state) same) ∙ e

  believed_is : (c : Challenge) (a : Answer) → c.answer ≡ a → believed c ≡ (if is_go_on a then F.Proved c else F.Refused a)
  believed_is c a is = ap (λ x. if is_go_on x then F.Proved c else F.Refused x) is

  if_believed : (c : Challenge) → challenge_of bytes ≡ Some c → c.proof ≡ coordinator_proof key g c.answer c.random → (a : Answer) → c.answer ≡ a →
      (after_challenges (stands key g (believed c)) later).state ≡ F.Proved d → GoesOn key g (bytes ∷ later) d
  if_believed c is p GoOn a e =
      let both : F.Proved c ≡ F.Proved d = sym (proved_stays key g c later) ∙ from_state (believed c) (F.Proved c) (believed_is c GoOn a) e in
      goes_on_from c is p a cc
  if_believed c is p OtherFiles a e = absurd (no_never OtherFiles (from_state (believed c) (F.Refused OtherFiles) (believed_is c OtherFiles a) e))
  if_believed c is p NoSuchFederate a e = absurd (no_never NoSuchFederate (from_state (believed c) (F.Refused NoSuchFederate) (believed_is c NoSuchFederate a) e))
  if_believed c is p Finished a e = absurd (no_never Finished (from_state (believed c) (F.Refused Finished) (believed_is c Finished a) e))
  if_believed c is p NotAllowed a e = absurd (no_never NotAllowed (from_state (believed c) (F.Refused NotAllowed) (believed_is c NotAllowed a) e))

  doubted_never : (after_challenges (stands key g F.NotProved) later).state ≡ F.Proved d → ⊥
  doubted_never e = let both : F.NotProved ≡ F.Proved d = sym (doubt_stays key g later) ∙ e in cc

  by_proof : (c : Challenge) → challenge_of bytes ≡ Some c → (same : Bool) → is_proved (begun key g) c ≡ same →
      (after_challenges (stands key g (state_by (if same then Some c else None))) later).state ≡ F.Proved d → GoesOn key g (bytes ∷ later) d
  by_proof c is true same e = if_believed c is ((bytes_eq-Decides c.proof (coordinator_proof key g c.answer c.random)).0 same) c.answer refl e
  by_proof c is false same e = absurd (doubted_never e)

  by_challenge : (o : Option Challenge) → challenge_of bytes ≡ o → (after_challenges (stands key g (challenged (begun key g) o)) later).state ≡ F.Proved d → GoesOn key g (bytes ∷ later) d
  by_challenge None is e = absurd (doubted_never e)
  by_challenge (Some c) is e = by_proof c is (is_proved (begun key g) c) refl e

pub goes_on : (key : List ℕ) (g : Greeting) (came : List (List ℕ)) (c : Challenge) → (after_challenges (begun key g) came).state ≡ F.Proved c → GoesOn key g came c
goes_on key g [] c e = absurd cc
goes_on key g (bytes ∷ later) c e = by_challenge key g bytes later c (challenge_of bytes) refl e

module _ (key : List ℕ) (g : Greeting) (bytes : List ℕ) (later : List (List ℕ)) (a : Answer) where
  refused_if : (c : Challenge) → challenge_of bytes ≡ Some c → is_proved (begun key g) c ≡ true → (goes_on : Bool) →
      (after_challenges (stands key g (if goes_on then F.Proved c else F.Refused c.answer)) later).state ≡ F.Refused a → BelievesRefusal key g (bytes ∷ later) a
  refused_if c is same true e = let both : F.Proved c ≡ F.Refused a = sym (proved_stays key g c later) ∙ e in absurd cc
  refused_if c is same false e =
      let both : F.Refused c.answer ≡ F.Refused a = sym (no_stays key g c.answer later) ∙ e in
      let answer : c.answer ≡ a = cc in
      let proof : c.proof ≡ coordinator_proof key g c.answer c.random = (bytes_eq-Decides c.proof (coordinator_proof key g c.answer c.random)).0 same in
      record {
        bytes = bytes;
        later = later;
        challenge = c;
        came_first = refl;
        is_challenge = is;
        is_proved = ap (λ x. challenge c.answer c.random x) proof ∙ ap (λ x. challenge_by key g x c.random) answer;
      }

  refused_by : (c : Challenge) → challenge_of bytes ≡ Some c → (same : Bool) → is_proved (begun key g) c ≡ same →
      (after_challenges (stands key g (state_by (if same then Some c else None))) later).state ≡ F.Refused a → BelievesRefusal key g (bytes ∷ later) a
  refused_by c is true same e = refused_if c is same (is_go_on c.answer) e
  refused_by c is false same e = let both : F.NotProved ≡ F.Refused a = sym (doubt_stays key g later) ∙ e in absurd cc

  refused_from : (o : Option Challenge) → challenge_of bytes ≡ o → (after_challenges (stands key g (challenged (begun key g) o)) later).state ≡ F.Refused a → BelievesRefusal key g (bytes ∷ later) a
  refused_from None is e = let both : F.NotProved ≡ F.Refused a = sym (doubt_stays key g later) ∙ e in absurd cc
  refused_from (Some c) is e = refused_by c is (is_proved (begun key g) c) refl e

pub believes : (key : List ℕ) (g : Greeting) (came : List (List ℕ)) (a : Answer) → (after_challenges (begun key g) came).state ≡ F.Refused a → BelievesRefusal key g came a
believes key g [] a e = absurd cc
believes key g (bytes ∷ later) a e = refused_from key g bytes later a (challenge_of bytes) refl e
