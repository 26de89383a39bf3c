-- Reading goes on by one event, and by one journal.
use Rattle.std.proofs.Common.{◌≡◌, ◌≢◌, ◌∙◌, ℕ, zero, suc, ◌+◌, ◌<◌, ◌≤◌, Bool, true, false, List, [], ◌∷◌, ◌++◌, length, get_or, set, take, slice_get, Some, None, is_some, ⊎_elim, ◌⊎◌, inl, inr, add-one, refl, sym, ap, append-nil, arith}
use Rattle.std.proofs.lemmas.Bool.Decides.{nat_tests}
use Rattle.std.proofs.lemmas.Bool.{cases_eq}
use Rattle.std.proofs.lemmas.List.{get_or-set_same, get_or-set_other}
use Rattle.std.proofs.lemmas.Option.{slice_get_within}
use Rattle.link_laws.proofs.Places.{take_next}
use Rattle.node.specs.declared.event.Event.{Event}
use Rattle.node.specs.declared.node_id.NodeId.{NodeId}
use Rattle.world_stations.specs.declared.step.Step.{Step}
use Rattle.world_stations.specs.declared.step.Step.TheVariants.{Forget}
use Rattle.recorder_search.specs.Motion.{Motion, after_all, IsEvent}
use Rattle.recorder_search.specs.Journals.{place_of, node_at, journal_of, event_at, events_at}
use Rattle.recorder_search.specs.Reading.{Position, HasRead, IsBlocked, unread, GoesOn}
use Rattle.recorder_search.proofs.Pushed.{after_push, events_push, each_push, no_forget, none_forgets_push}

pub placed : (place : ℕ) → place_of (node_at place) ≡ place
placed zero = refl
placed (suc j) = refl

-- one event more is read of a journal, so less is left
pub less_unread : (journals : List (List Event)) (read : List ℕ) (place more : ℕ) (e : Event) → place < length read → slice_get (get_or journals place []) (get_or read place 0) ≡ Some e →
    more ≡ get_or read place 0 + 1 → unread journals (set read place more) < unread journals read
less_unread [] read place more e there next is = let no : ⊥ = grind arith in absurd no
less_unread (journal ∷ journals) [] place more e there next is = absurd (omega arith)
less_unread (journal ∷ journals) (n ∷ read) zero more e there next is =
    let within = slice_get_within journal n e next in
    omega arith
less_unread (journal ∷ journals) (n ∷ read) (suc place) more e there next is =
    omega (arith, less_unread journals read place more e (omega arith) next is)

-- what comes to a node by an event at another, and by one at itself
event_elsewhere : (node other : NodeId) (e : Event) → place_of other ≢ place_of node → event_at node (Some (record { node = other; event = e })) ≡ []
event_elsewhere node other e differ = grind (arith, nat_tests)

event_here : (node other : NodeId) (e : Event) → place_of other ≡ place_of node → event_at node (Some (record { node = other; event = e })) ≡ e ∷ []
event_here node other e same = grind (arith, nat_tests)

module _ {State : Type 0} (motion : Motion State) (forgetting : (state : State) (federate : ℕ) → motion.occurrence state (Forget federate) ≡ None)
    (journals : List (List Event)) (p q : Position State) (place : ℕ) (e : Event) (step : Step)
    (there : place < length p.read) (next : slice_get (get_or journals place []) (get_or p.read place 0) ≡ Some e)
    (is : IsEvent motion p.state step (node_at place) e)
    (state : q.state ≡ motion.after p.state step) (more : ℕ) (one : more ≡ get_or p.read place 0 + 1) (read : q.read ≡ set p.read place more) where
  read_within : ((k : ℕ) → get_or p.read k 0 ≤ length (get_or journals k [])) → (k : ℕ) → get_or (set p.read place more) k 0 ≤ length (get_or journals k [])
  read_within within k =
      let less = slice_get_within (get_or journals place []) (get_or p.read place 0) e next in
      let same : get_or (set p.read place more) place 0 ≡ more = get_or-set_same p.read place more 0 there in
      ⊎_elim
      (λ (eq : k ≡ place). rw eq (omega (arith, same, less, one)))
      (λ (ne : k ≢ place). rw (get_or-set_other p.read place k more 0 ne) (within k))
      (cases_eq k place)

  read_events : (initial : State) (steps : List Step) → HasRead motion initial journals p steps → (node : NodeId) →
      events_at motion node initial (steps ++ step ∷ []) ≡ take (get_or (set p.read place more) (place_of node) 0) (journal_of journals node)
  read_events initial steps reading node =
      let pushed = events_push motion node initial steps step in
      let at_that : motion.occurrence (after_all motion initial steps) step ≡ Some (record { node = node_at place; event = e }) =
      ap (λ s. motion.occurrence s step) (sym reading.made) ∙ is in
      let here = placed place in
      let before = reading.events node in
      ⊎_elim
      (λ (eq : place_of node ≡ place).
      let event = event_here node (node_at place) e (here ∙ sym eq) in
      let same : get_or (set p.read place more) place 0 ≡ more = get_or-set_same p.read place more 0 there in
      let taken : take more (get_or journals place []) ≡ take (get_or p.read place 0) (get_or journals place []) ++ e ∷ [] =
      ap (λ n. take n (get_or journals place [])) (one ∙ add-one (get_or p.read place 0)) ∙ take_next (get_or p.read place 0) (get_or journals place []) e next in
      pushed ∙ ap (λ o. events_at motion node initial steps ++ event_at node o) at_that ∙ ap (λ r. events_at motion node initial steps ++ r) event
      ∙ ap (λ r. r ++ e ∷ []) before
      ∙ (rw eq (sym taken ∙ ap (λ n. take n (get_or journals place [])) (sym same))))
      (λ (ne : place_of node ≢ place).
      let event = event_elsewhere node (node_at place) e (grind arith) in
      pushed ∙ ap (λ o. events_at motion node initial steps ++ event_at node o) at_that ∙ ap (λ r. events_at motion node initial steps ++ r) event
      ∙ append-nil (events_at motion node initial steps) ∙ before
      ∙ ap (λ n. take n (journal_of journals node)) (sym (get_or-set_other p.read place (place_of node) more 0 ne)))
      (cases_eq (place_of node) place)

  -- a step that is the next event of a journal
  pub one_more : GoesOn motion journals p q true
  one_more = record {
    reading = λ initial before. (
      before.0 ++ step ∷ [],
      record {
        made = state ∙ ap (λ s. motion.after s step) before.1.made ∙ sym (after_push motion initial before.0 step);
        each = each_push motion initial before.0 step before.1.each (ap (λ s. is_some (motion.occurrence s step)) (sym before.1.made) ∙ ap is_some is);
        none_forgets = none_forgets_push before.0 step before.1.none_forgets (no_forget motion forgetting p.state step (node_at place) e is);
        within = λ k. rw read (read_within before.1.within k);
        events = λ node. rw read (read_events initial before.0 before.1 node);
      },
    );
    further = λ _. rw read (less_unread journals p.read place more e there next one);
    still = λ no. absurd (grind arith);
  }

module _ {State : Type 0} (motion : Motion State) (journals : List (List Event)) where
  -- nothing has changed
  pub stays : (p q : Position State) → q ≡ p → GoesOn motion journals p q false
  stays p q same = record {
    reading = λ initial reading. rw same reading;
    further = λ no. absurd (grind arith);
    still = λ _. same;
  }

  -- after what was read before, it moved
  pub goes_further : (p q r : Position State) (moved : Bool) → GoesOn motion journals p q moved → GoesOn motion journals q r true → GoesOn motion journals p r true
  goes_further p q r true before after = record {
    reading = λ initial reading. after.reading initial (before.reading initial reading);
    further = λ _. omega (arith, before.further refl, after.further refl);
    still = λ no. absurd (grind arith);
  }
  goes_further p q r false before after = rw (← before.still refl) after

  -- after what was read before, it stayed
  pub goes_no_further : (p q r : Position State) (moved : Bool) → GoesOn motion journals p q moved → GoesOn motion journals q r false → GoesOn motion journals p r moved
  goes_no_further p q r moved before after = rw (after.still refl) before

  -- a round goes on by one journal
  pub round_on : (p q r : Position State) (moved now then exact : Bool) (place more : ℕ) → more ≡ place + 1 → GoesOn motion journals p q moved → GoesOn motion journals q r now →
      ((now ≡ true) × (then ≡ true)) ⊎ ((now ≡ false) × (then ≡ moved)) →
      (moved ≡ false → exact ≡ true → (k : ℕ) → k < place → IsBlocked motion journals p k) →
      (now ≡ false → exact ≡ true → IsBlocked motion journals q place) →
      GoesOn motion journals p r then × (then ≡ false → exact ≡ true → (k : ℕ) → k < more → IsBlocked motion journals p k)
  round_on p q r moved now then exact place more one before after (inl both) earlier here =
      (rw both.1 (goes_further p q r moved before (rw both.0 at after)), λ still. absurd (grind arith))
  round_on p q r moved now then exact place more one before after (inr both) earlier here = (
    rw both.1 (goes_no_further p q r moved before (rw both.0 at after)),
    λ still is_exact k less.
        let at_rest : moved ≡ false = sym both.1 ∙ still in
        ⊎_elim
        (λ (eq : k ≡ place). rw (← before.still at_rest) (rw eq (here both.0 is_exact)))
        (λ (ne : k ≢ place). earlier at_rest is_exact k (omega arith))
        (cases_eq k place),
  )
