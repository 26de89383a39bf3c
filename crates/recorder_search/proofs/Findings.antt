-- What a search may answer, where it has read as far as it could.
use Rattle.std.proofs.Common.{◌≡◌, ◌∙◌, ℕ, zero, suc, ◌+◌, ◌<◌, List, [], ◌∷◌, ◌++◌, length, get_or, drop, replicate, slice_get, None, Some, refl, sym, ap, arith}
use Rattle.std.proofs.lemmas.List.{take-append-drop, take_all, length-take-le}
use Rattle.node.specs.declared.event.Event.{Event}
use Rattle.node.specs.declared.node_id.NodeId.{NodeId}
use Rattle.node.specs.declared.node_id.NodeId.TheVariants.{Coordinator, Federate}
use Rattle.world_stations.specs.declared.step.Step.{Step}
use Rattle.recorder_search.specs.Motion.{Motion}
use Rattle.recorder_search.specs.Journals.{place_of, node_at, journal_of, events_at, Agrees, IsStuck}
use Rattle.recorder_search.specs.Reading.{Position, HasRead, IsReading, IsBlocked, IsFirstUnread}

node_placed : (node : NodeId) → node_at (place_of node) ≡ node
node_placed Coordinator = refl
node_placed (Federate j) = refl

-- where a journal has an event, there is a journal
there_is : (journals : List (List Event)) (place n : ℕ) (e : Event) → slice_get (get_or journals place []) n ≡ Some e → place < length journals
there_is [] place n e is = let no : ⊥ = grind arith in absurd no
there_is (journal ∷ journals) zero n e is = omega arith
there_is (journal ∷ journals) (suc place) n e is = omega (arith, there_is journals place n e is)

none_of : (count place : ℕ) → let none : ℕ = 0 in get_or (replicate count none) place none ≡ none
none_of zero place = refl
none_of (suc count) zero = refl
none_of (suc count) (suc place) = none_of count place

-- at first nothing is read
pub nothing_read : {State : Type 0} (motion : Motion State) (initial : State) (journals : List (List Event)) (count : ℕ) (p : Position State) →
    p.state ≡ initial → p.read ≡ replicate count 0 → IsReading motion initial journals p
nothing_read motion initial journals count p state read = (
  [],
  record {
    made = state;
    each = tt;
    none_forgets = refl;
    within = λ place. rw read (rw (none_of count place) (omega arith));
    events = λ node. rw read (rw (none_of count (place_of node)) refl);
  },
)

module _ {State : Type 0} (motion : Motion State) (initial : State) (journals : List (List Event)) (p : Position State) (steps : List Step) (reading : HasRead motion initial journals p steps) where
  how_many : (node : NodeId) → length (events_at motion node initial steps) ≡ get_or p.read (place_of node) 0
  how_many node = ap length (reading.events node) ∙ length-take-le (get_or p.read (place_of node) 0) (journal_of journals node) (reading.within (place_of node))

  -- all journals are read to their ends
  pub all_there : IsFirstUnread journals p.read None → Agrees motion initial steps journals
  all_there used = record {
    each = reading.each;
    none_forgets = reading.none_forgets;
    events = λ node. reading.events node ∙ take_all (get_or p.read (place_of node) 0) (journal_of journals node) (used (place_of node));
  }

  -- a journal isn't read to its end, and no step is a next event
  pub stuck_there : (node : NodeId) (event : ℕ) → length p.read ≡ length journals → ((place : ℕ) → place < length p.read → IsBlocked motion journals p place) →
      IsFirstUnread journals p.read (Some (node, event)) → IsStuck motion initial steps journals node event
  stuck_there node event sized blocked first = record {
    begins = record {
      none_forgets = reading.none_forgets;
      events = λ other. (
        drop (get_or p.read (place_of other) 0) (journal_of journals other),
        sym (take-append-drop (get_or p.read (place_of other) 0) (journal_of journals other))
            ∙ ap (λ r. r ++ drop (get_or p.read (place_of other) 0) (journal_of journals other)) (sym (reading.events other)),
      );
    };
    earlier = λ other less.
        reading.events other ∙ take_all (get_or p.read (place_of other) 0) (journal_of journals other) (first.0 (place_of other) less);
    next = first.1 ∙ ap (λ n. n + 1) (sym (how_many node));
    unread = first.2;
    none = λ other e is.
        let next = rw (how_many other) at is in
        let there = there_is journals (place_of other) (get_or p.read (place_of other) 0) e next in
        let blocked_there = blocked (place_of other) (omega arith) e next in
        rw (← reading.made) (rw (node_placed other) at blocked_there);
  }
