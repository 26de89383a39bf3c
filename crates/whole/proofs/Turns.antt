-- What an undivided program keeps, at the beginning and over a turn.
use Rattle.std.proofs.Common.{◌≡◌, ℕ, ◌+◌, ◌<◌, ◌^◌, ℤ, Bool, true, false, not, ◌&&◌, List, [], ◌∷◌, ◌++◌, length, map, set, get_or, slice_get, nat_eq, Option, None, Some, Result, Ok, Err, refl, ap, sym, subst, ◌∙◌, append_assoc, append-nil, arith, inl, inr, add-zero}
use Rattle.std.specs.Prelude.{◌≢◌, OnErr, if◌then◌else◌}
use Rattle.std.specs.List.{AllByRecursion, flat_map}
use Rattle.std.specs.Option.{option_map}
use Rattle.std.proofs.lemmas.Bool.{eq-eqb}
use Rattle.std.proofs.lemmas.Bool.Decides.{eqb_tells, nat_tests}
use Rattle.std.proofs.lemmas.List.{length-map, length-append}
use Rattle.std.proofs.lemmas.Option.{slice_get-get_or, slice_get-map, get_or_from_slice_get}
use Rattle.std.proofs.Math.Path.{fun_ext}
use Rattle.std.proofs.Math.Seq.{map-set_same}
use Rattle.tag.specs.LogicalTime.{LogicalTime, is_before}
use Rattle.tag.proofs.Order.{before_irreflexive}
use Rattle.network.specs.Event.{Event, listed, present_at, value_at}
use Rattle.network.specs.Lawful.{IsLawful}
use Rattle.network.specs.Network.{Network, Effect}
use Rattle.network.specs.Undivided as undivided
use Rattle.network.specs.Undivided.{Undivided, Row, comes_before, first_of_turns, with_states, after_turn_at, after_turn_of, turn_of, undivided_after, made_by, carried_by, scheduled_from}
use Rattle.network.specs.Undone.{PendingEvent, look, put_all}
use Rattle.network_laws.specs.Newest.{or_else}
use Rattle.network_laws.specs.Pending.{IsNext}
use Rattle.network_laws.proofs.LookUps.{last_held, look_put_all, or_nothing}
use Rattle.network_laws.proofs.PendingSlots.{next_turn, own_is_gone, made_is_newer, quiet_is_done, present_is_sound}
use Rattle.network_laws.proofs.InOrder.{held_for, found_as_present, made_in_order, external_in_order}
use Rattle.network_laws.proofs.Lists.{each_more}
use Rattle.plan_slots.specs.declared.slots.Slots.{Slots}
use Rattle.plan.specs.declared.draft.Federate.{Federate}
use Rattle.plan.specs.declared.draft.Draft.{Draft}
use Rattle.plan.specs.declared.input.Input.{Input}
use Rattle.plan.specs.Federation.{federate_count, connections_of, rank_of, stop_of}
use Rattle.plan_slots.specs.Numbering.{slot_count}
use Rattle.plan.specs.External.{external_of}
use Rattle.reactor_program.specs.Behaviour.{Behaviour}
use Rattle.plan_network.specs.Network.{network_of, slots_of, ports_of, effect_by, initial_by}
use Rattle.reactor_programs.specs.Programs.{HaveProgramsOf, HaveSlotsOf}
use Rattle.reactor.specs.Effect.{initial_states, effect_of}
use Rattle.reactor.specs.Turn.{Reactor}
use Rattle.reactor_agenda.specs.Agenda.{in_time}
use Rattle.whole.specs.Progress.{Progress, later_by}
use Rattle.whole.specs.Invariant.{states_of, states_in, programs_in, HoldsPending, IsAfterTurns, HasSlotsOf}
use Rattle.whole.specs.Construction.{TurnMade, put_to}
use Rattle.whole.specs.Targets.{between}
use Rattle.whole.specs.Agendas.{Agendas, undone_of, initial_undone, IsDueFirst, IsDone, found_after, IsAfterTurn}
use Rattle.whole.proofs.Few.{turns_are_few}
use Rattle.whole.proofs.Joined.{carried-agrees}
use Rattle.reactor_agenda.proofs.Listed.{listed_value}
use Rattle.whole.proofs.Looks.{all_found, none_some}
use Rattle.whole.proofs.PutMade.{held_up_to, put_in_time}
use Rattle.network.proofs.Items.{get_set_within, get_set_other}

-- what holds anyway holds on an error
pub on_err : {A E P : Type 0} (r : Result A E) → P → OnErr r P
on_err (Ok v) p = tt
on_err (Err e) p = p

first_of_none : (n : Network) (events : List Event) → first_of_turns n events ≡ None → events ≡ []
first_of_none n [] is = refl
first_of_none n (e ∷ rest) is = absurd cc

-- one reactor's states are replaced
states_in-set : (reactors : List Reactor) (k : ℕ) (r : Reactor) → k < length reactors → states_in (set reactors k r) ≡ with_states (states_in reactors) k r.states
states_in-set reactors k r below =
    fun_ext λ j. elim (eqb_tells j k) [
      | inl mine ↦ rw (mine.0, mine.1, get_set_within reactors k r below) refl
      | inr other ↦ rw (other.0, get_set_other reactors k j r other.1) refl
    ]

-- programs of federates have their slots
pub slots_of_programs : (federates : List Federate) (programs : List Behaviour) → HaveProgramsOf federates programs → HaveSlotsOf federates programs
slots_of_programs [] [] h = tt
slots_of_programs [] (b ∷ bs) h = absurd h
slots_of_programs (f ∷ fs) [] h = absurd h
slots_of_programs (f ∷ fs) (b ∷ bs) h = (h.0.0, slots_of_programs fs bs h.1)

same_slots : (federates : List Federate) (programs : List Behaviour) → HaveSlotsOf federates programs
    → map (λ b. b.slots) programs ≡ map (λ f. f.slots) federates
same_slots [] [] h = refl
same_slots [] (b ∷ bs) h = absurd h
same_slots (f ∷ fs) [] h = absurd h
same_slots (f ∷ fs) (b ∷ bs) h =
    let here : b.slots ≡ f.slots = sym h.0 in
    let others : map (λ b. b.slots) bs ≡ map (λ f. f.slots) fs = same_slots fs bs h.1 in
    cc

-- there are as many reactors as federates
pub reactor_count : (d : Draft) (reactors : List Reactor) → HaveSlotsOf d.federates (programs_in reactors) → length reactors ≡ federate_count d
reactor_count d reactors programs =
    sym (length-map reactors (λ r. r.behaviour)) ∙ sym (length-map (programs_in reactors) (λ b. b.slots)) ∙ ap length (same_slots d.federates (programs_in reactors) programs) ∙ length-map d.federates (λ f. f.slots)

-- a reactor has the slots of its federate
pub has_slots : (d : Draft) (reactors : List Reactor) (federate : ℕ) (r : Reactor) → HaveSlotsOf d.federates (programs_in reactors) → slice_get reactors federate ≡ Some r → HasSlotsOf d federate r
has_slots d reactors federate r programs is =
    sym (slice_get-map (λ f. f.slots) d.federates federate) ∙ ap (λ xs. slice_get xs federate) (sym (same_slots d.federates (programs_in reactors) programs)) ∙
    slice_get-map (λ b. b.slots) (programs_in reactors) federate ∙
    ap (λ o. option_map (λ b. b.slots) o) (slice_get-map (λ r. r.behaviour) reactors federate ∙ ap (λ o. option_map (λ r. r.behaviour) o) is)

pub slots-given : (o : Option Federate) (s : Slots) → option_map (λ f. f.slots) o ≡ Some s → slots_of o ≡ slot_count s
slots-given None s is = absurd cc
slots-given (Some f) s is = let same : f.slots ≡ s = cc in ap (λ s. slot_count s) same

ports-given : (o : Option Federate) (s : Slots) → option_map (λ f. f.slots) o ≡ Some s → ports_of o ≡ length s.outputs
ports-given None s is = absurd cc
ports-given (Some f) s is = let same : f.slots ≡ s = cc in ap (λ (s : Slots). length s.outputs) same

-- the turn of this reactor, of what is undone for its federate
abbrev pub effect_on : Reactor → Agendas → ℕ → LogicalTime → Effect
effect_on r s federate tag = effect_of r.behaviour r.states (look (undone_of s federate) tag)

-- how a turn of a reactor reads: what was present, and what it made
pub record IsTurnMade (d : Draft) (r : Reactor) (s : Agendas) (t : TurnMade) (states : List ℤ) : Type 0 where
  pub stop : t.stop ≡ stop_of d
  pub inputs : t.inputs ≡ listed (slot_count r.behaviour.slots) (look (undone_of s t.federate) t.tag)
  pub outputs : t.outputs ≡ listed (length r.behaviour.slots.outputs) (effect_on r s t.federate t.tag).outputs
  pub schedulings : t.schedulings ≡ (effect_on r s t.federate t.tag).schedulings
  pub new_states : states ≡ (effect_on r s t.federate t.tag).states

module _ (d : Draft) (inputs : List Input) (reactors : List Reactor) (s : Agendas) (discarded : ℕ) (rows : List Row) (kept : IsAfterTurns d inputs reactors s discarded rows) where
  abbrev programs : List Behaviour
  programs = programs_in reactors

  abbrev n : Network
  n = network_of d programs inputs

  abbrev turns : ℕ
  turns = discarded + length rows

  abbrev u : Undivided
  u = undivided_after n turns

  -- where nothing is undone nothing is pending
  pub done_is_done : IsDone s → u.pending ≡ []
  done_is_done q = quiet_is_done n kept.lawful turns (λ j g slot h. sym (kept.pending j g slot h) ∙ q j g slot)

  -- where a turn is due something is pending
  pub due_is_pending : (f : ℕ) (g : LogicalTime) → IsDueFirst s f g → u.pending ≢ []
  due_is_pending f g due none =
      let there : f < federate_count d = subst (λ x. f < federate_count x) kept.draft due.there in
      none_some due.something.1 (sym (ap (λ es. present_at es f g due.something.0) none) ∙ (sym (kept.pending f g due.something.0 there) ∙ due.something.2))

  is_next : (f : ℕ) (g : LogicalTime) → IsDueFirst s f g → IsNext n u.pending f g
  is_next f g due =
      let there : f < federate_count d = subst (λ x. f < federate_count x) kept.draft due.there in
      record {
        something = (due.something.0, due.something.1, sym (kept.pending f g due.something.0 there) ∙ due.something.2);
        first = λ other earlier slot value inside e.
            subst (λ x. comes_before (rank_of x) other earlier f g ≡ false) kept.draft
            (due.first other earlier slot value (subst (λ x. other < federate_count x) (sym kept.draft) inside) (kept.pending other earlier slot inside ∙ e));
      }

  -- what is undone is at slots that are there
  found_within : (f : ℕ) → f < federate_count d → (e : PendingEvent) → ((v : ℤ) × (look (undone_of s f) e.tag e.slot ≡ Some v)) → e.slot < n.slots f
  found_within f h e found = present_is_sound n kept.lawful turns f e.tag e.slot found.0 (sym (kept.pending f e.tag e.slot h) ∙ found.1)

  pub undone_within : (f : ℕ) → f < federate_count d → AllByRecursion (λ e. e.slot < n.slots f) (undone_of s f)
  undone_within f h = each_more (λ e. (v : ℤ) × (look (undone_of s f) e.tag e.slot ≡ Some v)) (λ e. e.slot < n.slots f) (found_within f h) (undone_of s f) (all_found (undone_of s f))

  module _ (t : TurnMade) (after : Agendas) (r : Reactor) (states : List ℤ) (due : IsDueFirst s t.federate t.tag) (changed : IsAfterTurn t s after)
      (mine : slice_get reactors t.federate ≡ Some r) (made : IsTurnMade d r s t states) where
    abbrev next : Reactor
    next = record { behaviour = r.behaviour; states = states }

    there : t.federate < federate_count d
    there = subst (λ x. t.federate < federate_count x) kept.draft due.there

    program : slice_get programs t.federate ≡ Some r.behaviour
    program = slice_get-map (λ x. x.behaviour) reactors t.federate ∙ ap (λ o. option_map (λ x. x.behaviour) o) mine

    present : look (undone_of s t.federate) t.tag ≡ present_at u.pending t.federate t.tag
    present = fun_ext λ slot. kept.pending t.federate t.tag slot there

    effect : undivided.effect_at n u t.federate t.tag ≡ effect_on r s t.federate t.tag
    effect =
        (λ i. effect_by (program i) (kept.states i t.federate) (sym present i))
        ∙ ap (λ o. effect_by (Some r.behaviour) (states_of o) (look (undone_of s t.federate) t.tag)) mine

    slots : HasSlotsOf d t.federate r
    slots = has_slots d reactors t.federate r kept.programs mine

    abbrev pub row : Row
    row = record { reactor = t.federate; tag = t.tag; inputs = t.inputs; outputs = t.outputs }

    row_is : undivided.row_at n u t.federate t.tag ≡ row
    row_is = (λ i. record {
      reactor = t.federate;
      tag = t.tag;
      inputs = listed (slots-given (slice_get d.federates t.federate) r.behaviour.slots slots i) (sym present i);
      outputs = listed (ports-given (slice_get d.federates t.federate) r.behaviour.slots slots i) (effect i).outputs;
    }) ∙ (λ i. record { reactor = t.federate; tag = t.tag; inputs = sym made.inputs i; outputs = sym made.outputs i })

    turn : undivided_after n (turns + 1) ≡ after_turn_at n u t.federate t.tag
    turn = next_turn n kept.lawful turns t.federate t.tag (is_next t.federate t.tag due)

    states_after : (undivided_after n (turns + 1)).states ≡ states_in (set reactors t.federate next)
    states_after =
        ap (λ (x : Undivided). x.states) turn
        ∙ ((λ i. with_states (kept.states i) t.federate (effect i).states)
        ∙ (ap (with_states (states_in reactors) t.federate) (sym made.new_states)
        ∙ sym (states_in-set reactors t.federate next (rw (reactor_count d reactors kept.programs) there))))

    rows_after : (undivided_after n (turns + 1)).rows ≡ kept.discard ++ (rows ++ row ∷ [])
    rows_after = ap (λ (x : Undivided). x.rows) turn ∙ ((λ i. kept.all_rows i ++ row_is i ∷ []) ∙ append_assoc kept.discard rows (row ∷ []))

    carried : flat_map (carried_by t.federate t.tag (value_at t.outputs)) (connections_of d) ≡ flat_map (carried_by t.federate t.tag (effect_on r s t.federate t.tag).outputs) (connections_of d)
    carried =
        ap (λ es. flat_map (carried_by t.federate t.tag (value_at es)) (connections_of d)) made.outputs
        ∙ carried-agrees d t.federate r.behaviour.slots t.tag (value_at (listed (length r.behaviour.slots.outputs) (effect_on r s t.federate t.tag).outputs)) (effect_on r s t.federate t.tag).outputs slots
        (listed_value (length r.behaviour.slots.outputs) (effect_on r s t.federate t.tag).outputs)

    -- what is put to a federate is present there
    put_present : (a : ℕ) (tag : LogicalTime) (slot : ℕ) →
        last_held (in_time (stop_of d) (put_to t (a, between t.federate a (connections_of d)))) tag slot ≡ present_at (made_by n t.federate t.tag (undivided.effect_at n u t.federate t.tag)) a tag slot
    put_present a tag slot =
        ap (λ g. last_held (in_time g (put_to t (a, between t.federate a (connections_of d)))) tag slot) (sym made.stop)
        ∙ (ap (λ es. last_held es tag slot) (put_in_time t a (connections_of d))
        ∙ ((λ i. last_held (held_up_to (made.stop i) a (carried i ++ scheduled_from t.federate t.tag 0 (made.schedulings i))) tag slot)
        ∙ (ap (λ (e : Effect). last_held (held_up_to (stop_of d) a (flat_map (carried_by t.federate t.tag e.outputs) (connections_of d) ++ scheduled_from t.federate t.tag 0 e.schedulings)) tag slot) (sym effect)
        ∙ found_as_present (made_by n t.federate t.tag (undivided.effect_at n u t.federate t.tag)) (made_in_order n kept.lawful t.federate t.tag (u.states t.federate) (present_at u.pending t.federate t.tag)) a tag slot)))

    newer : (a : ℕ) → a < federate_count d → (tag : LogicalTime) (slot : ℕ) → (t.federate ≡ a → t.tag ≡ tag → ⊥) →
        look (put_all (in_time (stop_of d) (put_to t (a, between t.federate a (connections_of d)))) (undone_of s a)) tag slot ≡ present_at (undivided_after n (turns + 1)).pending a tag slot
    newer a h tag slot other =
        look_put_all (in_time (stop_of d) (put_to t (a, between t.federate a (connections_of d)))) (undone_of s a) tag slot
        ∙ ((λ i. or_else (put_present a tag slot i) (kept.pending a tag slot h i))
        ∙ (sym (made_is_newer n kept.lawful turns t.federate t.tag (is_next t.federate t.tag due) a h tag slot other)
        ∙ ap (λ (x : Undivided). present_at x.pending a tag slot) (sym turn)))

    own_gone : (tag : LogicalTime) (slot : ℕ) → is_before t.tag tag ≡ false → None ≡ present_at (undivided_after n (turns + 1)).pending t.federate tag slot
    own_gone tag slot early =
        sym (own_is_gone n kept.lawful turns t.federate t.tag (is_next t.federate t.tag due) tag slot early)
        ∙ ap (λ (x : Undivided). present_at x.pending t.federate tag slot) (sym turn)

    found_by : (a : ℕ) → a < federate_count d → (tag : LogicalTime) (slot : ℕ) → (own later : Bool) → nat_eq a t.federate ≡ own → is_before t.tag tag ≡ later →
        (if own && not later then None else look (put_all (in_time (stop_of d) (put_to t (a, between t.federate a (connections_of d)))) (undone_of s a)) tag slot)
        ≡ present_at (undivided_after n (turns + 1)).pending a tag slot
    found_by a h tag slot false later p q = newer a h tag slot (λ e k. (let same : nat_eq a t.federate ≡ true = eq-eqb a t.federate (sym e) in absurd cc))
    found_by a h tag slot true true p q = newer a h tag slot (λ e k. (let not_so : is_before t.tag tag ≡ false = ap (λ g. is_before g tag) k ∙ before_irreflexive tag in absurd cc))
    found_by a h tag slot true false p q =
        let same : a ≡ t.federate = grind (arith, nat_tests) in
        own_gone tag slot q ∙ ap (λ k. present_at (undivided_after n (turns + 1)).pending k tag slot) (sym same)

    pending_after : HoldsPending d after (undivided_after n (turns + 1))
    pending_after a tag slot h =
        changed.undone a tag slot (subst (λ x. a < federate_count x) (sym kept.draft) h)
        ∙ (ap (λ x. found_after t x (undone_of s a) a tag slot) kept.draft
        ∙ found_by a h tag slot (nat_eq a t.federate) (is_before t.tag tag) refl refl)

    few_turns : (o : Option Event) → first_of_turns n u.pending ≡ o → turns < 2 ^ 100
    few_turns (Some e) q = turns_are_few n kept.lawful turns e q
    few_turns None q = absurd (due_is_pending t.federate t.tag due (first_of_none n u.pending q))

    pub kept_turn : IsAfterTurns d inputs (set reactors t.federate next) after discarded (rows ++ row ∷ [])
    kept_turn =
        let is : get_or reactors t.federate r ≡ r = get_or_from_slice_get reactors t.federate r r mine in
        let same : programs_in (set reactors t.federate next) ≡ programs = map-set_same (λ x. x.behaviour) reactors t.federate next r (ap (λ x. x.behaviour) (sym is)) in
        let count : discarded + length (rows ++ row ∷ []) ≡ turns + 1 = rw (length-append rows (row ∷ [])) (omega arith) in
        let few = few_turns (first_of_turns n u.pending) refl in
        record {
          programs = rw same kept.programs;
          lawful = rw same kept.lawful;
          draft = changed.draft ∙ kept.draft;
          discard = kept.discard;
          as_many = kept.as_many;
          states = rw (same, count) states_after;
          all_rows = rw (same, count) rows_after;
          pending = rw (same, count) pending_after;
          few = omega (arith, few, count);
        }

-- the same element, whatever stands for one past the end
pub same-element : {X : Type 0} (xs : List X) (i : ℕ) (x y : X) → i < length xs → x ≡ get_or xs i x → y ≡ get_or xs i y → x ≡ y
same-element xs i x y below is_x is_y =
    let both : Some (get_or xs i x) ≡ Some (get_or xs i y) = sym (slice_get-get_or xs i x below) ∙ slice_get-get_or xs i y below in
    let same : get_or xs i x ≡ get_or xs i y = cc in
    is_x ∙ same ∙ sym is_y

pub programs_in-set :
    (reactors : List Reactor) (k : ℕ) (r next : Reactor) → r ≡ get_or reactors k r → next.behaviour ≡ r.behaviour → programs_in (set reactors k next) ≡ programs_in reactors
programs_in-set reactors k r next is same = map-set_same (λ x. x.behaviour) reactors k next r (same ∙ ap (λ x. x.behaviour) is)

-- a reactor that opens
abbrev pub opened : Behaviour → Reactor
opened b = record { behaviour = b; states = initial_states b }

initial-states : (o : Option Behaviour) → initial_by o ≡ states_of (option_map opened o)
initial-states None = refl
initial-states (Some b) = refl

programs_in-opened : (programs : List Behaviour) → programs_in (map opened programs) ≡ programs
programs_in-opened [] = refl
programs_in-opened (b ∷ rest) = ap (λ bs. b ∷ bs) (programs_in-opened rest)

pub opened-programs : (programs : List Behaviour) (reactors : List Reactor) → reactors ≡ map opened programs → programs_in reactors ≡ programs
opened-programs programs reactors is = ap (λ rs. programs_in rs) is ∙ programs_in-opened programs

-- before the first turn
pub kept_initial :
    (d : Draft) (inputs : List Input) (behaviours : List Behaviour) (reactors : List Reactor) (s : Agendas) (rows : List Row) →
    HaveSlotsOf d.federates behaviours → IsLawful (network_of d behaviours inputs) → reactors ≡ map opened behaviours → s.draft ≡ d →
    ((federate : ℕ) (tag : LogicalTime) (slot : ℕ) → federate < federate_count d → look (undone_of s federate) tag slot ≡ look (initial_undone d inputs federate) tag slot) →
    rows ≡ [] → IsAfterTurns d inputs reactors s 0 rows
kept_initial d inputs behaviours reactors s rows are lawful is_reactors is_draft undone is_rows =
    let same : programs_in reactors ≡ behaviours = opened-programs behaviours reactors is_reactors in
    let states : (λ j. initial_by (slice_get behaviours j)) ≡ states_in reactors =
    (fun_ext λ j. initial-states (slice_get behaviours j) ∙ ap (λ o. states_of o) (sym (slice_get-map opened behaviours j))) ∙ ap states_in (sym is_reactors) in
    let pending : (federate : ℕ) (tag : LogicalTime) (slot : ℕ) → federate < federate_count d → look (undone_of s federate) tag slot ≡ present_at (external_of d inputs) federate tag slot =
    λ f tag slot h. undone f tag slot h ∙ (look_put_all (held_for f (external_of d inputs)) [] tag slot ∙ (or_nothing (last_held (held_for f (external_of d inputs)) tag slot) ∙ found_as_present (external_of d inputs) (external_in_order (external_of d inputs) lawful.external_apart) f tag slot)) in
    record {
      programs = rw same are;
      lawful = rw same lawful;
      draft = is_draft;
      discard = [];
      as_many = refl;
      states = rw (same, is_rows) states;
      all_rows = rw is_rows refl;
      pending = rw (same, is_rows) pending;
      few = rw is_rows (omega arith);
    }

-- all rows are let go
pub kept_let_go : (d : Draft) (inputs : List Input) (reactors : List Reactor) (s : Agendas) (discarded : ℕ) (rows : List Row) →
    IsAfterTurns d inputs reactors s discarded rows → IsAfterTurns d inputs reactors s (discarded + length rows) []
kept_let_go d inputs reactors s discarded rows kept =
    let all : List Row = kept.discard ++ rows in
    record {
      programs = kept.programs;
      lawful = kept.lawful;
      draft = kept.draft;
      discard = all;
      as_many = length-append kept.discard rows ∙ ap (λ k. k + length rows) kept.as_many;
      states = rw add-zero kept.states;
      all_rows = rw add-zero kept.all_rows ∙ sym (append-nil all);
      pending = rw add-zero kept.pending;
      few = omega (arith, kept.few);
    }

pub later_by-none : (p : Progress) → p ≡ later_by 0 p
later_by-none p =
    let with_turns : ℕ → Progress = λ k. record { draft = p.draft; programs = p.programs; inputs = p.inputs; turns = k; discarded = p.discarded } in
    ap with_turns (sym (add-zero p.turns))

pub later_by-more : (p : Progress) (k : ℕ) → later_by 1 (later_by k p) ≡ later_by (k + 1) p
later_by-more p k =
    let with_turns : ℕ → Progress = λ j. record { draft = p.draft; programs = p.programs; inputs = p.inputs; turns = j; discarded = p.discarded } in
    let sums : p.turns + k + 1 ≡ p.turns + (k + 1) = omega arith in
    ap with_turns sums
