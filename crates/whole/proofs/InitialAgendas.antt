-- Agendas before the first turn, one recorded input further.
use Rattle.std.proofs.Common.{◌≡◌, ℕ, ◌+◌, ◌<◌, pos, Bool, true, false, cond, List, [], ◌∷◌, ◌++◌, length, map, filter, get_or, set, nat_eq, Option, None, Some, slice_get, refl, sym, ap, subst, ◌∙◌, arith, inl, inr, append_assoc, append-nil, ℤ}
use Rattle.std.specs.Prelude.{if◌then◌else◌}
use Rattle.std.specs.List.{filter_map, cons_option}
use Rattle.std.specs.Option.{option_map}
use Rattle.std.proofs.lemmas.Bool.{cases_eq, cases_Bool, ne_eqb, eq-eqb}
use Rattle.std.proofs.lemmas.List.{map-append, length-set}
use Rattle.std.proofs.lemmas.List.Elements.{filter-append, filter_map-append}
use Rattle.std.proofs.lemmas.Option.{slice_get-get_or, slice_get_within}
use Rattle.tag.specs.LogicalTime.{LogicalTime, is_at_most}
use Rattle.network.specs.Event.{Event}
use Rattle.network.specs.Undone.{PendingEvent, look, put_all, pending_event_of}
use Rattle.network_laws.specs.Newest.{or_else}
use Rattle.network_laws.proofs.LookUps.{last_held, look_put_all}
use Rattle.plan.specs.declared.draft.Draft.{Draft}
use Rattle.plan.specs.declared.draft.Federate.{Federate}
use Rattle.plan.specs.declared.input.Input.{Input}
use Rattle.plan_slots.specs.declared.slots.Slots.{Slots}
use Rattle.plan_slots.specs.declared.slots.Timer.{Timer}
use Rattle.plan_slots.specs.Numbering.{first_timer}
use Rattle.plan.specs.External.{outside, firing_times, firings_from, startup_of, own_events, own_events_in, own_events_from, input_event, external_of, is_for, found_action, physical_slot}
use Rattle.plan.specs.Federation.{Found, federate_count, stop_of}
use Rattle.plan.proofs.Outside.{external_parts}
use Rattle.reactor_agenda.specs.Agenda.{Agenda, IsAgenda, own_undone, in_time}
use Rattle.reactor_agenda.proofs.Putting.{put_all-append}
use Rattle.whole.specs.Agendas.{initial_undone}
use Rattle.whole.specs.Initial.{IsOpenWith, AreOpenWith}
use Rattle.network.proofs.Items.{get_set_within, get_set_other}
use Rattle.whole.proofs.Filled.{get_early, get_last, get_beyond}
use Rattle.plan.proofs.Joined.{found_at}

-- ---- what a federate brings by itself; whose it is doesn't matter once it is held

held_map : (f g slot : ℕ) (times : List ℕ) →
    map pending_event_of (map (λ time. outside (record { time = time; microstep = 0 }) f slot (pos 0)) times) ≡ map pending_event_of (map (λ time. outside (record { time = time; microstep = 0 }) g slot (pos 0)) times)
held_map f g slot [] = refl
held_map f g slot (t ∷ rest) = ap (λ es. record { tag = record { time = t; microstep = 0 }; slot = slot; value = pos 0 } ∷ es) (held_map f g slot rest)

held_firings : (stop f g slot : ℕ) (timers : List Timer) → map pending_event_of (firings_from stop f slot timers) ≡ map pending_event_of (firings_from stop g slot timers)
held_firings stop f g slot [] = refl
held_firings stop f g slot (t ∷ rest) =
    let fired : ℕ → List Event = λ k. map (λ time. outside (record { time = time; microstep = 0 }) k slot (pos 0)) (firing_times stop t) in
    map-append pending_event_of (fired f) (firings_from stop f (slot + 1) rest)
    ∙ ((λ i. held_map f g slot (firing_times stop t) i ++ held_firings stop f g (slot + 1) rest i)
    ∙ sym (map-append pending_event_of (fired g) (firings_from stop g (slot + 1) rest)))

held_startup : (f g : ℕ) (s : Slots) (b : Bool) → map pending_event_of (if b then outside Rattle.tag.specs.LogicalTime.origin f 0 (pos 0) ∷ [] else []) ≡ map pending_event_of (if b then outside Rattle.tag.specs.LogicalTime.origin g 0 (pos 0) ∷ [] else [])
held_startup f g s true = refl
held_startup f g s false = refl

held_own : (stop f g : ℕ) (s : Slots) → map pending_event_of (own_events stop f s) ≡ map pending_event_of (own_events stop g s)
held_own stop f g s =
    map-append pending_event_of (startup_of f s) (firings_from stop f (first_timer s) s.timers)
    ∙ ((λ i. held_startup f g s s.startup i ++ held_firings stop f g (first_timer s) s.timers i)
    ∙ sym (map-append pending_event_of (startup_of g s) (firings_from stop g (first_timer s) s.timers)))

-- without recorded inputs
own_is_initial : (d : Draft) (f : ℕ) (x : Federate) → slice_get d.federates f ≡ Some x → own_undone (stop_of d) x.slots ≡ initial_undone d [] f
own_is_initial d f x at =
    let parts : own_events_in d.stop f (slice_get d.federates f) ++ [] ≡ filter (is_for f) (external_of d []) = external_parts d [] f in
    let mine : own_events d.stop f x.slots ≡ filter (is_for f) (external_of d []) = ap (own_events_in d.stop f) (sym at) ∙ (sym (append-nil (own_events_in d.stop f (slice_get d.federates f))) ∙ parts) in
    ap (λ es. put_all es []) (held_own d.stop 0 f x.slots ∙ ap (map pending_event_of) mine)

-- one more federate's agenda
pub open_more : (d : Draft) (agendas : List Agenda) (k : ℕ) (x : Federate) (a : Agenda) → length agendas ≡ k → k < federate_count d → x ≡ get_or d.federates k x →
    IsAgenda a → a.stop ≡ stop_of d → a.undone ≡ own_undone (stop_of d) x.slots →
    ((f : ℕ) (a : Agenda) → slice_get agendas f ≡ Some a → IsOpenWith d [] f a) → (f : ℕ) (b : Agenda) → slice_get (agendas ++ a ∷ []) f ≡ Some b → IsOpenWith d [] f b
open_more d agendas k x a many there is known stop undone so_far f b at = elim (Rattle.std.proofs.lemmas.Bool.cases_lt f k) [
  | inl low ↦ so_far f b (sym (get_early agendas (a ∷ []) f (omega arith)) ∙ at)
  | inr high ↦ (elim (cases_eq f k) [
    | inl same ↦ (
        let here : slice_get (agendas ++ a ∷ []) f ≡ Some a = ap (slice_get (agendas ++ a ∷ [])) (same ∙ sym many) ∙ get_last agendas a in
        let both : Some a ≡ Some b = sym here ∙ at in
        let is_b : a ≡ b = cc in
        let found : slice_get d.federates f ≡ Some x = ap (slice_get d.federates) same ∙ (slice_get-get_or d.federates k x there ∙ ap (λ y. Some y) (sym is)) in
        subst (IsOpenWith d [] f) is_b (record { up_to = record { up_to = stop; agenda = known }; undone = λ tag slot. ap (λ u. look u tag slot) (undone ∙ own_is_initial d f x found) }))
    | inr other ↦ (
        let none : slice_get (agendas ++ a ∷ []) f ≡ None = get_beyond agendas a f (omega arith) in
        absurd (clash (sym none ∙ at)))
  ])
]
  where
    clash : None ≡ Some b → ⊥
    clash e = cc

-- ---- one recorded input

external_more : (d : Draft) (inputs : List Input) (i : Input) →
    external_of d (inputs ++ i ∷ []) ≡ external_of d inputs ++ filter (λ e. is_at_most e.tag (stop_of d)) (cons_option (input_event d.federates i) [])
external_more d inputs i =
    let up_to : Event → Bool = λ e. is_at_most e.tag (stop_of d) in
    let event : Input → Option Event = input_event d.federates in
    ap (λ es. own_events_from d.stop 0 d.federates ++ filter up_to es) (filter_map-append event inputs (i ∷ []))
    ∙ (ap (λ es. own_events_from d.stop 0 d.federates ++ es) (filter-append up_to (filter_map event inputs) (cons_option (event i) []))
    ∙ sym (append_assoc (own_events_from d.stop 0 d.federates) (filter up_to (filter_map event inputs)) (filter up_to (cons_option (event i) []))))

-- what a recorded input puts to a federate
abbrev added : Draft → Input → ℕ → List PendingEvent
added d i f = map pending_event_of (filter (is_for f) (filter (λ e. is_at_most e.tag (stop_of d)) (cons_option (input_event d.federates i) [])))

initial_more : (d : Draft) (inputs : List Input) (i : Input) (f : ℕ) → initial_undone d (inputs ++ i ∷ []) f ≡ put_all (added d i f) (initial_undone d inputs f)
initial_more d inputs i f =
    let x : List Event = filter (λ e. is_at_most e.tag (stop_of d)) (cons_option (input_event d.federates i) []) in
    ap (λ es. put_all (map pending_event_of (filter (is_for f) es)) []) (external_more d inputs i)
    ∙ (ap (λ es. put_all (map pending_event_of es) []) (filter-append (is_for f) (external_of d inputs) x)
    ∙ (ap (λ es. put_all es []) (map-append pending_event_of (filter (is_for f) (external_of d inputs)) (filter (is_for f) x))
    ∙ put_all-append (map pending_event_of (filter (is_for f) (external_of d inputs))) (added d i f) []))

-- nothing is put where the action isn't there
pub open_without : (d : Draft) (i : Input) (agendas : List Agenda) → found_action d.federates i ≡ None → (inputs : List Input) → AreOpenWith d inputs agendas → AreOpenWith d (inputs ++ i ∷ []) agendas
open_without d i agendas none inputs w =
    let nothing : (f : ℕ) → added d i f ≡ [] = λ f. ap (λ o. map pending_event_of (filter (is_for f) (filter (λ e. is_at_most e.tag (stop_of d)) (cons_option (option_map (λ found. outside i.tag found.federate (physical_slot d.federates found) i.value) o) [])))) none in
    record {
      count = w.count;
      each = λ f a at.
          let before = w.each f a at in
          record { up_to = before.up_to; undone = λ tag slot. before.undone tag slot ∙ sym (ap (λ u. look u tag slot) (initial_more d inputs i f ∙ ap (λ es. put_all es (initial_undone d inputs f)) (nothing f))) };
    }

added_by : (tag stop : LogicalTime) (federate slot : ℕ) (v : ℤ) (f : ℕ) (b c : Bool) → nat_eq federate f ≡ b → is_at_most tag stop ≡ c →
    map pending_event_of (filter (is_for f) (cond c (outside tag federate slot v ∷ []) [])) ≡ (if b then cond c (record { tag = tag; slot = slot; value = v } ∷ []) [] else [])
added_by tag stop federate slot v f true true p q = ap (λ b. map pending_event_of (cond b (outside tag federate slot v ∷ []) [])) p
added_by tag stop federate slot v f false true p q = ap (λ b. map pending_event_of (cond b (outside tag federate slot v ∷ []) [])) p
added_by tag stop federate slot v f true false p q = refl
added_by tag stop federate slot v f false false p q = refl

module _ (d : Draft) (i : Input) (found : Found) (is : found_action d.federates i ≡ Some found) where
  abbrev slot_there : ℕ
  slot_there = physical_slot d.federates found

  abbrev event_there : List PendingEvent
  event_there = in_time (stop_of d) (record { tag = i.tag; slot = slot_there; value = i.value } ∷ [])

  added_is : (f : ℕ) → added d i f ≡ (if nat_eq found.federate f then event_there else [])
  added_is f =
      ap (λ o. map pending_event_of (filter (is_for f) (filter (λ e. is_at_most e.tag (stop_of d)) (cons_option (option_map (λ x. outside i.tag x.federate (physical_slot d.federates x) i.value) o) [])))) is
      ∙ added_by i.tag (stop_of d) found.federate slot_there i.value f (nat_eq found.federate f) (is_at_most i.tag (stop_of d)) refl refl

  pub found_there : found.federate < federate_count d
  found_there = let there = found_at (λ s. s.physical) d.federates i.federate i.action found is in slice_get_within d.federates found.federate there.0 there.1

  pub open_with : (agendas : List Agenda) (x a : Agenda) → IsAgenda a → a.stop ≡ (get_or agendas found.federate x).stop →
      a.undone ≡ put_all (in_time (get_or agendas found.federate x).stop (record { tag = i.tag; slot = slot_there; value = i.value } ∷ [])) (get_or agendas found.federate x).undone →
      (inputs : List Input) → AreOpenWith d inputs agendas → AreOpenWith d (inputs ++ i ∷ []) (set agendas found.federate a)
  open_with agendas x a known stop undone inputs w =
      let there : found.federate < length agendas = (let low = found_there in let many = w.count in omega arith) in
      let old : Agenda = get_or agendas found.federate x in
      let was : slice_get agendas found.federate ≡ Some old = slice_get-get_or agendas found.federate x there in
      let before = w.each found.federate old was in
      record {
        count = length-set agendas found.federate a ∙ w.count;
        each = λ f b at. elim (cases_eq f found.federate) [
          | inl same ↦ (
              let here : slice_get (set agendas found.federate a) f ≡ Some a = ap (slice_get (set agendas found.federate a)) same ∙ get_set_within agendas found.federate a there in
              let both : Some a ≡ Some b = sym here ∙ at in
              let is_b : a ≡ b = cc in
              let mine : added d i f ≡ event_there = added_is f ∙ ap (λ c. if c then event_there else []) (eq-eqb found.federate f (sym same)) in
              subst (IsOpenWith d (inputs ++ i ∷ []) f) is_b (record {
                up_to = record { up_to = stop ∙ before.up_to.up_to; agenda = known };
                undone = λ tag slot.
                    ap (λ u. look u tag slot) (undone ∙ ap (λ s. put_all (in_time s (record { tag = i.tag; slot = slot_there; value = i.value } ∷ [])) old.undone) before.up_to.up_to)
                    ∙ (look_put_all event_there old.undone tag slot
                    ∙ (ap (or_else (last_held event_there tag slot)) (before.undone tag slot ∙ ap (λ k. look (initial_undone d inputs k) tag slot) (sym same))
                    ∙ (sym (look_put_all event_there (initial_undone d inputs f) tag slot)
                    ∙ ap (λ u. look u tag slot) (ap (λ es. put_all es (initial_undone d inputs f)) (sym mine) ∙ sym (initial_more d inputs i f)))));
              }))
          | inr other ↦ (
              let same : slice_get agendas f ≡ Some b = sym (get_set_other agendas found.federate f a other) ∙ at in
              let mine : added d i f ≡ [] = added_is f ∙ ap (λ c. if c then event_there else []) (ne_eqb found.federate f (λ q. other (sym q))) in
              let before = w.each f b same in
              record { up_to = before.up_to; undone = λ tag slot. before.undone tag slot ∙ sym (ap (λ u. look u tag slot) (initial_more d inputs i f ∙ ap (λ es. put_all es (initial_undone d inputs f)) mine)) })
        ];
      }

-- the same with the federate and the slot that `recorded_at` answers
abbrev pub recorded : Draft → Found → ℕ × ℕ
recorded d found = (found.federate, physical_slot d.federates found)

abbrev OpensAt : Draft → Input → ℕ → ℕ → Type 0
OpensAt d i k s = (agendas : List Agenda) (x a : Agenda) → IsAgenda a → a.stop ≡ (get_or agendas k x).stop →
    a.undone ≡ put_all (in_time (get_or agendas k x).stop (record { tag = i.tag; slot = s; value = i.value } ∷ [])) (get_or agendas k x).undone →
    (inputs : List Input) → AreOpenWith d inputs agendas → AreOpenWith d (inputs ++ i ∷ []) (set agendas k a)

recorded_by : (d : Draft) (i : Input) (k s : ℕ) → (o : Option Found) → found_action d.federates i ≡ o → option_map (recorded d) o ≡ Some (k, s) → (k < federate_count d) × OpensAt d i k s
recorded_by d i k s None is e = absurd cc
recorded_by d i k s (Some found) is e =
    let pair : recorded d found ≡ (k, s) = cc in
    let at : found.federate ≡ k = ap (λ (p : ℕ × ℕ). p.0) pair in
    let slot : physical_slot d.federates found ≡ s = ap (λ (p : ℕ × ℕ). p.1) pair in (
      subst (λ j. j < federate_count d) at (found_there d i found is),
      subst (λ j. OpensAt d i j s) at (subst (OpensAt d i found.federate) slot (open_with d i found is)),
    )

pub recorded_there : (d : Draft) (i : Input) (k s : ℕ) → option_map (recorded d) (found_action d.federates i) ≡ Some (k, s) → (k < federate_count d) × OpensAt d i k s
recorded_there d i k s e = recorded_by d i k s (found_action d.federates i) refl e

none_by : (d : Draft) (o : Option Found) → option_map (recorded d) o ≡ None → o ≡ None
none_by d None e = refl
none_by d (Some x) e = absurd cc

pub not_recorded : (d : Draft) (i : Input) → option_map (recorded d) (found_action d.federates i) ≡ None → found_action d.federates i ≡ None
not_recorded d i e = none_by d (found_action d.federates i) e
