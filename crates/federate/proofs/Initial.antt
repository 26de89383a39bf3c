-- A federate as it is made is the initial one.
use Rattle.std.proofs.Common.{◌≡◌, ℕ, ◌+◌, Bool, true, false, nat_eq, pos, if◌then◌else◌, List, [], ◌∷◌, ◌++◌, map, filter, slice_get, None, Some, refl, sym, ap, ◌∙◌}
use Rattle.std.proofs.lemmas.List.{map-append}
use Rattle.std.proofs.lemmas.Simd.{map-map}
use Rattle.tag.specs.LogicalTime.{origin}
use Rattle.network.specs.Event.{Event, outside}
use Rattle.network.specs.Undivided.{Row}
use Rattle.network.specs.Undone.{PendingEvent, put_all, pending_event_of}
use Rattle.protocol.specs.Federate.{Federate, initial_federate}
use Rattle.plan_slots.specs.declared.slots.Slots.{Slots}
use Rattle.plan_slots.specs.declared.slots.Timer.{Timer}
use Rattle.plan.specs.declared.draft.Draft.{Draft}
use Rattle.plan.specs.declared.draft.Federate as declared
use Rattle.plan.specs.declared.input.Input.{Input}
use Rattle.plan_slots.specs.Numbering.{startup_slot, first_timer}
use Rattle.plan.specs.Federation.{stop_of}
use Rattle.plan.specs.External.{startup_of, firings_from, firing_times, own_events, own_events_in, input_events_to, external_of}
use Rattle.plan.proofs.Outside.{external_parts}
use Rattle.reactor_program.specs.Behaviour.{Behaviour}
use Rattle.reactor.specs.Effect.{initial_states}
use Rattle.plan_network.specs.Network.{network_of, initial_by}
use Rattle.reactor.specs.Turn.{Reactor}
use Rattle.reactor_agenda.specs.Agenda.{Agenda, own_undone}
use Rattle.reactor_agenda.proofs.Putting.{put_all-append}
use Rattle.federate.specs.Invariant.{federate_by_parts}

-- whose the events are doesn't matter once they are held
same_startup : (j : ℕ) (b : Bool) →
    map pending_event_of (if b then outside origin j startup_slot (pos 0) ∷ [] else []) ≡ map pending_event_of (if b then outside origin 0 startup_slot (pos 0) ∷ [] else [])
same_startup j true = refl
same_startup j false = refl

fired : ℕ → ℕ → ℕ → Event
fired j slot time = outside (record { time = time; microstep = 0 }) j slot (pos 0)

same_firings : (stop j slot : ℕ) (ts : List Timer) → map pending_event_of (firings_from stop j slot ts) ≡ map pending_event_of (firings_from stop 0 slot ts)
unfolding fired
same_firings stop j slot [] = refl
same_firings stop j slot (t ∷ rest) =
    map-append pending_event_of (map (fired j slot) (firing_times stop t)) (firings_from stop j (slot + 1) rest)
    ∙ ap (λ es. es ++ map pending_event_of (firings_from stop j (slot + 1) rest))
    (map-map pending_event_of (fired j slot) (firing_times stop t) ∙ sym (map-map pending_event_of (fired 0 slot) (firing_times stop t)))
    ∙ ap (λ es. map pending_event_of (map (fired 0 slot) (firing_times stop t)) ++ es) (same_firings stop j (slot + 1) rest)
    ∙ sym (map-append pending_event_of (map (fired 0 slot) (firing_times stop t)) (firings_from stop 0 (slot + 1) rest))

same_own : (stop j : ℕ) (s : Slots) → map pending_event_of (own_events stop j s) ≡ map pending_event_of (own_events stop 0 s)
same_own stop j s =
    map-append pending_event_of (startup_of j s) (firings_from stop j (first_timer s) s.timers)
    ∙ ap (λ es. es ++ map pending_event_of (firings_from stop j (first_timer s) s.timers)) (same_startup j s.startup)
    ∙ ap (λ es. map pending_event_of (startup_of 0 s) ++ es) (same_firings stop j (first_timer s) s.timers)
    ∙ sym (map-append pending_event_of (startup_of 0 s) (firings_from stop 0 (first_timer s) s.timers))

undone_is : (d : Draft) (inputs : List Input) (j : ℕ) (fd : declared.Federate) → slice_get d.federates j ≡ Some fd →
    put_all (map pending_event_of (input_events_to d inputs j)) (own_undone (stop_of d) fd.slots) ≡
    put_all (map pending_event_of (filter (λ e. nat_eq e.reactor j) (external_of d inputs))) []
undone_is d inputs j fd is =
    let own = own_events d.stop j fd.slots in
    ap (λ es. put_all (map pending_event_of (input_events_to d inputs j)) (put_all es [])) (sym (same_own d.stop j fd.slots))
    ∙ sym (put_all-append (map pending_event_of own) (map pending_event_of (input_events_to d inputs j)) [])
    ∙ ap (λ es. put_all es []) (sym (map-append pending_event_of own (input_events_to d inputs j)))
    ∙ ap (λ o. put_all (map pending_event_of (own_events_in d.stop j o ++ input_events_to d inputs j)) []) (sym is)
    ∙ ap (λ es. put_all (map pending_event_of es) []) (external_parts d inputs j)

pub opened_is : (d : Draft) (programs : List Behaviour) (inputs : List Input) (j : ℕ) (b : Behaviour) (fd : declared.Federate) (r : Reactor) (a made : Agenda) (u : List PendingEvent) (rows : List Row) →
    slice_get programs j ≡ Some b → slice_get d.federates j ≡ Some fd → r ≡ record { behaviour = b; states = initial_states b } →
    a ≡ made → made.undone ≡ put_all (map pending_event_of (input_events_to d inputs j)) u → u ≡ own_undone (stop_of d) fd.slots → rows ≡ [] →
    federate_by_parts r a None None None rows ≡ initial_federate (network_of d programs inputs) j
opened_is d programs inputs j b fd r a made u rows program declared_is reactor_is a_is made_is u_is none =
    let at_first : List _ → List PendingEvent → List Row → Federate = λ states undone rows. record {
      states = states;
      undone = undone;
      granted = None;
      completed = None;
      announced = None;
      rows = rows;
    } in
    let undone : a.undone ≡ put_all (map pending_event_of (filter (λ e. nat_eq e.reactor j) (external_of d inputs))) [] =
    ap (λ x. x.undone) a_is ∙ made_is ∙ ap (put_all (map pending_event_of (input_events_to d inputs j))) u_is ∙ undone_is d inputs j fd declared_is in
    let states : r.states ≡ initial_by (slice_get programs j) = ap (λ x. x.states) reactor_is ∙ ap initial_by (sym program) in
    ap (λ s. at_first s a.undone rows) states
    ∙ ap (λ u. at_first (initial_by (slice_get programs j)) u rows) undone
    ∙ ap (λ rs. at_first (initial_by (slice_get programs j)) (put_all (map pending_event_of (filter (λ e. nat_eq e.reactor j) (external_of d inputs))) []) rs) none
