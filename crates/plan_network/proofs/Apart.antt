-- No two external events are for one slot at one tag.
use Rattle.std.proofs.Common.{◌≡◌, ℕ, zero, suc, ◌+◌, ◌-◌, ◌/◌, ◌<◌, ◌≤◌, ◌⊎◌, inl, inr, pos, Bool, true, false, List, [], ◌∷◌, length, map, refl, ap, sym, ◌∙◌, arith, subst, Some, nat_eq, nat_le, if◌then◌else◌}
use Rattle.std.specs.Prelude.{All, AllPairs, slice_get}
use Rattle.std.specs.List.{filter_map}
use Rattle.std.proofs.lemmas.Bool.Decides.{nat_tests}
use Rattle.std.proofs.lemmas.List.Elements.{All-nil, All-cons, All-append, All-map, All-weaker}
use Rattle.std.proofs.lemmas.List.Kept.{AllPairs-cons, AllPairs-filter}
use Rattle.tag.specs.LogicalTime.{LogicalTime, origin, is_at_most}
use Rattle.network.specs.Event.{Event}
use Rattle.network.specs.Lawful.{AreForDifferentSlots}
use Rattle.plan_slots.specs.declared.slots.Slots.{Slots}
use Rattle.plan_slots.specs.declared.slots.Timer.{Timer}
use Rattle.plan.specs.declared.draft.Federate.{Federate}
use Rattle.plan.specs.declared.draft.Draft.{Draft}
use Rattle.plan.specs.declared.input.Input.{Input}
use Rattle.plan_slots.specs.Numbering.{startup_slot, first_timer, first_action, first_physical, slot_count}
use Rattle.plan.specs.Federation.{Found, place_in, federate_names, federate_number, stop_of}
use Rattle.plan.specs.External.{outside, times_from, firing_count, firing_times, firings_from, startup_of, own_events}
use Rattle.plan.specs.External.{own_events_from, found_action, slot_in, physical_slot, input_event, input_events}
use Rattle.plan.specs.External.{external_of, AreForDifferentActions, AreInputsOf}
use Rattle.plan.specs.Legal.{IsLegal}
use Rattle.plan.proofs.Joined.{found_in_parts, found_at, same_name}
use Rattle.network.proofs.Items.{no_pairs}
use Rattle.plan_network.proofs.Pairs.{across, AllPairs-append, AllPairs-map, AllPairs-filter_map}
use Rattle.plan_network.proofs.Wiring.{same_federate}
use Rattle.plan_network.proofs.Outside.{IsOutside, IsOwnSlot, IsInputSlot, own_events_outside, inputs_outside, input_parts}

-- ---- firings of one timer

times_low : (low time period count : ℕ) → low ≤ time → All (λ t. low ≤ t) (times_from time period count)
times_low low time period zero start = All-nil (λ t. low ≤ t)
times_low low time period (suc count) start =
    All-cons (λ t. low ≤ t) time (times_from (time + period) period count) start (times_low low (time + period) period count (omega arith))

times_rise : (time period count : ℕ) → (0 < period) ⊎ (count ≤ 1) → AllPairs (λ a b. a < b) (times_from time period count)
times_rise time period zero goes = no_pairs (λ a b. a < b)
times_rise time period (suc zero) (inr few) =
    AllPairs-cons (λ a b. a < b) time [] (All-nil (λ b. time < b)) (no_pairs (λ a b. a < b))
times_rise time period (suc (suc count)) (inr few) = absurd (omega arith)
times_rise time period (suc count) (inl some) =
    AllPairs-cons (λ a b. a < b) time (times_from (time + period) period count)
    (times_low (suc time) (time + period) period count (omega arith))
    (times_rise (time + period) period count (inl some))

repeats : (stop offset period : ℕ) (b c : Bool) → nat_eq period 0 ≡ c
    → (0 < period) ⊎ ((if b then (if c then 1 else (stop - offset) / period + 1) else 0) ≤ 1)
repeats stop offset period false c is = inr (omega arith)
repeats stop offset period true true is = inr (omega arith)
repeats stop offset period true false is = inl (some is)
  where
    some : nat_eq period 0 ≡ false → 0 < period
    some other = grind (arith, nat_tests)

firing_times_rise : (stop : ℕ) (t : Timer) → AllPairs (λ a b. a < b) (firing_times stop t)
firing_times_rise stop t =
    times_rise t.offset t.period (firing_count stop t) (repeats stop t.offset t.period (nat_le t.offset stop) (nat_eq t.period 0) refl)

-- ---- startups and firings

-- an event of this federate at this slot or a later one
abbrev IsFrom : ℕ → ℕ → Event → Type 0
IsFrom number slot e = (e.reactor ≡ number) × (slot ≤ e.slot)

abbrev firing : ℕ → ℕ → ℕ → Event
firing number slot time = outside (record { time = time; microstep = 0 }) number slot (pos 0)

firings_are_from : (stop number slot : ℕ) (ts : List Timer) → All (IsFrom number slot) (firings_from stop number slot ts)
firings_are_from stop number slot [] = All-nil (IsFrom number slot)
firings_are_from stop number slot (t ∷ ts) =
    All-append (IsFrom number slot) (map (firing number slot) (firing_times stop t)) (firings_from stop number (slot + 1) ts)
    (All-map (IsFrom number slot) (firing number slot) (firing_times stop t) (λ k time within. (refl, omega arith)))
    (All-weaker (IsFrom number (slot + 1)) (IsFrom number slot)
    (λ e from. let later : slot + 1 ≤ e.slot = from.1 in (from.0, omega arith))
    (firings_from stop number (slot + 1) ts) (firings_are_from stop number (slot + 1) ts))

firings_apart : (stop number slot : ℕ) (ts : List Timer) → AllPairs AreForDifferentSlots (firings_from stop number slot ts)
firings_apart stop number slot [] = no_pairs AreForDifferentSlots
firings_apart stop number slot (t ∷ ts) =
    AllPairs-append AreForDifferentSlots (map (firing number slot) (firing_times stop t)) (firings_from stop number (slot + 1) ts)
    (AllPairs-map (λ a b. a < b) AreForDifferentSlots (firing number slot) (firing_times stop t)
    (λ a b before tags reactors slots.
    let same : a ≡ b = ap (λ (g : LogicalTime). g.time) tags in
    omega arith)
    (firing_times_rise stop t))
    (firings_apart stop number (slot + 1) ts)
    (across (λ (e : Event). e.slot ≡ slot) (IsFrom number (slot + 1)) AreForDifferentSlots
    (map (firing number slot) (firing_times stop t)) (firings_from stop number (slot + 1) ts)
    (λ d e here from tags reactors slots.
    let later : slot + 1 ≤ e.slot = from.1 in
    omega arith)
    (All-map (λ (e : Event). e.slot ≡ slot) (firing number slot) (firing_times stop t) (λ k time within. refl))
    (firings_are_from stop number (slot + 1) ts))

-- a startup of this federate
abbrev IsStartup : ℕ → Event → Type 0
IsStartup number e = (e.reactor ≡ number) × (e.slot ≡ 0)

startup_is : (number : ℕ) (s : Slots) → All (IsStartup number) (startup_of number s)
startup_is number s = chosen s.startup
  where
    chosen : (b : Bool) → All (IsStartup number) (if b then outside origin number startup_slot (pos 0) ∷ [] else [])
    chosen true = All-cons (IsStartup number) (outside origin number startup_slot (pos 0)) [] (refl, refl) (All-nil (IsStartup number))
    chosen false = All-nil (IsStartup number)

startup_apart : (number : ℕ) (s : Slots) → AllPairs AreForDifferentSlots (startup_of number s)
startup_apart number s = chosen s.startup
  where
    chosen : (b : Bool) → AllPairs AreForDifferentSlots (if b then outside origin number startup_slot (pos 0) ∷ [] else [])
    chosen true =
        AllPairs-cons AreForDifferentSlots (outside origin number startup_slot (pos 0)) [] (All-nil (AreForDifferentSlots (outside origin number startup_slot (pos 0))))
        (no_pairs AreForDifferentSlots)
    chosen false = no_pairs AreForDifferentSlots

own_events_are : (stop number : ℕ) (f : Federate) → All (λ e. e.reactor ≡ number) (own_events stop number f.slots)
own_events_are stop number f =
    All-append (λ (e : Event). e.reactor ≡ number) (startup_of number f.slots) (firings_from stop number (first_timer f.slots) f.slots.timers)
    (All-weaker (IsStartup number) (λ (e : Event). e.reactor ≡ number) (λ e start. start.0)
    (startup_of number f.slots) (startup_is number f.slots))
    (All-weaker (IsFrom number (first_timer f.slots)) (λ (e : Event). e.reactor ≡ number) (λ e from. from.0)
    (firings_from stop number (first_timer f.slots) f.slots.timers) (firings_are_from stop number (first_timer f.slots) f.slots.timers))

own_events_apart : (stop number : ℕ) (f : Federate) → AllPairs AreForDifferentSlots (own_events stop number f.slots)
own_events_apart stop number f =
    AllPairs-append AreForDifferentSlots (startup_of number f.slots) (firings_from stop number (first_timer f.slots) f.slots.timers)
    (startup_apart number f.slots) (firings_apart stop number (first_timer f.slots) f.slots.timers)
    (across (IsStartup number) (IsFrom number (first_timer f.slots)) AreForDifferentSlots
    (startup_of number f.slots) (firings_from stop number (first_timer f.slots) f.slots.timers)
    (λ d e start from tags reactors slots.
    let first : d.slot ≡ 0 = start.1 in
    let later : first_timer f.slots ≤ e.slot = from.1 in
    omega arith)
    (startup_is number f.slots) (firings_are_from stop number (first_timer f.slots) f.slots.timers))

-- events of later federates
abbrev IsNoEarlier : ℕ → Event → Type 0
IsNoEarlier number e = number ≤ e.reactor

all_are_from : (stop number : ℕ) (fs : List Federate) → All (IsNoEarlier number) (own_events_from stop number fs)
all_are_from stop number [] = All-nil (IsNoEarlier number)
all_are_from stop number (f ∷ fs) =
    All-append (IsNoEarlier number) (own_events stop number f.slots) (own_events_from stop (number + 1) fs)
    (All-weaker (λ (e : Event). e.reactor ≡ number) (IsNoEarlier number) (λ e here. omega arith) (own_events stop number f.slots) (own_events_are stop number f))
    (All-weaker (IsNoEarlier (number + 1)) (IsNoEarlier number) (λ e later. omega arith)
    (own_events_from stop (number + 1) fs) (all_are_from stop (number + 1) fs))

all_apart : (stop number : ℕ) (fs : List Federate) → AllPairs AreForDifferentSlots (own_events_from stop number fs)
all_apart stop number [] = no_pairs AreForDifferentSlots
all_apart stop number (f ∷ fs) =
    AllPairs-append AreForDifferentSlots (own_events stop number f.slots) (own_events_from stop (number + 1) fs)
    (own_events_apart stop number f) (all_apart stop (number + 1) fs)
    (across (λ (e : Event). e.reactor ≡ number) (IsNoEarlier (number + 1)) AreForDifferentSlots (own_events stop number f.slots) (own_events_from stop (number + 1) fs)
    (λ d e here later tags reactors slots. omega arith)
    (own_events_are stop number f) (all_are_from stop (number + 1) fs))

-- ---- recorded inputs

abbrev physical_names : Slots → List (List ℕ)
physical_names s = s.physical

-- inputs of different actions, or at different tags, make events of different slots, or at different tags
input_apart : (d : Draft) (i j : Input) (e g : Event) → AreForDifferentActions i j → input_event d.federates i ≡ Some e → input_event d.federates j ≡ Some g
    → AreForDifferentSlots e g
input_apart d i j e g apart e_is g_is tags reactors slots =
    let p : (r : Found) × (found_action d.federates i ≡ Some r) × (outside i.tag r.federate (physical_slot d.federates r) i.value ≡ e)
    = input_parts d i e e_is in
    let q : (r : Found) × (found_action d.federates j ≡ Some r) × (outside j.tag r.federate (physical_slot d.federates r) j.value ≡ g)
    = input_parts d j g g_is in
    let f : (f : Federate) × (slice_get d.federates p.0.federate ≡ Some f) × (p.0.place < length f.slots.physical)
    = found_at physical_names d.federates i.federate i.action p.0 p.1 in
    let tag : i.tag ≡ j.tag = ap (λ (x : Event). x.tag) p.2 ∙ tags ∙ sym (ap (λ (x : Event). x.tag) q.2) in
    let number : p.0.federate ≡ q.0.federate = ap (λ (x : Event). x.reactor) p.2 ∙ reactors ∙ sym (ap (λ (x : Event). x.reactor) q.2) in
    let slot : physical_slot d.federates p.0 ≡ physical_slot d.federates q.0
    = ap (λ (x : Event). x.slot) p.2 ∙ slots ∙ sym (ap (λ (x : Event). x.slot) q.2) in
    let there : slice_get d.federates q.0.federate ≡ Some f.0 = ap (λ k. slice_get d.federates k) (sym number) ∙ f.1 in
    let p_slot : physical_slot d.federates p.0 ≡ first_physical f.0.slots + p.0.place = ap (λ o. slot_in o p.0.place) f.1 in
    let q_slot : physical_slot d.federates q.0 ≡ first_physical f.0.slots + q.0.place = ap (λ o. slot_in o q.0.place) there in
    let place : q.0.place ≡ p.0.place = omega arith in
    let p_names : (federate_number d.federates i.federate ≡ Some p.0.federate) × (place_in physical_names (slice_get d.federates p.0.federate) i.action ≡ Some p.0.place)
    = found_in_parts physical_names d.federates i.federate i.action p.0 p.1 in
    let q_names : (federate_number d.federates j.federate ≡ Some q.0.federate) × (place_in physical_names (slice_get d.federates q.0.federate) j.action ≡ Some q.0.place)
    = found_in_parts physical_names d.federates j.federate j.action q.0 q.1 in
    apart
    (same_name (federate_names d.federates) i.federate j.federate p.0.federate p_names.0 (q_names.0 ∙ ap (λ k. Some k) (sym number)))
    (same_name f.0.slots.physical i.action j.action p.0.place
    (ap (λ o. place_in physical_names o i.action) (sym f.1) ∙ p_names.1)
    (ap (λ o. place_in physical_names o j.action) (sym there) ∙ q_names.1 ∙ ap (λ k. Some k) place))
    tag

inputs_apart : (d : Draft) (inputs : List Input) → AreInputsOf d inputs → AllPairs AreForDifferentSlots (input_events d inputs)
inputs_apart d inputs are =
    AllPairs-filter AreForDifferentSlots (λ (e : Event). is_at_most e.tag (stop_of d)) (filter_map (input_event d.federates) inputs)
    (AllPairs-filter_map AreForDifferentActions AreForDifferentSlots (input_event d.federates) inputs (input_apart d) are.apart)

-- ---- all external events

own_and_input : (d : Draft) (e g : Event) → IsOutside IsOwnSlot d e → IsOutside IsInputSlot d g → AreForDifferentSlots e g
own_and_input d e g own input tags reactors slots =
    let same : own.federate ≡ input.federate
    = same_federate d e.reactor g.reactor own.federate input.federate reactors own.federate_is input.federate_is in
    let high : (first_physical input.federate.slots ≤ g.slot) × (g.slot < slot_count input.federate.slots) = input.slot in
    let past : first_physical input.federate.slots ≤ g.slot = high.0 in
    elim (subst (λ (f : Federate). IsOwnSlot f.slots e.slot) same own.slot) [
      | inl startup ↦ omega arith
      | inr timer ↦ (let low : e.slot < first_action input.federate.slots = timer.1 in omega arith)
    ]

pub external_apart : (d : Draft) (inputs : List Input) → IsLegal d → AreInputsOf d inputs → AllPairs AreForDifferentSlots (external_of d inputs)
external_apart d inputs legal are =
    AllPairs-append AreForDifferentSlots (own_events_from d.stop 0 d.federates) (input_events d inputs)
    (all_apart d.stop 0 d.federates) (inputs_apart d inputs are)
    (across (IsOutside IsOwnSlot d) (IsOutside IsInputSlot d) AreForDifferentSlots (own_events_from d.stop 0 d.federates) (input_events d inputs)
    (own_and_input d) (own_events_outside d legal) (inputs_outside d inputs are))
