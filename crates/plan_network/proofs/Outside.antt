-- Where and when the external events of a legal draft are.
use Rattle.std.proofs.Common.{◌≡◌, ℕ, zero, suc, ◌+◌, ◌*◌, ◌<◌, ◌≤◌, ◌^◌, ◌⊎◌, inl, inr, pos, Bool, true, false, List, [], ◌∷◌, length, map, get_or, refl, ap, arith, subst, Option, None, Some, IsTrue, if◌then◌else◌, suc-mul}
use Rattle.std.specs.Prelude.{All, slice_get}
use Rattle.std.specs.Option.{option_map}
use Rattle.std.specs.List.{filter_map}
use Rattle.std.proofs.lemmas.Bool.Decides.{nat_tests}
use Rattle.std.proofs.lemmas.List.Elements.{All-nil, All-cons, All-append, All-map, All-filter, All-weaker, filter_passes}
use Rattle.tag.specs.LogicalTime.{LogicalTime, IsFinite, origin, is_at_most}
use Rattle.network.specs.Event.{Event}
use Rattle.plan_slots.specs.declared.slots.Slots.{Slots}
use Rattle.plan_slots.specs.declared.slots.Timer.{Timer}
use Rattle.plan.specs.declared.draft.Federate.{Federate}
use Rattle.plan.specs.declared.draft.Draft.{Draft}
use Rattle.plan.specs.declared.input.Input.{Input}
use Rattle.plan_slots.specs.Numbering.{startup_slot, first_timer, first_action, first_physical, slot_count}
use Rattle.plan.specs.Federation.{Found, stop_of}
use Rattle.plan.specs.External.{outside, times_from, firing_count, firing_times, firings_from, startup_of, own_events, own_events_from, found_action, slot_in, physical_slot, input_event, input_events, AreInputsOf}
use Rattle.plan.specs.Legal.{IsLegal}
use Rattle.plan.proofs.Outside.{firing_in_time}
use Rattle.network.proofs.Items.{All-filter_map}
use Rattle.plan.proofs.Joined.{found_at}

-- the slots of a startup and of timers
abbrev pub IsOwnSlot : Slots → ℕ → Type 0
IsOwnSlot s slot = (slot ≡ 0) ⊎ ((first_timer s ≤ slot) × (slot < first_action s))

-- the slots of physical actions
abbrev pub IsInputSlot : Slots → ℕ → Type 0
IsInputSlot s slot = (first_physical s ≤ slot) × (slot < slot_count s)

-- an event at such a slot of a federate, up to stop
pub record IsOutside (In : Slots → ℕ → Type 0) (d : Draft) (e : Event) : Type 0 where
  pub federate : Federate
  pub federate_is : slice_get d.federates e.reactor ≡ Some federate
  pub slot : In federate.slots e.slot
  pub tag : IsFinite e.tag
  pub in_time : IsTrue (is_at_most e.tag (stop_of d))

-- ---- times of firings

abbrev at_time : ℕ → LogicalTime
at_time time = record { time = time; microstep = 0 }

before_stop : (time stop : ℕ) → time ≤ stop → is_at_most (at_time time) (at_time stop) ≡ true
before_stop time stop early = grind (arith, nat_tests)

times_within : (time period count stop : ℕ) → ((k : ℕ) → k < count → time + k * period ≤ stop) → All (λ t. t ≤ stop) (times_from time period count)
times_within time period zero stop early = All-nil (λ t. t ≤ stop)
times_within time period (suc count) stop early =
    let first : time + 0 * period ≤ stop = early 0 (omega arith) in
    All-cons (λ t. t ≤ stop) time (times_from (time + period) period count) (omega arith)
    (times_within (time + period) period count stop
    (λ k below.
    let there : time + suc k * period ≤ stop = early (suc k) (omega arith) in
    omega (arith, suc-mul k period)))

pub firings_in_time : (stop : ℕ) (t : Timer) → All (λ time. time ≤ stop) (firing_times stop t)
firings_in_time stop t =
    times_within t.offset t.period (firing_count stop t) stop
    (firing_in_time stop t)

-- ---- startups and firings

firing_outside : (d : Draft) → d.stop < 2 ^ 62 → (number : ℕ) (f : Federate) → slice_get d.federates number ≡ Some f
    → (slot time : ℕ) → IsOwnSlot f.slots slot → time ≤ d.stop → IsOutside IsOwnSlot d (outside (at_time time) number slot (pos 0))
firing_outside d within number f is slot time own early = record {
  federate = f;
  federate_is = is;
  slot = own;
  tag = record { time = omega arith; microstep = omega arith };
  in_time = before_stop time d.stop early;
}

firings_outside : (d : Draft) → d.stop < 2 ^ 62 → (number : ℕ) (f : Federate) → slice_get d.federates number ≡ Some f
    → (slot : ℕ) (ts : List Timer) → first_timer f.slots ≤ slot → slot + length ts ≤ first_action f.slots
    → All (IsOutside IsOwnSlot d) (firings_from d.stop number slot ts)
firings_outside d within number f is slot [] low high = All-nil (IsOutside IsOwnSlot d)
firings_outside d within number f is slot (t ∷ ts) low high =
    let below : slot < first_action f.slots = omega arith in
    let here : All (λ time. IsOutside IsOwnSlot d (outside (at_time time) number slot (pos 0))) (firing_times d.stop t)
    = All-weaker (λ time. time ≤ d.stop) (λ time. IsOutside IsOwnSlot d (outside (at_time time) number slot (pos 0)))
    (λ time early. firing_outside d within number f is slot time (inr (low, below)) early)
    (firing_times d.stop t) (firings_in_time d.stop t) in
    All-append (IsOutside IsOwnSlot d) (map (λ time. outside (at_time time) number slot (pos 0)) (firing_times d.stop t))
    (firings_from d.stop number (slot + 1) ts)
    (All-map (IsOutside IsOwnSlot d) (λ time. outside (at_time time) number slot (pos 0)) (firing_times d.stop t) here)
    (firings_outside d within number f is (slot + 1) ts (omega arith) (omega arith))

startup_outside : (d : Draft) → d.stop < 2 ^ 62 → (number : ℕ) (f : Federate) → slice_get d.federates number ≡ Some f
    → All (IsOutside IsOwnSlot d) (startup_of number f.slots)
startup_outside d within number f is = chosen f.slots.startup
  where
    chosen : (b : Bool) → All (IsOutside IsOwnSlot d) (if b then outside origin number startup_slot (pos 0) ∷ [] else [])
    chosen true =
        All-cons (IsOutside IsOwnSlot d) (outside origin number startup_slot (pos 0)) []
        (firing_outside d within number f is startup_slot 0 (inl refl) (omega arith)) (All-nil (IsOutside IsOwnSlot d))
    chosen false = All-nil (IsOutside IsOwnSlot d)

own_outside : (d : Draft) → d.stop < 2 ^ 62 → (number : ℕ) (fs : List Federate)
    → ((k : ℕ) (f : Federate) → slice_get fs k ≡ Some f → slice_get d.federates (number + k) ≡ Some f)
    → All (IsOutside IsOwnSlot d) (own_events_from d.stop number fs)
own_outside d within number [] there = All-nil (IsOutside IsOwnSlot d)
own_outside d within number (f ∷ fs) there =
    let same : number + 0 ≡ number = omega arith in
    let here : slice_get d.federates number ≡ Some f = subst (λ k. slice_get d.federates k ≡ Some f) same (there 0 f refl) in
    All-append (IsOutside IsOwnSlot d) (own_events d.stop number f.slots)
    (own_events_from d.stop (number + 1) fs)
    (All-append (IsOutside IsOwnSlot d) (startup_of number f.slots) (firings_from d.stop number (first_timer f.slots) f.slots.timers)
    (startup_outside d within number f here)
    (firings_outside d within number f here (first_timer f.slots) f.slots.timers (omega arith) (omega arith)))
    (own_outside d within (number + 1) fs
    (λ k g is.
    let next : number + suc k ≡ number + 1 + k = omega arith in
    subst (λ m. slice_get d.federates m ≡ Some g) next (there (suc k) g is)))

pub own_events_outside : (d : Draft) → IsLegal d → All (IsOutside IsOwnSlot d) (own_events_from d.stop 0 d.federates)
own_events_outside d legal =
    own_outside d legal.stop 0 d.federates
    (λ k f is. let same : k ≡ 0 + k = omega arith in subst (λ m. slice_get d.federates m ≡ Some f) same is)

-- ---- recorded inputs

-- the event of a recorded input, by its action
pub input_parts : (d : Draft) (i : Input) (e : Event) → input_event d.federates i ≡ Some e
    → (r : Found) × (found_action d.federates i ≡ Some r) × (outside i.tag r.federate (physical_slot d.federates r) i.value ≡ e)
input_parts d i e is = parts (found_action d.federates i) is
  where
    parts : (o : Option Found) → option_map (λ found. outside i.tag found.federate (physical_slot d.federates found) i.value) o ≡ Some e
        → (r : Found) × (o ≡ Some r) × (outside i.tag r.federate (physical_slot d.federates r) i.value ≡ e)
    parts None given = absurd (let h : ⊥ = cc in h)
    parts (Some r) given = (r, refl, cc)

-- an event at an input slot, at a tag that isn't FOREVER
pub record IsRecorded (d : Draft) (e : Event) : Type 0 where
  pub federate : Federate
  pub federate_is : slice_get d.federates e.reactor ≡ Some federate
  pub slot : IsInputSlot federate.slots e.slot
  pub tag : IsFinite e.tag

recorded : (d : Draft) (i : Input) (e : Event) → IsFinite i.tag → input_event d.federates i ≡ Some e → IsRecorded d e
recorded d i e finite is =
    let found : (r : Found) × (found_action d.federates i ≡ Some r) × (outside i.tag r.federate (physical_slot d.federates r) i.value ≡ e)
    = input_parts d i e is in
    let here : (f : Federate) × (slice_get d.federates found.0.federate ≡ Some f) × (found.0.place < length f.slots.physical)
    = found_at (λ s. s.physical) d.federates i.federate i.action found.0 found.1 in
    let slot_is : physical_slot d.federates found.0 ≡ first_physical here.0.slots + found.0.place
    = ap (λ o. slot_in o found.0.place) here.1 in
    let place : found.0.place < length here.0.slots.physical = here.2 in
    subst (IsRecorded d) found.2 (record {
      federate = here.0;
      federate_is = here.1;
      slot = (omega arith, omega arith);
      tag = finite;
    })

pub inputs_outside : (d : Draft) (inputs : List Input) → AreInputsOf d inputs → All (IsOutside IsInputSlot d) (input_events d inputs)
inputs_outside d inputs are k e within =
    let all : All (IsRecorded d) (filter_map (input_event d.federates) inputs)
    = All-filter_map (λ (i : Input). IsFinite i.tag) (IsRecorded d) (input_event d.federates) inputs (recorded d) are.finite in
    let kept : IsRecorded d (get_or (input_events d inputs) k e)
    = All-filter (λ (x : Event). is_at_most x.tag (stop_of d)) (IsRecorded d) (filter_map (input_event d.federates) inputs) all k e within in
    let in_time : IsTrue (is_at_most (get_or (input_events d inputs) k e).tag (stop_of d))
    = filter_passes (λ (x : Event). is_at_most x.tag (stop_of d)) (filter_map (input_event d.federates) inputs) k e within in
    record {
      federate = kept.federate;
      federate_is = kept.federate_is;
      slot = kept.slot;
      tag = kept.tag;
      in_time = in_time;
    }
