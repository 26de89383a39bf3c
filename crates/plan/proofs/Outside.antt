-- What comes to one federate from outside, and when a timer fires.
use Rattle.std.proofs.Common.{◌≡◌, ℕ, zero, suc, ◌+◌, ◌-◌, ◌*◌, ◌/◌, ◌<◌, ◌≤◌, pos, Bool, true, false, List, [], ◌∷◌, ◌++◌, map, filter, append-nil, refl, sym, arith, subst, nat_eq, nat_le, if◌then◌else◌, suc-mul, mul-le-mul_right, div-mul-le_self}
use Rattle.std.specs.Prelude.{slice_get, ◌↔◌, Contains}
use Rattle.std.proofs.lemmas.Bool.Decides.{nat_tests}
use Rattle.std.proofs.lemmas.List.Elements.{filter-append}
use Rattle.std.proofs.lemmas.Nat.{le-div}
use Rattle.tag.specs.LogicalTime.{LogicalTime, origin}
use Rattle.network.specs.Event.{Event}
use Rattle.plan_slots.specs.declared.slots.Slots.{Slots}
use Rattle.plan_slots.specs.declared.slots.Timer.{Timer}
use Rattle.plan.specs.declared.draft.Federate.{Federate}
use Rattle.plan.specs.declared.draft.Draft.{Draft}
use Rattle.plan.specs.declared.input.Input.{Input}
use Rattle.plan_slots.specs.Numbering.{startup_slot, first_timer}
use Rattle.plan.specs.External.{outside, times_from, firing_count, firing_times, firings_from, startup_of, own_events, own_events_from, own_events_in, is_for, external_of, external_to, FiresAt}

-- ---- one federate's events

-- all of it, or nothing
abbrev kept : Bool → List Event → List Event
kept b events = if b then events else []

kept-append : (b : Bool) (xs ys : List Event) → kept b xs ++ kept b ys ≡ kept b (xs ++ ys)
kept-append true xs ys = refl
kept-append false xs ys = refl

kept-nil : (b : Bool) → [] ≡ kept b []
kept-nil true = refl
kept-nil false = refl

filter-map : (b : Bool) (p : Event → Bool) (f : ℕ → Event) → ((n : ℕ) → p (f n) ≡ b) → (ns : List ℕ) → filter p (map f ns) ≡ kept b (map f ns)
filter-map true p f is [] = refl
filter-map false p f is [] = refl
filter-map true p f is (n ∷ ns) = rw (is n, filter-map true p f is ns) refl
filter-map false p f is (n ∷ ns) = rw (is n, filter-map false p f is ns) refl

filter-firings :
    (n stop number slot : ℕ) (ts : List Timer) →
    filter (is_for n) (firings_from stop number slot ts) ≡ kept (nat_eq number n) (firings_from stop number slot ts)
filter-firings n stop number slot [] = kept-nil (nat_eq number n)
filter-firings n stop number slot (t ∷ ts) =
    rw (
      filter-append,
      filter-firings n stop number (slot + 1) ts,
      filter-map (nat_eq number n) (is_for n) (λ time. outside (record { time = time; microstep = 0 }) number slot (pos 0)) (λ time. refl) (firing_times stop t),
      kept-append,
    ) refl

filter-startup : (n number : ℕ) (s : Slots) → filter (is_for n) (startup_of number s) ≡ kept (nat_eq number n) (startup_of number s)
filter-startup n number s = chosen s.startup (nat_eq number n) refl
  where
    chosen : (b same : Bool) → nat_eq number n ≡ same →
        filter (is_for n) (if b then outside origin number startup_slot (pos 0) ∷ [] else [])
        ≡ kept same (if b then outside origin number startup_slot (pos 0) ∷ [] else [])
    chosen false false is = refl
    chosen false true is = refl
    chosen true false is = rw is refl
    chosen true true is = rw is refl

filter-own : (n stop number : ℕ) (s : Slots) → filter (is_for n) (own_events stop number s) ≡ kept (nat_eq number n) (own_events stop number s)
filter-own n stop number s =
    rw (filter-append, filter-startup n number s, filter-firings n stop number (first_timer s) s.timers, kept-append) refl

filter-later : (n stop first : ℕ) (fs : List Federate) → n < first → filter (is_for n) (own_events_from stop first fs) ≡ []
filter-later n stop first [] below = refl
filter-later n stop first (f ∷ fs) below =
    let other : nat_eq first n ≡ false = grind (arith, nat_tests) in
    rw (filter-append, filter-own n stop first f.slots, other, filter-later n stop (first + 1) fs (omega arith)) refl

filter-federates :
    (stop first k n : ℕ) (fs : List Federate) → n ≡ first + k → filter (is_for n) (own_events_from stop first fs) ≡ own_events_in stop n (slice_get fs k)
filter-federates stop first k n [] is = refl
filter-federates stop first zero n (f ∷ fs) is =
    let same : n ≡ first = omega arith in
    let here : nat_eq first n ≡ true = grind (arith, nat_tests) in
    rw (filter-append, filter-own n stop first f.slots, here, filter-later n stop (first + 1) fs (omega arith), append-nil, same) refl
filter-federates stop first (suc k) n (f ∷ fs) is =
    let other : nat_eq first n ≡ false = grind (arith, nat_tests) in
    rw (filter-append, filter-own n stop first f.slots, other) (filter-federates stop (first + 1) k n fs (omega arith))

-- what comes to a federate is its part of all that comes
pub external_parts : (d : Draft) (inputs : List Input) (n : ℕ) → external_to d inputs n ≡ filter (is_for n) (external_of d inputs)
external_parts d inputs n =
    rw (filter-append, filter-federates d.stop 0 n n d.federates (omega arith)) refl

-- ---- firings of a timer

times-at : (time period count g : ℕ) → Contains (times_from time period count) g ↔ ((k : ℕ) × (k < count) × (g ≡ time + k * period))
times-at time period count g = (found time period count g, there time period count g)
  where
    found : (time period count g : ℕ) → Contains (times_from time period count) g → (k : ℕ) × (k < count) × (g ≡ time + k * period)
    found time period zero g (i, below, is) = absurd (omega arith)
    found time period (suc count) g (zero, below, is) = (0, omega arith, omega arith)
    found time period (suc count) g (suc i, below, is) =
        let further : (k : ℕ) × (k < count) × (g ≡ time + period + k * period) = found (time + period) period count g (i, omega arith, is) in
        (suc further.0, omega arith, omega (arith, suc-mul further.0 period))

    there : (time period count g : ℕ) → (k : ℕ) × (k < count) × (g ≡ time + k * period) → Contains (times_from time period count) g
    there time period zero g (k, below, is) = absurd (omega arith)
    there time period (suc count) g (zero, below, is) = (0, omega arith, omega arith)
    there time period (suc count) g (suc k, below, is) =
        let further : Contains (times_from (time + period) period count) g =
        there (time + period) period count g (k, omega arith, omega (arith, suc-mul k period)) in
        (suc further.0, omega arith, further.2)

-- how often a timer fires up to stop, by whether it does and whether once
abbrev count_by : Bool → Bool → ℕ → ℕ → ℕ → ℕ
count_by early once stop offset period = if early then (if once then 1 else (stop - offset) / period + 1) else 0

in_time : (stop offset period k : ℕ) (b c : Bool) → nat_le offset stop ≡ b → nat_eq period 0 ≡ c → k < count_by b c stop offset period
    → offset + k * period ≤ stop
in_time stop offset period k false c b_is c_is below = absurd (omega arith)
in_time stop offset period k true true b_is c_is below =
    let early : offset ≤ stop = grind (arith, nat_tests) in
    let first : k ≡ 0 = omega arith in
    subst (λ m. offset + m * period ≤ stop) (sym first) (omega arith)
in_time stop offset period k true false b_is c_is below =
    let early : offset ≤ stop = grind (arith, nat_tests) in
    let few : k ≤ (stop - offset) / period = omega arith in
    let longest : k * period ≤ (stop - offset) / period * period = mul-le-mul_right period few in
    let bound : (stop - offset) / period * period ≤ stop - offset = div-mul-le_self (stop - offset) period in
    omega arith

-- no firing is after stop
pub firing_in_time : (stop : ℕ) (t : Timer) (k : ℕ) → k < firing_count stop t → t.offset + k * t.period ≤ stop
firing_in_time stop t k below = in_time stop t.offset t.period k (nat_le t.offset stop) (nat_eq t.period 0) refl refl below

-- a time up to stop that is a number of periods after the offset is counted
counted : (stop offset period k g : ℕ) (b c : Bool) → nat_le offset stop ≡ b → nat_eq period 0 ≡ c → g ≤ stop → g ≡ offset + k * period
    → (m : ℕ) × (m < count_by b c stop offset period) × (g ≡ offset + m * period)
counted stop offset period k g false c b_is c_is early is =
    let late : stop < offset = grind (arith, nat_tests) in
    absurd (omega arith)
counted stop offset period k g true true b_is c_is early is =
    let none : period ≡ 0 = grind (arith, nat_tests) in
    let nothing : k * period ≡ 0 = rw none (omega arith) in
    (0, omega arith, omega arith)
counted stop offset period k g true false b_is c_is early is =
    let some : 0 < period = grind (arith, nat_tests) in
    let few : k ≤ (stop - offset) / period = le-div k (stop - offset) period some (omega arith) in
    (k, omega arith, is)

fires-found : (stop : ℕ) (t : Timer) (tag : LogicalTime) → (tag.microstep ≡ 0) × Contains (firing_times stop t) tag.time → FiresAt stop t tag
fires-found stop t tag fired =
    let at : (k : ℕ) × (k < firing_count stop t) × (tag.time ≡ t.offset + k * t.period)
    = (times-at t.offset t.period (firing_count stop t) tag.time).0 fired.1 in
    let early : t.offset + at.0 * t.period ≤ stop = firing_in_time stop t at.0 at.1 in
    record { microstep = fired.0; in_time = omega arith; periods = at.0; time = at.2 }

fires-there : (stop : ℕ) (t : Timer) (tag : LogicalTime) → FiresAt stop t tag → (tag.microstep ≡ 0) × Contains (firing_times stop t) tag.time
fires-there stop t tag fires =
    let at : (k : ℕ) × (k < firing_count stop t) × (tag.time ≡ t.offset + k * t.period)
    = counted stop t.offset t.period fires.periods tag.time (nat_le t.offset stop) (nat_eq t.period 0) refl refl fires.in_time fires.time in
    (fires.microstep, (times-at t.offset t.period (firing_count stop t) tag.time).1 at)

-- by arithmetic a timer fires at the times that are listed
pub firings : (stop : ℕ) (t : Timer) (tag : LogicalTime) → FiresAt stop t tag ↔ ((tag.microstep ≡ 0) × Contains (firing_times stop t) tag.time)
firings stop t tag = (fires-there stop t tag, fires-found stop t tag)
