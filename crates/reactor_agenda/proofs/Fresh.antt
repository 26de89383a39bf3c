-- What a new agenda holds.
use Rattle.std.proofs.Common.{◌≡◌, ℕ, zero, suc, ◌+◌, ◌-◌, ◌*◌, ◌/◌, ◌<◌, ◌≤◌, ◌^◌, pos, Bool, true, false, nat_eq, nat_le, List, [], ◌∷◌, ◌++◌, refl, sym, ap, ◌∙◌, arith, All, Less, map}
use Rattle.std.specs.Prelude.{if◌then◌else◌}
use Rattle.std.specs.List.{AllByRecursion}
use Rattle.std.proofs.lemmas.Bool.Decides.{nat_tests}
use Rattle.std.proofs.lemmas.List.{map-append}
use Rattle.std.proofs.Math.Nat.{suc-mul}
use Rattle.tag.specs.LogicalTime.{LogicalTime, origin}
use Rattle.network.specs.Undone.{PendingEvent, put_all, pending_event_of}
use Rattle.plan_slots.specs.declared.slots.Timer.{Timer}
use Rattle.plan_slots.specs.declared.slots.Slots.{Slots}
use Rattle.plan_slots.specs.Limits.{IsTimerInRange}
use Rattle.plan_slots.specs.Numbering.{first_timer}
use Rattle.plan.specs.External.{outside, times_from, firing_count, firing_times, firings_from}
use Rattle.plan.proofs.Outside.{firing_in_time}
use Rattle.reactor_agenda.specs.Agenda.{own_undone}
use Rattle.reactor_agenda.specs.Invariant.{startup_in, firing, all_firings, timers_from, undone_of, Climbs, IsTimer, IsFit}
use Rattle.reactor_agenda.proofs.Order.{held_cmp}
use Rattle.reactor_agenda.proofs.Putting.{Above, put_first}
use Rattle.reactor_agenda.proofs.Filtered.{all_append}
use Rattle.reactor_agenda.proofs.TimerLists.{timer_of}

-- startup
abbrev pub startup_held : PendingEvent
startup_held = record { tag = origin; slot = 0; value = pos 0 }

firings_held : (slot : ℕ) (times : List ℕ) → map pending_event_of (map (λ time. outside (record { time = time; microstep = 0 }) 0 slot (pos 0)) times) ≡ map (firing slot) times
firings_held slot [] = refl
firings_held slot (t ∷ times) = ap (λ rest. firing slot t ∷ rest) (firings_held slot times)

timers_held : (stop slot : ℕ) (ts : List Timer) → map pending_event_of (firings_from stop 0 slot ts) ≡ all_firings (timers_from stop slot ts)
timers_held stop slot [] = refl
timers_held stop slot (t ∷ ts) =
    map-append pending_event_of (map (λ time. outside (record { time = time; microstep = 0 }) 0 slot (pos 0)) (firing_times stop t)) (firings_from stop 0 (slot + 1) ts)
    ∙ ap (λ us. us ++ map pending_event_of (firings_from stop 0 (slot + 1) ts)) (firings_held slot (firing_times stop t))
    ∙ ap (λ us. map (firing slot) (firing_times stop t) ++ us) (timers_held stop (slot + 1) ts)

startup_less : (slot t : ℕ) → 0 < slot → held_cmp startup_held (firing slot t) ≡ Less
startup_less slot t h = grind (arith, nat_tests)

startup_before : (slot : ℕ) (times : List ℕ) → 0 < slot → Above startup_held (map (firing slot) times)
startup_before slot [] h = tt
startup_before slot (t ∷ times) h = (startup_less slot t h, startup_before slot times h)

startup_first : (stop slot : ℕ) (ts : List Timer) → 0 < slot → Above startup_held (all_firings (timers_from stop slot ts))
startup_first stop slot [] h = tt
startup_first stop slot (t ∷ ts) h =
    all_append (λ x. held_cmp startup_held x ≡ Less) (map (firing slot) (firing_times stop t)) (all_firings (timers_from stop (slot + 1) ts))
    (startup_before slot (firing_times stop t) h) (startup_first stop (slot + 1) ts (omega arith))

own_by : (stop : ℕ) (slot : ℕ) (ts : List Timer) (b : Bool) → 0 < slot →
    put_all (map pending_event_of ((if b then outside origin 0 0 (pos 0) ∷ [] else []) ++ firings_from stop 0 slot ts)) [] ≡ undone_of (startup_in b) (timers_from stop slot ts)
own_by stop slot ts true h =
    ap (λ us. put_all us (startup_held ∷ [])) (timers_held stop slot ts) ∙ put_first startup_held (all_firings (timers_from stop slot ts)) [] (startup_first stop slot ts h)
own_by stop slot ts false h = ap (λ us. put_all us []) (timers_held stop slot ts)

pub own_is : (stop : LogicalTime) (s : Slots) → undone_of (startup_in s.startup) (timers_from stop.time (first_timer s) s.timers) ≡ own_undone stop s
own_is stop s = sym (own_by stop.time (first_timer s) s.timers s.startup (omega arith))

-- ---- in range

later_times : (t next period n : ℕ) → 0 < period → t < next → AllByRecursion (λ u. t < u) (times_from next period n)
later_times t next period zero p h = tt
later_times t next period (suc n) p h = (h, later_times t (next + period) period n p (omega arith))

climbing : (next period n : ℕ) → 0 < period → Climbs (times_from next period n)
climbing next period zero p = tt
climbing next period (suc n) p = (later_times next (next + period) period n p (omega arith), climbing (next + period) period n p)

climbs_by : (stop offset period : ℕ) (b c : Bool) → nat_eq period 0 ≡ c →
    Climbs (times_from offset period (if b then (if c then 1 else (stop - offset) / period + 1) else 0))
climbs_by stop offset period false c h = tt
climbs_by stop offset period true true h = (tt, tt)
climbs_by stop offset period true false h = let some : 0 < period = grind (arith, nat_tests) in climbing offset period ((stop - offset) / period + 1) some

within : (stop next period n : ℕ) → ((k : ℕ) → k < n → next + k * period ≤ stop) → AllByRecursion (λ t. t ≤ stop) (times_from next period n)
within stop next period zero h = tt
within stop next period (suc n) h = (
  omega (arith, h 0 (omega arith)),
  within stop (next + period) period n (λ k l. let more : next + suc k * period ≤ stop = h (suc k) (omega arith) in omega (arith, suc-mul k period, more)),
)

below_from : (stop : ℕ) (times : List ℕ) → stop < 2 ^ 62 → AllByRecursion (λ t. t ≤ stop) times → AllByRecursion (λ t. t < 2 ^ 62) times
below_from stop [] h a = tt
below_from stop (t ∷ times) h a = (let first = a.0 in omega arith, below_from stop times h a.1)

pub timer_holds : (stop slot : ℕ) (t : Timer) → stop < 2 ^ 62 → IsTimerInRange t → IsTimer (timer_of stop slot t)
timer_holds stop slot t h r = record {
  climbs = climbs_by stop t.offset t.period (nat_le t.offset stop) (nat_eq t.period 0) refl;
  below = below_from stop (firing_times stop t) h (within stop t.offset t.period (firing_count stop t) (firing_in_time stop t));
  period = r.1;
}

pub timers_hold : (stop slot : ℕ) (ts : List Timer) → stop < 2 ^ 62 → All IsTimerInRange ts → AllByRecursion IsTimer (timers_from stop slot ts)
timers_hold stop slot [] h r = tt
timers_hold stop slot (t ∷ ts) h r =
    (timer_holds stop slot t h (r 0 t (omega arith)), timers_hold stop (slot + 1) ts h (λ k d l. r (suc k) d (omega arith)))

fits_at : (stop : LogicalTime) (slot t : ℕ) → stop.time < 2 ^ 62 → t ≤ stop.time → IsFit stop (firing slot t)
fits_at stop slot t h l = record {
  finite = record { time = omega arith; microstep = omega arith };
  at_most = grind (arith, nat_tests);
}

fit_times : (stop : LogicalTime) (slot : ℕ) (times : List ℕ) → stop.time < 2 ^ 62 → AllByRecursion (λ t. t ≤ stop.time) times →
    AllByRecursion (IsFit stop) (map (firing slot) times)
fit_times stop slot [] h a = tt
fit_times stop slot (t ∷ times) h a = (fits_at stop slot t h a.0, fit_times stop slot times h a.1)

pub firings_fit : (stop : LogicalTime) (slot : ℕ) (ts : List Timer) → stop.time < 2 ^ 62 →
    AllByRecursion (IsFit stop) (all_firings (timers_from stop.time slot ts))
firings_fit stop slot [] h = tt
firings_fit stop slot (t ∷ ts) h =
    all_append (IsFit stop) (map (firing slot) (firing_times stop.time t)) (all_firings (timers_from stop.time (slot + 1) ts))
    (fit_times stop slot (firing_times stop.time t) h (within stop.time t.offset t.period (firing_count stop.time t) (firing_in_time stop.time t)))
    (firings_fit stop (slot + 1) ts h)

pub startup_fits : (stop : LogicalTime) (b : Bool) → AllByRecursion (IsFit stop) (startup_in b)
startup_fits stop true = (record { finite = record { time = omega arith; microstep = omega arith }; at_most = grind (arith, nat_tests) }, tt)
startup_fits stop false = tt
