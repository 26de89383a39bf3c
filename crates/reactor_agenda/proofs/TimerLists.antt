-- Lists of timers, one timer after the other.
use Rattle.std.proofs.Common.{◌≡◌, ℕ, zero, suc, ◌+◌, ◌<◌, List, [], ◌∷◌, ◌++◌, length, get_or, take, drop, set, refl, sym, ap, ◌∙◌, append_assoc, append-nil, add-zero, arith, length-take}
use Rattle.std.specs.List.{AllByRecursion}
use Rattle.std.proofs.Math.Seq.{drop-cons}
use Rattle.std.proofs.lemmas.List.{take_more, drop-set-lt}
use Rattle.std.proofs.Math.Seq.{take-append_seam}
use Rattle.std.proofs.lemmas.List.Elements.{filter-append}
use Rattle.std.proofs.lemmas.Grind.{take-set_at, drop_more_same}
use Rattle.tag.specs.LogicalTime.{LogicalTime, is_before}
use Rattle.network.specs.Undone.{drop_up_to}
use Rattle.plan_slots.specs.declared.slots.Timer.{Timer}
use Rattle.plan.specs.External.{firing_count}
use Rattle.reactor_agenda.specs.declared.firings.Firings.{Firings}
use Rattle.reactor_agenda.specs.Invariant.{firings_of, all_firings, timers_from, IsTimer}

-- the timer of this slot, before any firing
abbrev pub timer_of : ℕ → ℕ → Timer → Firings
timer_of stop slot t = record { slot = slot; next = t.offset; period = t.period; left = firing_count stop t }

timers_from-push : (stop slot : ℕ) (ts : List Timer) (t : Timer) → timers_from stop slot (ts ++ t ∷ []) ≡ timers_from stop slot ts ++ timer_of stop (slot + length ts) t ∷ []
timers_from-push stop slot [] t = ap (λ s. timer_of stop s t ∷ []) (sym (add-zero slot))
timers_from-push stop slot (x ∷ ts) t =
    let moved : slot + 1 + length ts ≡ slot + length (x ∷ ts) = omega arith in
    ap (λ rest. timer_of stop slot x ∷ rest) (timers_from-push stop (slot + 1) ts t ∙ ap (λ s. timers_from stop (slot + 1) ts ++ timer_of stop s t ∷ []) moved)

pub timers_more : (stop slot : ℕ) (ts : List Timer) (i : ℕ) (t : Timer) → i < length ts → t ≡ get_or ts i t →
    timers_from stop slot (take (i + 1) ts) ≡ timers_from stop slot (take i ts) ++ timer_of stop (slot + i) t ∷ []
timers_more stop slot ts i t h is =
    let long : length (take i ts) ≡ i = simp length-take (omega arith) in
    ap (timers_from stop slot) (take_more ts i t h ∙ ap (λ x. take i ts ++ x ∷ []) (sym is)) ∙ timers_from-push stop slot (take i ts) t
    ∙ ap (λ n. timers_from stop slot (take i ts) ++ timer_of stop (slot + n) t ∷ []) long

pub timer_at : (timers : List Firings) (i : ℕ) (f : Firings) → AllByRecursion IsTimer timers → i < length timers → f ≡ get_or timers i f → IsTimer f
timer_at [] i f a h is = absurd (omega arith)
timer_at (x ∷ timers) zero f a h is = rw is a.0
timer_at (x ∷ timers) (suc i) f a h is = timer_at timers i f a.1 (omega arith) is

pub timers_set : (timers : List Firings) (i : ℕ) (f : Firings) → AllByRecursion IsTimer timers → IsTimer f → AllByRecursion IsTimer (set timers i f)
timers_set [] i f a h = tt
timers_set (x ∷ timers) zero f a h = (h, a.1)
timers_set (x ∷ timers) (suc i) f a h = (a.0, timers_set timers i f a.1 h)

pub all_firings-push : (timers : List Firings) (f : Firings) → all_firings (timers ++ f ∷ []) ≡ all_firings timers ++ firings_of f
all_firings-push [] f = append-nil (firings_of f)
all_firings-push (x ∷ timers) f = ap (λ rest. firings_of x ++ rest) (all_firings-push timers f) ∙ sym (append_assoc (firings_of x) (all_firings timers) (firings_of f))

-- one timer more has let go of its firings
pub dropped_more :
    (tag : LogicalTime) (now before : List Firings) (i : ℕ) (f d : Firings) → i < length now → length now ≡ length before →
    firings_of f ≡ drop_up_to tag (firings_of (get_or now i d)) → drop i now ≡ drop i before →
    all_firings (take i now) ≡ drop_up_to tag (all_firings (take i before)) →
    all_firings (take (i + 1) (set now i f)) ≡ drop_up_to tag (all_firings (take (i + 1) before))
dropped_more tag now before i f d h long dropped rest done =
    let here : get_or before i d ∷ drop (suc i) before ≡ get_or now i d ∷ drop (suc i) now =
    sym (drop-cons before i d (omega arith)) ∙ sym rest ∙ drop-cons now i d h in
    let same : get_or before i d ≡ get_or now i d = cc in
    ap all_firings (take-set_at now i (i + 1) f refl h) ∙ all_firings-push (take i now) f
    ∙ ap (λ us. us ++ firings_of f) done ∙ ap (λ us. drop_up_to tag (all_firings (take i before)) ++ us) dropped
    ∙ sym (ap (λ ts. drop_up_to tag (all_firings ts)) (take_more before i d (omega arith) ∙ ap (λ x. take i before ++ x ∷ []) same)
    ∙ ap (drop_up_to tag) (all_firings-push (take i before) (get_or now i d))
    ∙ filter-append (λ e. is_before tag e.tag) (all_firings (take i before)) (firings_of (get_or now i d)))

pub rest_stays : (now before : List Firings) (i : ℕ) (f : Firings) → i < length now → length now ≡ length before → drop i now ≡ drop i before →
    drop (i + 1) (set now i f) ≡ drop (i + 1) before
rest_stays now before i f h long rest = drop-set-lt (i + 1) now i f (omega arith) ∙ drop_more_same now before i rest

-- a list that is written back whole
pub written : (new old : List Firings) (len : ℕ) → length new ≡ length old → len ≡ length old → take len (new ++ drop (length new) old) ≡ new
written new old len same whole =
    let at : len ≡ length new = omega arith in
    ap (λ n. take n (new ++ drop (length new) old)) at ∙ take-append_seam new (drop (length new) old)
