-- The firings of timers that are left.
use Rattle.std.proofs.Common.{◌≡◌, ℕ, zero, suc, ◌+◌, ◌-◌, ◌<◌, ◌^◌, Bool, true, false, cond, List, [], ◌∷◌, refl, sym, ap, subst, ◌∙◌, arith, Less}
use Rattle.std.specs.Prelude.{if◌then◌else◌, map, filter}
use Rattle.std.specs.List.{AllByRecursion}
use Rattle.std.proofs.lemmas.Bool.Decides.{nat_tests}
use Rattle.tag.specs.LogicalTime.{LogicalTime, is_before, is_same}
use Rattle.tag.proofs.Order.{not_before, before_not_same}
use Rattle.network.specs.Undone.{PendingEvent, drop_up_to}
use Rattle.plan.specs.External.{times_from}
use Rattle.reactor_agenda.specs.declared.firings.Firings.{Firings}
use Rattle.reactor_agenda.specs.Agenda.{least_in}
use Rattle.reactor_agenda.specs.Invariant.{has_due, has_before, firing, firings_of, Climbs, IsTimer}
use Rattle.reactor_agenda.proofs.Order.{held_cmp}
use Rattle.reactor_agenda.proofs.Putting.{Above, Ordered}
use Rattle.reactor_agenda.proofs.Filtered.{filter_none}
use Rattle.reactor_agenda.proofs.Due.{none_due_by}

earlier_firing : (slot t u : ℕ) → t < u → held_cmp (firing slot t) (firing slot u) ≡ Less
earlier_firing slot t u h = grind (arith, nat_tests)

firing_above : (slot t : ℕ) (times : List ℕ) → AllByRecursion (λ u. t < u) times → Above (firing slot t) (map (firing slot) times)
firing_above slot t [] a = tt
firing_above slot t (u ∷ times) a = (earlier_firing slot t u a.0, firing_above slot t times a.1)

pub firings_ordered : (slot : ℕ) (times : List ℕ) → Climbs times → Ordered (map (firing slot) times)
firings_ordered slot [] c = tt
firings_ordered slot (t ∷ times) c = (firing_above slot t times c.0, firings_ordered slot times c.1)

-- the first of those that are left, and the others
pub times_step : (next period left : ℕ) → 0 < left → times_from next period left ≡ next ∷ times_from (next + period) period (left - 1)
times_step next period zero h = absurd (omega arith)
times_step next period (suc left) h = let e : suc left - 1 ≡ left = omega arith in rw e refl

abbrev pub stepped : Firings → Firings
stepped f = record { slot = f.slot; next = f.next + f.period; period = f.period; left = f.left - 1 }

pub stepped_timer : (f : Firings) → 0 < f.left → IsTimer f → IsTimer (stepped f) × (f.next < 2 ^ 62)
stepped_timer f h t =
    let times = times_step f.next f.period f.left h in
    let c = subst Climbs times t.climbs in
    let b = subst (λ times. AllByRecursion (λ time. time < 2 ^ 62) times) times t.below in
    (record { climbs = c.1; below = b.1; period = t.period }, b.0)

pub stepped_firings : (f : Firings) → 0 < f.left → firings_of f ≡ firing f.slot f.next ∷ firings_of (stepped f)
stepped_firings f h = ap (map (firing f.slot)) (times_step f.next f.period f.left h)

-- a firing up to the tag is let go
pub due_firing : (f : Firings) (tag : LogicalTime) → 0 < f.left → has_due tag (firings_of f) ≡ true →
    drop_up_to tag (firings_of (stepped f)) ≡ drop_up_to tag (firings_of f)
due_firing f tag h due =
    let at = ap (has_due tag) (sym (stepped_firings f h)) ∙ due in
    sym (ap (drop_up_to tag) (stepped_firings f h)
    ∙ ap (λ b. cond b (firing f.slot f.next ∷ drop_up_to tag (firings_of (stepped f))) (drop_up_to tag (firings_of (stepped f))))
    (not_before tag (firing f.slot f.next).tag at))

pub none_due_left : (f : Firings) (tag : LogicalTime) → IsTimer f → has_due tag (firings_of f) ≡ false → drop_up_to tag (firings_of f) ≡ firings_of f
none_due_left f tag t none = none_due_by (firings_of f) tag (firings_ordered f.slot (times_from f.next f.period f.left) t.climbs) none

-- those at a tag
abbrev pub those_at : LogicalTime → List PendingEvent → List PendingEvent
those_at tag u = filter (λ e. is_same e.tag tag) u

pub firing_before : (f : Firings) (tag : LogicalTime) → 0 < f.left → has_before tag (firings_of f) ≡ true →
    those_at tag (firings_of (stepped f)) ≡ those_at tag (firings_of f)
firing_before f tag h before =
    let at = ap (has_before tag) (sym (stepped_firings f h)) ∙ before in
    sym (ap (those_at tag) (stepped_firings f h)
    ∙ ap (λ b. cond b (firing f.slot f.next ∷ those_at tag (firings_of (stepped f))) (those_at tag (firings_of (stepped f))))
    (before_not_same (firing f.slot f.next).tag tag at))

later_not_same : (a b : PendingEvent) (tag : LogicalTime) → is_before a.tag tag ≡ false → held_cmp a b ≡ Less → a.slot ≡ b.slot → is_same b.tag tag ≡ false
later_not_same a b tag h k s = grind (arith, nat_tests)

none_same_later : (slot t : ℕ) (times : List ℕ) (tag : LogicalTime) → is_before (firing slot t).tag tag ≡ false → AllByRecursion (λ u. t < u) times →
    AllByRecursion (λ e. is_same e.tag tag ≡ false) (map (firing slot) times)
none_same_later slot t [] tag h a = tt
none_same_later slot t (u ∷ times) tag h a = (
  later_not_same (firing slot t) (firing slot u) tag h (earlier_firing slot t u a.0) refl,
  none_same_later slot t times tag h a.1,
)

pub firing_next : (f : Firings) (tag : LogicalTime) (b : Bool) → 0 < f.left → IsTimer f → has_before tag (firings_of f) ≡ false →
    is_same (firing f.slot f.next).tag tag ≡ b → those_at tag (firings_of f) ≡ (if b then firing f.slot tag.time ∷ [] else [])
firing_next f tag b h t none is =
    let times = times_step f.next f.period f.left h in
    let c = subst Climbs times t.climbs in
    let at = ap (has_before tag) (sym (stepped_firings f h)) ∙ none in
    let rest = filter_none (λ e. is_same e.tag tag) (firings_of (stepped f))
    (none_same_later f.slot f.next (times_from (f.next + f.period) f.period (f.left - 1)) tag at c.0) in
    ap (those_at tag) (stepped_firings f h)
    ∙ ap (λ l. cond (is_same (firing f.slot f.next).tag tag) (firing f.slot f.next ∷ l) l) rest
    ∙ ap (λ b. cond b (firing f.slot f.next ∷ []) []) is ∙ here f tag b is
  where
    here : (f : Firings) (tag : LogicalTime) (b : Bool) → is_same (firing f.slot f.next).tag tag ≡ b →
        cond b (firing f.slot f.next ∷ []) [] ≡ (if b then firing f.slot tag.time ∷ [] else [])
    here f tag true is = let e : f.next ≡ tag.time = grind (arith, nat_tests) in ap (λ time. firing f.slot time ∷ []) e
    here f tag false is = refl

-- the tag of the next
pub least_firing : (f : Firings) → 0 < f.left → least_in (firings_of f) ≡ record { time = f.next; microstep = 0 }
least_firing f h = ap least_in (stepped_firings f h)
