-- An agenda's value after each call, by what it keeps.
use Rattle.std.proofs.Common.{◌≡◌, false, List, [], ◌∷◌, refl, sym, ap, ◌∙◌}
use Rattle.std.specs.List.{AllByRecursion}
use Rattle.tag.specs.LogicalTime.{LogicalTime, forever, lesser, is_before}
use Rattle.tag.proofs.Order.{lesser_first, lesser_second}
use Rattle.network.specs.Undone.{PendingEvent, put_all, drop_up_to, Rises}
use Rattle.plan.specs.External.{times_from}
use Rattle.reactor_agenda.specs.declared.firings.Firings.{Firings}
use Rattle.reactor_agenda.specs.Agenda.{IsInTime, least_in}
use Rattle.reactor_agenda.specs.Invariant.{all_firings, first_firing, firings_of, undone_of, IsTimer, IsFit}
use Rattle.reactor_agenda.proofs.Putting.{Ordered, ordered, rises, ordered_put_all, put_all_among}
use Rattle.reactor_agenda.proofs.Filtered.{all_put_all, kept_put_all}
use Rattle.reactor_agenda.proofs.Fired.{firings_ordered}
use Rattle.reactor_agenda.proofs.Least.{AreFinite, least_put_all, lesser_all, first_is_least, lesser_all-append, lesser_swaps, at_most_forever}

-- all firings, in order
abbrev pub firings_in : List Firings → List PendingEvent
firings_in timers = put_all (all_firings timers) []

firings_in_order : (timers : List Firings) → Ordered (firings_in timers)
firings_in_order timers = ordered_put_all (all_firings timers) [] tt

pub rises_undone : (events : List PendingEvent) (timers : List Firings) → Rises (undone_of events timers)
rises_undone events timers = rises (undone_of events timers) (ordered_put_all events (firings_in timers) (firings_in_order timers))

-- putting to what was put is putting to what is undone
pub undone_put : (es events : List PendingEvent) (timers : List Firings) → Rises events → undone_of (put_all es events) timers ≡ put_all es (undone_of events timers)
undone_put es events timers r = put_all_among es events (firings_in timers) (ordered events r)

pub undone_dropped : (tag : LogicalTime) (events : List PendingEvent) (timers rest : List Firings) → all_firings rest ≡ drop_up_to tag (all_firings timers) →
    undone_of (drop_up_to tag events) rest ≡ drop_up_to tag (undone_of events timers)
undone_dropped tag events timers rest is =
    ap (λ fs. put_all (drop_up_to tag events) (put_all fs [])) is
    ∙ ap (put_all (drop_up_to tag events)) (sym (kept_put_all (λ g. is_before tag g) (all_firings timers) [] tt))
    ∙ sym (kept_put_all (λ g. is_before tag g) events (firings_in timers) (firings_in_order timers))

-- ---- what is in time

pub all_undone : (P : PendingEvent → Type 0) (events : List PendingEvent) (timers : List Firings) → AllByRecursion P events → AllByRecursion P (all_firings timers) →
    AllByRecursion P (undone_of events timers)
all_undone P events timers e f = all_put_all P events (firings_in timers) e (all_put_all P (all_firings timers) [] f tt)

pub in_time_from : (stop : LogicalTime) (u : List PendingEvent) → AllByRecursion (IsFit stop) u → AllByRecursion (IsInTime stop) u
in_time_from stop [] a = tt
in_time_from stop (e ∷ u) a = (record { finite = a.0.finite; at_most = a.0.at_most }, in_time_from stop u a.1)

finite_from : (stop : LogicalTime) (u : List PendingEvent) → AllByRecursion (IsFit stop) u → AreFinite u
finite_from stop [] a = tt
finite_from stop (e ∷ u) a = (a.0.finite, finite_from stop u a.1)

-- ---- the least tag

pub least_of_firings : (timers : List Firings) (g : LogicalTime) → AllByRecursion IsTimer timers → is_before forever g ≡ false →
    lesser_all (all_firings timers) g ≡ lesser (first_firing timers) g
least_of_firings [] g a e = sym (lesser_second forever g e)
least_of_firings (f ∷ timers) g a e =
    lesser_all-append (firings_of f) (all_firings timers) g
    ∙ ap (lesser_all (all_firings timers)) (first_is_least (firings_of f) g (firings_ordered f.slot (times_from f.next f.period f.left) a.0.climbs) e)
    ∙ least_of_firings timers (lesser (least_in (firings_of f)) g) a.1 (at_most_forever (least_in (firings_of f)) g e)
    ∙ lesser_swaps (first_firing timers) (least_in (firings_of f)) g

first_at_most : (timers : List Firings) → is_before forever (first_firing timers) ≡ false
first_at_most [] = refl
first_at_most (f ∷ timers) = at_most_forever (least_in (firings_of f)) (first_firing timers) (first_at_most timers)

pub least_undone : (stop : LogicalTime) (events : List PendingEvent) (timers : List Firings) → Rises events → AllByRecursion (IsFit stop) events →
    AllByRecursion IsTimer timers → AllByRecursion (IsFit stop) (all_firings timers) → least_in (undone_of events timers) ≡ lesser (least_in events) (first_firing timers)
least_undone stop events timers r e t f =
    least_put_all events (firings_in timers) (finite_from stop events e)
    ∙ ap (lesser_all events) (least_put_all (all_firings timers) [] (finite_from stop (all_firings timers) f) ∙ least_of_firings timers forever t refl
    ∙ lesser_first (first_firing timers) forever (first_at_most timers))
    ∙ first_is_least events (first_firing timers) (ordered events r) (first_at_most timers)
