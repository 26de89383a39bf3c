use Rattle.std.proofs.Common.{◌≡◌, ◌<◌, ◌^◌, ◌∙◌, ap, sym, subst, List}
use Rattle.std.specs.List.{AllByRecursion}
use Rattle.network.specs.Undone.{PendingEvent}
use Rattle.plan_slots.specs.Numbering.{first_timer}
use Rattle.reactor_agenda.specs.Agenda.{own_undone}
use Rattle.reactor_agenda.specs.Invariant.{undone_of, undo_all, timers_from, all_firings, first_firing, startup_in, IsTimer, IsFit}
use Rattle.reactor_agenda.proofs.Fresh.{own_is, timers_hold, firings_fit, startup_fits}
use Rattle.reactor_agenda.proofs.agenda.Agenda.new.Goals as goal

pub first_firing-next_firing-requires : goal.first_firing-next_firing-requires
first_firing-next_firing-requires c =
    let stop : c.time.result < 2 ^ 62 = subst (λ t. t < 2 ^ 62) (sym c.time.ensures) c.invariant.ensures.time in
    subst (AllByRecursion IsTimer) (sym (c.as_slice.ensures.value ∙ c.in_ok-timers.ensures))
    (timers_hold c.time.result (first_timer c.args.slots.now) c.args.slots.now.timers stop c.requires.timers)

pub invariant_of-result : goal.invariant_of-result
invariant_of-result c =
    let timers = c.in_ok-timers.ensures ∙ ap (λ t. timers_from t (first_timer c.args.slots.now) c.args.slots.now.timers) c.time.ensures in
    let fits = subst (AllByRecursion (IsFit c.args.stop)) (sym c.in_ok-puts.ensures) (startup_fits c.args.stop c.args.slots.now.startup) in
    record {
      events_fit = fits;
      before_fit = subst (λ us. AllByRecursion (IsFit c.args.stop) (undo_all us c.in_ok-puts.puts)) (sym c.new.ensures.items) fits;
      timers_hold = subst (AllByRecursion IsTimer) (sym timers)
          (timers_hold c.args.stop.time (first_timer c.args.slots.now) c.args.slots.now.timers c.invariant.ensures.time c.requires.timers);
      firings_fit = subst (λ ts. AllByRecursion (IsFit c.args.stop) (all_firings ts)) (sym timers)
          (firings_fit c.args.stop (first_timer c.args.slots.now) c.args.slots.now.timers c.invariant.ensures.time);
      next_is = c.first_firing-next_firing.ensures ∙ ap first_firing c.as_slice.ensures.value;
    }

pub returns : goal.returns
returns c =
    let timers = c.in_ok-timers.ensures ∙ ap (λ t. timers_from t (first_timer c.args.slots.now) c.args.slots.now.timers) c.time.ensures in
    let undone : undone_of c.in_ok-puts.puts c.in_ok-timers.timers.items ≡ own_undone c.args.stop c.args.slots.now =
    ap (λ es. undone_of es c.in_ok-timers.timers.items) c.in_ok-puts.ensures
    ∙ ap (undone_of (startup_in c.args.slots.now.startup)) timers ∙ own_is c.args.stop c.args.slots.now in
    ap (λ us. record {
      stop = c.args.stop;
      undone = undone_of c.in_ok-puts.puts c.in_ok-timers.timers.items;
      before = undone_of (undo_all us c.in_ok-puts.puts) c.in_ok-timers.timers.items;
    }) c.new.ensures.items
    ∙ ap (λ (u : List PendingEvent). record { stop = c.args.stop; undone = u; before = u }) undone
