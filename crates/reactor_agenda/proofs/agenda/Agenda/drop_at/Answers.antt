use Rattle.std.proofs.Common.{◌≡◌, ◌∙◌, ◌++◌, ap, sym, subst, List, length, take, drop}
use Rattle.std.specs.List.{AllByRecursion}
use Rattle.tag.specs.LogicalTime.{is_before}
use Rattle.network.specs.Undone.{PendingEvent, drop_up_to}
use Rattle.reactor_agenda.specs.Agenda.{Agenda}
use Rattle.reactor_agenda.specs.Invariant.{undone_of, undo_all, all_firings, first_firing, IsTimer, IsFit}
use Rattle.reactor_agenda.proofs.Filtered.{all_filter}
use Rattle.reactor_agenda.proofs.TimerLists.{written}
use Rattle.reactor_agenda.proofs.Views.{undone_dropped}
use Rattle.reactor_agenda.proofs.agenda.Agenda.drop_at.Goals as goal

pub invariant_of-self : goal.invariant_of-self
invariant_of-self c =
    let whole = written c.drop_firings.new.timers c.self.inside.timers.items c.self.inside.timers.len
    (c.drop_firings.ensures.len ∙ ap length c.as_mut_slice.ensures.value) c.self.inside.timers.ok.0 in
    let fires = c.drop_firings.ensures.firings ∙ ap (λ ts. drop_up_to c.args.tag (all_firings ts)) c.as_mut_slice.ensures.value in
    let fit = subst (AllByRecursion (IsFit c.self.inside.stop)) (sym c.drop_puts.ensures)
    (all_filter (IsFit c.self.inside.stop) (λ e. is_before c.args.tag e.tag) c.self.inside.puts c.self.invariant.events_fit) in
    record {
      events_fit = fit;
      before_fit = subst (λ us. AllByRecursion (IsFit c.self.inside.stop) (undo_all us c.drop_puts.new.puts)) (sym c.clear.ensures.items) fit;
      timers_hold = subst (AllByRecursion IsTimer) (sym whole) c.drop_firings.ensures.timers;
      firings_fit = subst (λ ts. AllByRecursion (IsFit c.self.inside.stop) (all_firings ts)) (sym whole)
          (subst (AllByRecursion (IsFit c.self.inside.stop)) (sym fires)
          (all_filter (IsFit c.self.inside.stop) (λ e. is_before c.args.tag e.tag) (all_firings c.self.inside.timers.items) c.self.invariant.firings_fit));
      next_is = c.first_firing-self-inside.ensures ∙ ap first_firing c.as_slice.ensures.value;
    }

pub returns : goal.returns
returns c =
    let timers = take c.self.inside.timers.len (c.drop_firings.new.timers ++ drop (length c.drop_firings.new.timers) c.self.inside.timers.items) in
    let whole = written c.drop_firings.new.timers c.self.inside.timers.items c.self.inside.timers.len
    (c.drop_firings.ensures.len ∙ ap length c.as_mut_slice.ensures.value) c.self.inside.timers.ok.0 in
    let fires = c.drop_firings.ensures.firings ∙ ap (λ ts. drop_up_to c.args.tag (all_firings ts)) c.as_mut_slice.ensures.value in
    let undone : undone_of c.drop_puts.new.puts timers ≡
    drop_up_to c.args.tag (undone_of c.self.inside.puts c.self.inside.timers.items) =
    ap (λ es. undone_of es timers) c.drop_puts.ensures
    ∙ undone_dropped c.args.tag c.self.inside.puts c.self.inside.timers.items timers (ap all_firings whole ∙ fires) in
    ap (λ us. record {
      stop = c.self.inside.stop;
      undone = undone_of c.drop_puts.new.puts timers;
      before = undone_of (undo_all us c.drop_puts.new.puts) timers;
    }) c.clear.ensures.items
    ∙ ap (λ (u : List PendingEvent). record { stop = c.self.inside.stop; undone = u; before = u }) undone
    ∙ ap (λ (v : Agenda). record { stop = v.stop; undone = drop_up_to c.args.tag v.undone; before = drop_up_to c.args.tag v.undone }) c.self.view_is
