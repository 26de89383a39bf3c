use Rattle.std.proofs.Common.{◌≡◌, ◌∙◌, ap, sym, subst, List}
use Rattle.std.specs.List.{AllByRecursion}
use Rattle.network.specs.Undone.{PendingEvent, put_all}
use Rattle.reactor_agenda.specs.Agenda.{Agenda, in_time}
use Rattle.reactor_agenda.specs.Invariant.{undone_of, undo_all, IsFit}
use Rattle.reactor_agenda.proofs.Views.{undone_put}
use Rattle.reactor_agenda.proofs.agenda.Agenda.put_all.Goals as goal

pub invariant_of-self-2 : goal.invariant_of-self-2
invariant_of-self-2 c =
    let undone : undo_all c.swap.new.x.items c.put_in_time.new.puts ≡ c.self.inside.puts =
    ap (λ u. undo_all u.items c.put_in_time.new.puts) c.swap.ensures.x_after ∙ c.in_ok-put_in_time.ensures.undos in
    record {
      events_fit = c.in_ok-put_in_time.ensures.fit c.self.invariant.events_fit;
      before_fit = subst (AllByRecursion (IsFit c.self.inside.stop)) (sym undone) c.self.invariant.events_fit;
      timers_hold = c.self.invariant.timers_hold;
      firings_fit = c.self.invariant.firings_fit;
      next_is = c.self.invariant.next_is;
    }

pub returns-clause-put : goal.returns-clause-put
returns-clause-put c =
    let events = c.put_in_time.new.puts in
    let undone : undone_of events c.self.inside.timers.items ≡
    put_all (in_time c.self.inside.stop c.args.events.now) (undone_of c.self.inside.puts c.self.inside.timers.items) =
    ap (λ es. undone_of es c.self.inside.timers.items) c.in_ok-put_in_time.ensures.put
    ∙ undone_put (in_time c.self.inside.stop c.args.events.now) c.self.inside.puts c.self.inside.timers.items c.in_order.ensures in
    let before : undone_of (undo_all c.swap.new.x.items events) c.self.inside.timers.items ≡
    undone_of c.self.inside.puts c.self.inside.timers.items =
    ap (λ u. undone_of (undo_all u.items events) c.self.inside.timers.items) c.swap.ensures.x_after
    ∙ ap (λ es. undone_of es c.self.inside.timers.items) c.in_ok-put_in_time.ensures.undos in
    ap (λ (u : List PendingEvent). record { stop = c.self.inside.stop; undone = u; before = undone_of (undo_all c.swap.new.x.items events) c.self.inside.timers.items }) undone
    ∙ ap (λ (b : List PendingEvent). record {
      stop = c.self.inside.stop;
      undone = put_all (in_time c.self.inside.stop c.args.events.now) (undone_of c.self.inside.puts c.self.inside.timers.items);
      before = b;
    }) before
    ∙ ap (λ (v : Agenda). record { stop = v.stop; undone = put_all (in_time v.stop c.args.events.now) v.undone; before = v.undone }) c.self.view_is
