use Rattle.std.proofs.Common.{◌≡◌, ◌∙◌, ap, true}
use Rattle.std.specs.List.{AllByRecursion}
use Rattle.tag.specs.LogicalTime.{is_at_most, is_before}
use Rattle.network.specs.Undone.{put_all, drop_up_to}
use Rattle.reactor_agenda.specs.Agenda.{Agenda, in_time}
use Rattle.reactor_agenda.proofs.Putting.{ordered}
use Rattle.reactor_agenda.proofs.Filtered.{kept_put_all, filter_all, all_filter}
use Rattle.federate.proofs.prepared.take_in.Goals as goal

pub returns-in-Ok-clause-pending : goal.returns-in-Ok-clause-pending
returns-in-Ok-clause-pending c =
    let old : Agenda = c.args.agenda.now in
    let events = c.args.prepared.now.scheduled.items in
    let later : AllByRecursion (λ e. is_before c.args.tag e.tag ≡ true) (in_time old.stop events) =
    all_filter (λ e. is_before c.args.tag e.tag ≡ true) (λ e. is_at_most e.tag old.stop) events c.requires in
    let put : c.put_all.new.self ≡ record old { undone = put_all (in_time old.stop events) old.undone; before = old.undone } =
    c.in_ok-put.ensures.put ∙ ap (λ es. record old { undone = put_all (in_time old.stop es) old.undone; before = old.undone }) c.deref.ensures.value in
    ap (λ (v : Agenda). v.undone) c.drop_at.ensures
    ∙ ap (λ g. drop_up_to g c.put_all.new.self.undone) c.tag-in-Ok.ensures
    ∙ ap (λ (v : Agenda). drop_up_to c.args.tag v.undone) put
    ∙ kept_put_all (is_before c.args.tag) (in_time old.stop events) old.undone (ordered old.undone c.invariant.ensures.rises)
    ∙ ap (λ es. put_all es (drop_up_to c.args.tag old.undone)) (filter_all (λ e. is_before c.args.tag e.tag) (in_time old.stop events) later)
