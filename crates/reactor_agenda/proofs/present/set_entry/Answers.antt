use Rattle.std.proofs.Common.{◌≡◌, ◌<◌, ◌≤◌, length, nat_cmp, Less, Greater, sym, subst, ◌∙◌, rules}
use Rattle.std.specs.List.Sorted.{IsPartitionPoint}
use Rattle.std.proofs.lemmas.List.Sorted.{answers_always}
use Rattle.reactor_agenda.proofs.Writing.{set_there, set_between, places_rise}
use Rattle.reactor_agenda.proofs.present.set_entry.Goals as goal

pub returns-in-Ok : goal.returns-in-Ok
returns-in-Ok c =
    let found = c.in-Ok.ensures.position (λ e. e.place) (answers_always _ _ _ (λ f a r g called. search rules)) in
    set_there c.args.entry c.args.entries.now.items c.in-Ok.place c.requires
    (subst (λ xs. c.in-Ok.place < length xs) c.as_slice.ensures.value c.in-Ok.ensures.bound)
    (rw (sym c.as_slice.ensures.value, sym c.place.ensures) found)

pub insert-requires : goal.insert-requires
insert-requires c = subst (λ xs. c.in-Err.place ≤ length xs) c.as_slice.ensures.value c.in-Err.ensures.bound

pub returns-in_ok-insert-in-Err : goal.returns-in_ok-insert-in-Err
returns-in_ok-insert-in-Err c =
    let found = c.in-Err.ensures.position (λ e. e.place) (answers_always _ _ _ (λ f a r g called. search rules)) in
    let xs = c.as_slice.result.now in
    let slot = c.place.result in
    let parted : IsPartitionPoint (λ x. nat_cmp x.place slot ≡ Less) (λ x. nat_cmp x.place slot ≡ Greater) xs c.in-Err.place =
    found (places_rise slot xs (rw c.as_slice.ensures.value c.requires)) in
    c.in_ok-insert-in-Err.ensures
    ∙ set_between c.args.entry c.args.entries.now.items c.in-Err.place
    (subst (λ xs. c.in-Err.place ≤ length xs) c.as_slice.ensures.value c.in-Err.ensures.bound)
    (rw (sym c.as_slice.ensures.value, sym c.place.ensures) parted)
