-- What is not later than a tag goes first.
use Rattle.std.proofs.Common.{◌≡◌, true, false, List, [], ◌∷◌, refl, arith, Less}
use Rattle.std.specs.List.{AllByRecursion}
use Rattle.std.proofs.lemmas.Bool.Decides.{nat_tests}
use Rattle.tag.specs.LogicalTime.{LogicalTime, is_before}
use Rattle.tag.proofs.Order.{not_at_most}
use Rattle.network.specs.Undone.{PendingEvent, drop_up_to, Rises}
use Rattle.reactor_agenda.specs.Invariant.{has_due}
use Rattle.reactor_agenda.proofs.Order.{held_cmp}
use Rattle.reactor_agenda.proofs.Putting.{Ordered, Above, ordered}
use Rattle.reactor_agenda.proofs.Filtered.{filter_all}

after : (a b : PendingEvent) (tag : LogicalTime) → is_before tag a.tag ≡ true → held_cmp a b ≡ Less → is_before tag b.tag ≡ true
after a b tag h k = grind (arith, nat_tests)

pub all_after : (a : PendingEvent) (u : List PendingEvent) (tag : LogicalTime) → is_before tag a.tag ≡ true → Above a u → AllByRecursion (λ e. is_before tag e.tag ≡ true) u
all_after a [] tag h r = tt
all_after a (e ∷ u) tag h r = (after a e tag h r.0, all_after a u tag h r.1)

pub none_due_by : (u : List PendingEvent) (tag : LogicalTime) → Ordered u → has_due tag u ≡ false → drop_up_to tag u ≡ u
none_due_by [] tag r h = refl
none_due_by (e ∷ u) tag r h =
    let first = not_at_most e.tag tag h in filter_all (λ x. is_before tag x.tag) (e ∷ u) (first, all_after e u tag first r.0)

pub none_due : (u : List PendingEvent) (tag : LogicalTime) → Rises u → has_due tag u ≡ false → drop_up_to tag u ≡ u
none_due u tag r h = none_due_by u tag (ordered u r) h
