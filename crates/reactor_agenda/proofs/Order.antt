-- The order of events as what a comparison answers: by time, by microstep, by slot.
use Rattle.std.proofs.Common.{◌≡◌, List, ◌∷◌, ap, ◌∙◌, arith, IsTrue, Ordering, Less}
use Rattle.std.specs.Cmp.{IsTotalOrder}
use Rattle.std.specs.Ordering.{on, then_cmp, nat_cmp, match_ordering, is_lt, is_eq}
use Rattle.std.proofs.lemmas.Bool.Decides.{nat_tests}
use Rattle.std.proofs.lemmas.Cmp.{on_total, then_total, nat_cmp_total}
use Rattle.network.specs.Undone.{PendingEvent, is_held_before, is_for_same, put}

abbrev pub held_cmp : PendingEvent → PendingEvent → Ordering
held_cmp = then_cmp (then_cmp (on (λ e. e.tag.time) nat_cmp) (on (λ e. e.tag.microstep) nat_cmp)) (on (λ e. e.slot) nat_cmp)

pub held_total : IsTotalOrder held_cmp
held_total = then_total (then_total (on_total (λ e. e.tag.time) nat_cmp_total) (on_total (λ e. e.tag.microstep) nat_cmp_total)) (on_total (λ e. e.slot) nat_cmp_total)

pub before_is : (a b : PendingEvent) → is_held_before a b ≡ is_lt (held_cmp a b)
before_is a b = grind (arith, nat_tests)

pub same_is : (a b : PendingEvent) → is_for_same a b ≡ is_eq (held_cmp a b)
same_is a b = grind (arith, nat_tests)

pub put_by : (e x : PendingEvent) (rest : List PendingEvent) → put e (x ∷ rest) ≡ match_ordering (held_cmp e x) (e ∷ x ∷ rest) (e ∷ rest) (x ∷ put e rest)
put_by e x rest = grind (arith, nat_tests)

-- earlier in both spellings
pub less_is : (a b : PendingEvent) → IsTrue (is_held_before a b) → held_cmp a b ≡ Less
less_is a b h = grind (arith, nat_tests)

pub is_less : (a b : PendingEvent) → held_cmp a b ≡ Less → IsTrue (is_held_before a b)
is_less a b h = before_is a b ∙ ap is_lt h
