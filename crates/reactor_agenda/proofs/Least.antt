-- The least tag of what is undone.
use Rattle.std.proofs.Common.{◌≡◌, Bool, true, false, cond, List, [], ◌∷◌, ◌++◌, refl, sym, ap, ◌∙◌, arith, Ordering, Less, Equal, Greater}
use Rattle.std.specs.Prelude.{if◌then◌else◌}
use Rattle.std.specs.List.{AllByRecursion}
use Rattle.std.proofs.lemmas.Bool.Decides.{nat_tests}
use Rattle.tag.specs.LogicalTime.{LogicalTime, IsFinite, forever, lesser, is_before}
use Rattle.tag.proofs.Order.{before_irreflexive, before_forever, lesser_first, lesser_second, lesser_commutes, lesser_associates}
use Rattle.network.specs.Undone.{PendingEvent, put, put_all}
use Rattle.reactor_agenda.specs.Agenda.{least_in}
use Rattle.reactor_agenda.proofs.Order.{held_cmp}
use Rattle.reactor_agenda.proofs.Putting.{put_less, put_equal, put_greater, Above, Ordered}
use Rattle.reactor_agenda.proofs.Filtered.{same_tag}

abbrev pub AreFinite : List PendingEvent → Type 0
AreFinite u = AllByRecursion (λ e. IsFinite e.tag) u

-- by the test of the order
lesser_if : (g h : LogicalTime) (b : Bool) → is_before g h ≡ b → lesser g h ≡ cond b g h
lesser_if g h b e = ap (λ t. if t then g else h) e

less_tag : (a b : PendingEvent) → held_cmp a b ≡ Less → is_before b.tag a.tag ≡ false
less_tag a b h = grind (arith, nat_tests)

least_put_at : (e x : PendingEvent) (u : List PendingEvent) (o : Ordering) → held_cmp e x ≡ o → least_in (put e (x ∷ u)) ≡ lesser e.tag x.tag
least_put_at e x u Less h = ap least_in (put_less e x u h) ∙ sym (lesser_first e.tag x.tag (less_tag e x h))
least_put_at e x u Equal h =
    ap least_in (put_equal e x u h) ∙ sym (lesser_first e.tag x.tag (ap (λ g. is_before g e.tag) (sym (same_tag e x h)) ∙ before_irreflexive e.tag))
least_put_at e x u Greater h = ap least_in (put_greater e x u h) ∙ sym (lesser_second e.tag x.tag (greater_tag e x h))
  where
    greater_tag : (a b : PendingEvent) → held_cmp a b ≡ Greater → is_before a.tag b.tag ≡ false
    greater_tag a b h = grind (arith, nat_tests)

pub least_put : (e : PendingEvent) (u : List PendingEvent) → IsFinite e.tag → least_in (put e u) ≡ lesser e.tag (least_in u)
least_put e [] f = sym (lesser_if e.tag forever true (before_forever e.tag f))
least_put e (x ∷ u) f = least_put_at e x u (held_cmp e x) refl

-- the least of their tags and of this one
abbrev pub lesser_all : List PendingEvent → LogicalTime → LogicalTime
lesser_all [] g = g
lesser_all (e ∷ rest) g = lesser_all rest (lesser e.tag g)

pub least_put_all : (es u : List PendingEvent) → AreFinite es → least_in (put_all es u) ≡ lesser_all es (least_in u)
least_put_all [] u f = refl
least_put_all (e ∷ es) u f = least_put_all es (put e u) f.1 ∙ ap (lesser_all es) (least_put e u f.0)

-- none of them is before this one
stays : (es : List PendingEvent) (g : LogicalTime) → AllByRecursion (λ x. is_before x.tag g ≡ false) es → lesser_all es g ≡ g
stays [] g a = refl
stays (e ∷ es) g a = ap (lesser_all es) (lesser_second e.tag g a.0) ∙ stays es g a.1

not_before_if : (g h k : LogicalTime) → is_before k g ≡ false → (b : Bool) → is_before g h ≡ b → is_before k (cond b g h) ≡ false
not_before_if g h k a true p = a
not_before_if g h k a false p = grind (arith, nat_tests)

not_before : (e : PendingEvent) (g : LogicalTime) (es : List PendingEvent) → Above e es → AllByRecursion (λ x. is_before x.tag (lesser e.tag g) ≡ false) es
not_before e g [] a = tt
not_before e g (x ∷ es) a = (
  ap (is_before x.tag) (lesser_if e.tag g (is_before e.tag g) refl) ∙ not_before_if e.tag g x.tag (less_tag e x a.0) (is_before e.tag g) refl,
  not_before e g es a.1,
)

-- in order the first is the least
pub first_is_least : (es : List PendingEvent) (g : LogicalTime) → Ordered es → is_before forever g ≡ false → lesser_all es g ≡ lesser (least_in es) g
first_is_least [] g r f = sym (lesser_second forever g f)
first_is_least (e ∷ es) g r f = stays es (lesser e.tag g) (not_before e g es r.0)

pub lesser_all-append : (xs ys : List PendingEvent) (g : LogicalTime) → lesser_all (xs ++ ys) g ≡ lesser_all ys (lesser_all xs g)
lesser_all-append [] ys g = refl
lesser_all-append (x ∷ xs) ys g = lesser_all-append xs ys (lesser x.tag g)

pub lesser_swaps : (a h k : LogicalTime) → lesser a (lesser h k) ≡ lesser (lesser h a) k
lesser_swaps a h k = sym (lesser_associates a h k) ∙ ap (λ g. lesser g k) (lesser_commutes a h)

pub at_most_forever : (g h : LogicalTime) → is_before forever h ≡ false → is_before forever (lesser g h) ≡ false
at_most_forever g h e = ap (is_before forever) (lesser_if g h (is_before g h) refl) ∙ by g h e (is_before g h) refl
  where
    by : (g h : LogicalTime) → is_before forever h ≡ false → (b : Bool) → is_before g h ≡ b → is_before forever (cond b g h) ≡ false
    by g h e true p = grind (arith, nat_tests)
    by g h e false p = e
