-- The first of turns that are next, and those that are renewed.
use Rattle.std.proofs.Common.{◌≡◌, ℕ, ◌+◌, ◌<◌, Bool, true, false, List, [], ◌∷◌, ◌++◌, length, length-set, take, get_or, set, nat_eq, nat_lt, ◌||◌, ◌&&◌, Option, None, Some, slice_get, refl, sym, ap, subst, ◌∙◌, arith, inl, inr}
use Rattle.std.specs.Option.{option_map}
use Rattle.std.proofs.lemmas.Bool.{or_left, or_right, and_from, and_parts, cases_eq, ne_eqb, eq-eqb, eqb-true}
use Rattle.std.proofs.lemmas.Bool.Decides.{nat_tests}
use Rattle.std.proofs.lemmas.List.{take_more, map-append}
use Rattle.std.proofs.lemmas.Option.{slice_get-get_or}
use Rattle.tag.specs.LogicalTime.{LogicalTime, is_before, is_same}
use Rattle.tag.proofs.Order.{before_transitive, same_is_equal, same_itself}
use Rattle.network.specs.Connection.{Connection}
use Rattle.reactor_agenda.specs.Agenda.{Agenda, least_in}
use Rattle.whole.specs.declared.targets.Target.{Target}
use Rattle.whole.specs.declared.nexts.Next.{Next}
use Rattle.whole.specs.Targets.{all_shown, shown}
use Rattle.whole.specs.Construction.{has_target, least_on}
use Rattle.whole.specs.Next.{is_earlier, renewed}
use Rattle.network.proofs.Items.{get_set_within, get_set_other}

rank_then : (a b c : Next) → a.tag ≡ b.tag → b.tag ≡ c.tag → nat_lt a.rank b.rank ≡ true → nat_lt b.rank c.rank ≡ true → is_earlier a c ≡ true
rank_then a b c p q h k =
    let same : is_same a.tag c.tag ≡ true = ap (λ g. is_same g c.tag) (p ∙ q) ∙ same_itself c.tag in
    let less : nat_lt a.rank c.rank ≡ true = grind (arith, nat_tests) in
    or_right (is_before a.tag c.tag) (is_same a.tag c.tag && nat_lt a.rank c.rank) (and_from (is_same a.tag c.tag) (nat_lt a.rank c.rank) same less)

before_then_earlier : (a b c : Next) → is_before a.tag b.tag ≡ true → (t : Bool) → is_before b.tag c.tag ≡ t → (t || (is_same b.tag c.tag && nat_lt b.rank c.rank)) ≡ true → is_earlier a c ≡ true
before_then_earlier a b c h true e k = or_left (is_before a.tag c.tag) (is_same a.tag c.tag && nat_lt a.rank c.rank) (before_transitive a.tag b.tag c.tag h e)
before_then_earlier a b c h false e k =
    let parts = and_parts (is_same b.tag c.tag) (nat_lt b.rank c.rank) k in
    or_left (is_before a.tag c.tag) (is_same a.tag c.tag && nat_lt a.rank c.rank) (ap (is_before a.tag) (sym (same_is_equal b.tag c.tag parts.0)) ∙ h)

same_then_earlier : (a b c : Next) → a.tag ≡ b.tag → nat_lt a.rank b.rank ≡ true → (t : Bool) → is_before b.tag c.tag ≡ t → (t || (is_same b.tag c.tag && nat_lt b.rank c.rank)) ≡ true → is_earlier a c ≡ true
same_then_earlier a b c p h true e k = or_left (is_before a.tag c.tag) (is_same a.tag c.tag && nat_lt a.rank c.rank) (ap (λ g. is_before g c.tag) p ∙ e)
same_then_earlier a b c p h false e k =
    let parts = and_parts (is_same b.tag c.tag) (nat_lt b.rank c.rank) k in
    rank_then a b c p (same_is_equal b.tag c.tag parts.0) h parts.1

then_by : (a b c : Next) → (t : Bool) → is_before a.tag b.tag ≡ t → (t || (is_same a.tag b.tag && nat_lt a.rank b.rank)) ≡ true → is_earlier b c ≡ true → is_earlier a c ≡ true
then_by a b c true e h k = before_then_earlier a b c e (is_before b.tag c.tag) refl k
then_by a b c false e h k =
    let parts = and_parts (is_same a.tag b.tag) (nat_lt a.rank b.rank) h in
    same_then_earlier a b c (same_is_equal a.tag b.tag parts.0) parts.1 (is_before b.tag c.tag) refl k

pub earlier_then : (a b c : Next) → is_earlier a b ≡ true → is_earlier b c ≡ true → is_earlier a c ≡ true
earlier_then a b c h k = then_by a b c (is_before a.tag b.tag) refl h k

pub not_itself : (a : Next) → is_earlier a a ≡ false
not_itself a = grind (arith, nat_tests)

pub same_some : {X : Type 0} (o : Option X) (x y : X) → o ≡ Some x → o ≡ Some y → x ≡ y
same_some o x y p q = cc

pub has_target-append : (f : ℕ) (xs ys : List (ℕ × List Connection)) → has_target f (xs ++ ys) ≡ (has_target f xs || has_target f ys)
has_target-append f [] ys = refl
has_target-append f (x ∷ xs) ys = by_test (nat_eq x.0 f) (has_target-append f xs ys)
  where
    by_test : (b : Bool) → has_target f (xs ++ ys) ≡ (has_target f xs || has_target f ys) → (b || has_target f (xs ++ ys)) ≡ ((b || has_target f xs) || has_target f ys)
    by_test true h = refl
    by_test false h = h

one_more : (f i : ℕ) (targets : List Target) (t : Target) → i < length targets → t ≡ get_or targets i t →
    has_target f (all_shown (take (i + 1) targets)) ≡ (has_target f (all_shown (take i targets)) || (nat_eq t.federate f || false))
one_more f i targets t h is =
    ap (λ ts. has_target f (all_shown ts)) (take_more targets i t h)
    ∙ (ap (has_target f) (map-append shown (take i targets) (get_or targets i t ∷ []))
    ∙ (has_target-append f (all_shown (take i targets)) (all_shown (get_or targets i t ∷ []))
    ∙ ap (λ (x : Target). has_target f (all_shown (take i targets)) || (nat_eq x.federate f || false)) (sym is)))

renewed_again : (agendas : List Agenda) (k : ℕ) (b c : Bool) (o : Option Next) (x : Next) (tag : LogicalTime) → c ≡ true → tag ≡ least_on (slice_get agendas k) → Some x ≡ option_map (renewed agendas b k) o →
    Some (record { federate = x.federate; tag = tag; rank = x.rank }) ≡ option_map (renewed agendas (b || c) k) o
renewed_again agendas k b c None x tag e is h = absurd cc
renewed_again agendas k true c (Some y) x tag e is h =
    let same : x ≡ renewed agendas true k y = cc in
    (λ i. Some (record { federate = (same i).federate; tag = is i; rank = (same i).rank }))
renewed_again agendas k false c (Some y) x tag e is h =
    let same : x ≡ y = cc in
    (λ i. Some (record { federate = (same i).federate; tag = is i; rank = (same i).rank })) ∙ sym (ap (λ b. Some (renewed agendas b k y)) e)

or_not : (b c : Bool) → c ≡ false → b ≡ (b || c)
or_not true c e = refl
or_not false c e = sym e

-- one more federate's is renewed
pub renew_step :
    (agendas : List Agenda) (old nexts : List Next) (targets : List Target) (i : ℕ) (t : Target) (x : Next) (a : Agenda) (tag : LogicalTime) → i < length targets → t ≡ get_or targets i t →
    t.federate < length nexts → x ≡ get_or nexts t.federate x → t.federate < length agendas → a ≡ get_or agendas t.federate a → tag ≡ least_in a.undone →
    ((f : ℕ) → slice_get nexts f ≡ option_map (renewed agendas (has_target f (all_shown (take i targets))) f) (slice_get old f)) →
    (f : ℕ) → slice_get (set nexts t.federate (record { federate = x.federate; tag = tag; rank = x.rank })) f ≡ option_map (renewed agendas (has_target f (all_shown (take (i + 1) targets))) f) (slice_get old f)
renew_step agendas old nexts targets i t x a tag h is_t there is_x held is_a least so_far f =
    let more = one_more f i targets t h is_t in
    let b : Bool = has_target f (all_shown (take i targets)) in
    let next : Next = record { federate = x.federate; tag = tag; rank = x.rank } in
    elim (cases_eq f t.federate) [
      | inl e ↦ (
          let c : (nat_eq t.federate f || false) ≡ true = ap (λ v. v || false) (eq-eqb t.federate f (sym e)) in
          let first : tag ≡ least_on (slice_get agendas f) = least ∙ (ap (λ (y : Agenda). least_in y.undone) is_a ∙ (ap least_on (sym (slice_get-get_or agendas t.federate a held)) ∙ ap (λ k. least_on (slice_get agendas k)) (sym e))) in
          let was : Some x ≡ option_map (renewed agendas b f) (slice_get old f) = ap (λ n. Some n) is_x ∙ (sym (slice_get-get_or nexts t.federate x there) ∙ (ap (slice_get nexts) (sym e) ∙ so_far f)) in
          ap (slice_get (set nexts t.federate next)) e ∙ (get_set_within nexts t.federate next there
          ∙ (renewed_again agendas f b (nat_eq t.federate f || false) (slice_get old f) x tag c first was
          ∙ sym (ap (λ v. option_map (renewed agendas v f) (slice_get old f)) more))))
      | inr other ↦ (
          let c : (nat_eq t.federate f || false) ≡ false = ap (λ v. v || false) (ne_eqb t.federate f (λ q. other (sym q))) in
          get_set_other nexts t.federate f next other ∙ (so_far f
          ∙ (ap (λ v. option_map (renewed agendas v f) (slice_get old f)) (or_not b (nat_eq t.federate f || false) c)
          ∙ sym (ap (λ v. option_map (renewed agendas v f) (slice_get old f)) more))))
    ]

-- the same, where it is said of the federate's value
pub renewed_to :
    (agendas : List Agenda) (old nexts new : List Next) (targets : List Target) (i : ℕ) (t : Target) (a : Agenda) (tag : LogicalTime) → i < length targets → t ≡ get_or targets i t →
    t.federate < length nexts → t.federate < length agendas → a ≡ get_or agendas t.federate a → tag ≡ least_in a.undone →
    ((x : Next) → slice_get nexts t.federate ≡ Some x → new ≡ set nexts t.federate (record { federate = x.federate; tag = tag; rank = x.rank })) →
    ((f : ℕ) → slice_get nexts f ≡ option_map (renewed agendas (has_target f (all_shown (take i targets))) f) (slice_get old f)) →
    (length new ≡ length nexts) × ((f : ℕ) → slice_get new f ≡ option_map (renewed agendas (has_target f (all_shown (take (i + 1) targets))) f) (slice_get old f))
renewed_to agendas old nexts new targets i t a tag h is_t there held is_a least is so_far =
    let none : Next = record { federate = i; tag = tag; rank = i } in
    let x : Next = get_or nexts t.federate none in
    let at : slice_get nexts t.federate ≡ Some x = slice_get-get_or nexts t.federate none there in
    let is_x : x ≡ get_or nexts t.federate x = same_some (slice_get nexts t.federate) x (get_or nexts t.federate x) at (slice_get-get_or nexts t.federate x there) in
    let e = is x at in (
      ap length e ∙ length-set nexts t.federate (record { federate = x.federate; tag = tag; rank = x.rank }),
      λ f. ap (λ ns. slice_get ns f) e ∙ renew_step agendas old nexts targets i t x a tag h is_t there is_x held is_a least so_far f,
    )

-- one more target's agenda is known
pub known_step :
    (P : Agenda → Type 0) (agendas : List Agenda) (targets : List Target) (i : ℕ) (t : Target) (a : Agenda) → i < length targets → t ≡ get_or targets i t →
    t.federate < length agendas → P (get_or agendas t.federate a) →
    ((f : ℕ) (x : Agenda) → has_target f (all_shown (take i targets)) ≡ true → slice_get agendas f ≡ Some x → P x) →
    (f : ℕ) (x : Agenda) → has_target f (all_shown (take (i + 1) targets)) ≡ true → slice_get agendas f ≡ Some x → P x
known_step P agendas targets i t a h is_t held known so_far f x yes_it at =
    either_of (has_target f (all_shown (take i targets))) (nat_eq t.federate f) (sym (one_more f i targets t h is_t) ∙ yes_it)
    (λ before. so_far f x before at)
    (λ now. (
    let same : t.federate ≡ f = eqb-true t.federate f now in
    let here : Some (get_or agendas t.federate a) ≡ Some x = sym (slice_get-get_or agendas t.federate a held) ∙ (ap (slice_get agendas) same ∙ at) in
    let is : get_or agendas t.federate a ≡ x = cc in
    subst P is known))
  where
    either_of : (b c : Bool) → (b || (c || false)) ≡ true → {P : Type 0} → (b ≡ true → P) → (c ≡ true → P) → P
    either_of true c e f g = f refl
    either_of false true e f g = g refl
    either_of false false e f g = absurd cc
