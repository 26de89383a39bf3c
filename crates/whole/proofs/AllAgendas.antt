-- All agendas after a turn, and which turn is first.
use Rattle.std.proofs.Common.{◌≡◌, ◌≢◌, ℕ, zero, suc, ◌<◌, ◌≤◌, Bool, true, false, List, [], ◌∷◌, ◌++◌, length, map, get_or, nat_eq, nat_lt, ◌||◌, ◌&&◌, not, All, Option, None, Some, slice_get, refl, sym, ap, subst, ◌∙◌, arith, inl, inr, Vec, Global}
use Rattle.std.specs.Prelude.{if◌then◌else◌}
use Rattle.std.specs.List.{AllByRecursion, flat_map}
use Rattle.std.specs.Option.{option_map}
use Rattle.std.proofs.lemmas.Bool.{or_parts, cases_eq, ne_eqb, eq-eqb, cases_Bool}
use Rattle.std.proofs.lemmas.Bool.Decides.{nat_tests}
use Rattle.std.proofs.lemmas.List.{length-map}
use Rattle.std.proofs.lemmas.Option.{slice_get-get_or, slice_get-map, slice_get_within}
use Rattle.std.proofs.Math.Bool.{or-false}
use Rattle.tag.specs.LogicalTime.{LogicalTime, forever, is_before, is_same}
use Rattle.network.specs.Connection.{Connection}
use Rattle.network.specs.Undone.{PendingEvent, look, put_all, drop_up_to}
use Rattle.network_laws.proofs.Lists.{each_append, from_each}
use Rattle.network_laws.proofs.LookUps.{look_dropped, look_later}
use Rattle.plan.specs.declared.draft.Draft.{Draft}
use Rattle.plan.specs.Federation.{federate_count, connections_of, rank_of, stop_of}
use Rattle.reactor_agenda.specs.Agenda.{Agenda, IsAgenda, in_time, least_in}
use Rattle.whole.specs.declared.targets.Target.{Target}
use Rattle.whole.specs.declared.nexts.Next.{Next}
use Rattle.whole.specs.Targets.{between, is_nonempty, is_target, target_if, targets_below, all_shown}
use Rattle.whole.specs.Targets.{AreOfDifferentFederates}
use Rattle.whole.specs.Construction.{TurnMade, Kept, put_to, after_put, after_puts, after_turn, dropped, has_target, kept_on, least_on}
use Rattle.whole.specs.Next.{is_earlier, IsFirstAt, renewed}
use Rattle.whole.specs.Agendas.{Agendas, undone_of, list_or_empty, IsDueFirst, IsDone, found_after, IsAfterTurn}
use Rattle.whole.specs.Agendas.{next_on, IsAgendaUpTo, for_each, AreAgendas}
use Rattle.whole.proofs.Looks.{found_after_least, none_before_forever, least_found, not_first}
use Rattle.whole.proofs.NextTurns.{has_target-append}
use Rattle.whole.proofs.PutMade.{eq_swaps}

-- ---- targets

below_if : (cs : List Connection) (src k n : ℕ) → k < n → (b : Bool) → AllByRecursion (λ (t : ℕ × List Connection). t.0 < n) (if b then (k, between src k cs) ∷ [] else [])
below_if cs src k n h true = (h, tt)
below_if cs src k n h false = tt

pub targets_are_below : (cs : List Connection) (src count n : ℕ) → count ≤ n → AllByRecursion (λ (t : ℕ × List Connection). t.0 < n) (targets_below cs src count)
targets_are_below cs src zero n h = tt
targets_are_below cs src (suc k) n h = each_append (λ (t : ℕ × List Connection). t.0 < n) (targets_below cs src k) (target_if cs src k) (targets_are_below cs src k n (omega arith)) (below_if cs src k n (omega arith) (is_target cs src k))

apart_more : (xs : List (ℕ × List Connection)) (t : ℕ × List Connection) (b : Bool) → AreOfDifferentFederates xs → AllByRecursion (λ x. x.0 < t.0) xs → AreOfDifferentFederates (xs ++ (if b then t ∷ [] else []))
apart_more [] t true a w = (tt, tt)
apart_more [] t false a w = tt
apart_more (x ∷ xs) t b a w =
    let low = w.0 in
    (each_append (λ other. x.0 ≢ other.0) xs (if b then t ∷ [] else []) a.0 (one b (λ e. (let clash : x.0 ≡ t.0 = e in absurd (omega arith)))), apart_more xs t b a.1 w.1)
  where
    one : (b : Bool) → (x.0 ≢ t.0) → AllByRecursion (λ (other : ℕ × List Connection). x.0 ≢ other.0) (if b then t ∷ [] else [])
    one true h = (h, tt)
    one false h = tt

pub targets_are_apart : (cs : List Connection) (src count : ℕ) → AreOfDifferentFederates (targets_below cs src count)
targets_are_apart cs src zero = tt
targets_are_apart cs src (suc k) = apart_more (targets_below cs src k) (k, between src k cs) (is_target cs src k) (targets_are_apart cs src k) (targets_are_below cs src k k (omega arith))

pub unshown : (n : ℕ) (ts : List Target) → AllByRecursion (λ (t : ℕ × List Connection). t.0 < n) (all_shown ts) → AllByRecursion (λ (t : Target). t.federate < n) ts
unshown n [] w = tt
unshown n (t ∷ ts) w = (w.0, unshown n ts w.1)

pub all_there : (n : ℕ) (ts : List Target) → AllByRecursion (λ (t : ℕ × List Connection). t.0 < n) (all_shown ts) → All (λ (t : Target). t.federate < n) ts
all_there n ts w = from_each (λ (t : Target). t.federate < n) ts (unshown n ts w)

puts-append : (t : TurnMade) (f : ℕ) (a : Kept) (xs ys : List (ℕ × List Connection)) → after_puts t (xs ++ ys) f a ≡ after_puts t ys f (after_puts t xs f a)
puts-append t f a [] ys = refl
puts-append t f a (x ∷ xs) ys = puts-append t f (if nat_eq x.0 f then after_put t x a else a) xs ys

pub puts_nowhere : (t : TurnMade) (f : ℕ) (a : Kept) (xs : List (ℕ × List Connection)) → has_target f xs ≡ false → after_puts t xs f a ≡ a
puts_nowhere t f a [] h = refl
puts_nowhere t f a (x ∷ xs) h =
    let parts = or_parts (nat_eq x.0 f) (has_target f xs) h in
    ap (λ b. after_puts t xs f (if b then after_put t x a else a)) parts.0 ∙ puts_nowhere t f a xs parts.1

not_yet : (f : ℕ) (xs : List (ℕ × List Connection)) → AllByRecursion (λ x. x.0 < f) xs → has_target f xs ≡ false
not_yet f [] w = refl
not_yet f (x ∷ xs) w = let low = w.0 in let other : nat_eq x.0 f ≡ false = grind (arith, nat_tests) in ap (λ b. b || has_target f xs) other ∙ not_yet f xs w.1

not_beyond : (cs : List Connection) (src k f : ℕ) → k ≤ f → has_target f (targets_below cs src k) ≡ false
not_beyond cs src k f h = not_yet f (targets_below cs src k) (targets_are_below cs src k f h)

has_if : (f : ℕ) (t : ℕ × List Connection) (b : Bool) → t.0 ≡ f → has_target f (if b then t ∷ [] else []) ≡ b
has_if f t true e = ap (λ c. c || false) (eq-eqb t.0 f e)
has_if f t false e = refl

has_not : (f : ℕ) (t : ℕ × List Connection) (b : Bool) → t.0 ≢ f → has_target f (if b then t ∷ [] else []) ≡ false
has_not f t true e = ap (λ c. c || false) (ne_eqb t.0 f e)
has_not f t false e = refl

-- a federate is among the targets just where it is one
pub has_is : (cs : List Connection) (src count f : ℕ) → f < count → has_target f (targets_below cs src count) ≡ is_target cs src f
has_is cs src zero f h = absurd (omega arith)
has_is cs src (suc k) f h = elim (cases_eq f k) [
  | inl e ↦ (has_target-append f (targets_below cs src k) (target_if cs src k) ∙ (ap (λ b. b || has_target f (target_if cs src k)) (not_beyond cs src k f (omega arith)) ∙ (has_if f (k, between src k cs) (is_target cs src k) (sym e) ∙ ap (is_target cs src) (sym e))))
  | inr other ↦ (has_target-append f (targets_below cs src k) (target_if cs src k) ∙ (ap (λ b. has_target f (targets_below cs src k) || b) (has_not f (k, between src k cs) (is_target cs src k) (λ q. other (sym q))) ∙ (or-false (has_target f (targets_below cs src k)) ∙ has_is cs src k f (omega arith))))
]

puts_if : (t : TurnMade) (f : ℕ) (a : Kept) (x : ℕ × List Connection) (b : Bool) → x.0 ≡ f → after_puts t (if b then x ∷ [] else []) f a ≡ (if b then after_put t x a else a)
puts_if t f a x true e = ap (λ c. if c then after_put t x a else a) (eq-eqb x.0 f e)
puts_if t f a x false e = refl

-- what is put to a federate by a turn
pub puts_are : (t : TurnMade) (cs : List Connection) (src count f : ℕ) (a : Kept) → f < count → after_puts t (targets_below cs src count) f a ≡ (if is_target cs src f then after_put t (f, between src f cs) a else a)
puts_are t cs src zero f a h = absurd (omega arith)
puts_are t cs src (suc k) f a h = elim (cases_eq f k) [
  | inl e ↦ (puts-append t f a (targets_below cs src k) (target_if cs src k) ∙ (ap (after_puts t (target_if cs src k) f) (puts_nowhere t f a (targets_below cs src k) (not_beyond cs src k f (omega arith)))
      ∙ (puts_if t f a (k, between src k cs) (is_target cs src k) (sym e) ∙ ap (λ j. if is_target cs src j then after_put t (j, between src j cs) a else a) (sym e))))
  | inr other ↦ (puts-append t f a (targets_below cs src k) (target_if cs src k) ∙ (puts_nowhere t f (after_puts t (targets_below cs src k) f a) (target_if cs src k) (has_not f (k, between src k cs) (is_target cs src k) (λ q. other (sym q))) ∙ puts_are t cs src k f a (omega arith)))
]

pub own_is_target : (cs : List Connection) (src : ℕ) → is_target cs src src ≡ true
own_is_target cs src = ap (λ b. b || is_nonempty (between src src cs)) (eq-eqb src src refl)

-- ---- what a federate's agenda keeps after a turn

puts_stop : (t : TurnMade) (xs : List (ℕ × List Connection)) (f : ℕ) (a : Kept) → (after_puts t xs f a).stop ≡ a.stop
puts_stop t [] f a = refl
puts_stop t (x ∷ xs) f a = puts_stop t xs f (if nat_eq x.0 f then after_put t x a else a) ∙ by_test (nat_eq x.0 f)
  where
    by_test : (b : Bool) → (if b then after_put t x a else a).stop ≡ a.stop
    by_test true = refl
    by_test false = refl

pub turn_stop : (t : TurnMade) (xs : List (ℕ × List Connection)) (f : ℕ) (a : Kept) → (after_turn t xs f a).stop ≡ a.stop
turn_stop t xs f a = by_test (nat_eq t.federate f) ∙ puts_stop t xs f a
  where
    by_test : (b : Bool) → (if b then dropped t.tag (after_puts t xs f a) else after_puts t xs f a).stop ≡ (after_puts t xs f a).stop
    by_test true = refl
    by_test false = refl

nothing_put : (t : TurnMade) (cs : List Connection) (f : ℕ) → is_target cs t.federate f ≡ false → put_to t (f, between t.federate f cs) ≡ []
nothing_put t cs f h =
    let parts = or_parts (nat_eq f t.federate) (is_nonempty (between t.federate f cs)) h in
    none_of (nat_eq f t.federate) (between t.federate f cs) parts.0 parts.1
  where
    none_of : (b : Bool) (between_them : List Connection) → b ≡ false → is_nonempty between_them ≡ false → flat_map (λ c. Rattle.whole.specs.Construction.carried_over t c) between_them ++ (if b then flat_map (λ s. Rattle.whole.specs.Construction.deferred_by t s) t.schedulings else []) ≡ []
    none_of true l e k = absurd cc
    none_of false [] e k = refl
    none_of false (c ∷ rest) e k = absurd cc

puts_undone : (t : TurnMade) (cs : List Connection) (f : ℕ) (a : Kept) (stop : LogicalTime) → a.stop ≡ stop → (b : Bool) → is_target cs t.federate f ≡ b →
    (if b then after_put t (f, between t.federate f cs) a else a).undone ≡ put_all (in_time stop (put_to t (f, between t.federate f cs))) a.undone
puts_undone t cs f a stop e true h = ap (λ s. put_all (in_time s (put_to t (f, between t.federate f cs))) a.undone) e
puts_undone t cs f a stop e false h = sym (ap (λ es. put_all (in_time stop es) a.undone) (nothing_put t cs f h))

found_by : (t : TurnMade) (u : List PendingEvent) (tag : LogicalTime) (slot : ℕ) (own later : Bool) → is_before t.tag tag ≡ later →
    look (if own then drop_up_to t.tag u else u) tag slot ≡ (if own && not later then None else look u tag slot)
found_by t u tag slot false later e = refl
found_by t u tag slot true true e = look_later t.tag tag slot u e
found_by t u tag slot true false e = look_dropped t.tag tag slot u e

undone_if : (b : Bool) (t : TurnMade) (a : Kept) → (if b then dropped t.tag a else a).undone ≡ (if b then drop_up_to t.tag a.undone else a.undone)
undone_if true t a = refl
undone_if false t a = refl

-- what is found on it
pub found_on : (t : TurnMade) (d : Draft) (f : ℕ) (a : Kept) → f < federate_count d → a.stop ≡ stop_of d → (tag : LogicalTime) (slot : ℕ) →
    look (after_turn t (targets_below (connections_of d) t.federate (federate_count d)) f a).undone tag slot ≡ found_after t d a.undone f tag slot
found_on t d f a h e tag slot =
    let targets = targets_below (connections_of d) t.federate (federate_count d) in
    let put : List PendingEvent = put_all (in_time (stop_of d) (put_to t (f, between t.federate f (connections_of d)))) a.undone in
    let puts : (after_puts t targets f a).undone ≡ put =
    ap (λ (x : Kept). x.undone) (puts_are t (connections_of d) t.federate (federate_count d) f a h)
    ∙ puts_undone t (connections_of d) f a (stop_of d) e (is_target (connections_of d) t.federate f) refl in
    ap (λ u. look u tag slot) (undone_if (nat_eq t.federate f) t (after_puts t targets f a) ∙ ap (λ u. if nat_eq t.federate f then drop_up_to t.tag u else u) puts)
    ∙ (found_by t put tag slot (nat_eq t.federate f) (is_before t.tag tag) refl
    ∙ ap (λ b. if b && not (is_before t.tag tag) then None else look put tag slot) (eq_swaps t.federate f))

-- ---- all agendas after a turn

not_beyond_end : (xs : List Agenda) (k : ℕ) → k < length xs → slice_get xs k ≡ None → ⊥
not_beyond_end [] k h e = absurd (omega arith)
not_beyond_end (x ∷ xs) zero h e = cc
not_beyond_end (x ∷ xs) (suc k) h e = not_beyond_end xs k (omega arith) e

some_at : (agendas : List Agenda) (f : ℕ) → f < length agendas → (o : Option Agenda) → slice_get agendas f ≡ o → (a : Agenda) × (slice_get agendas f ≡ Some a)
some_at agendas f h (Some a) e = (a, e)
some_at agendas f h None e = absurd (not_beyond_end agendas f h e)

pub agenda_at : (d : Draft) (agendas : List Agenda) → length agendas ≡ federate_count d → (f : ℕ) → f < federate_count d → (a : Agenda) × (slice_get agendas f ≡ Some a)
agenda_at d agendas many f h = some_at agendas f (omega arith) (slice_get agendas f) refl

pub undone_at : (d : Draft) (agendas : List Agenda) (f : ℕ) (a : Agenda) → slice_get agendas f ≡ Some a → undone_of (record { draft = d; undone = map (λ x. x.undone) agendas }) f ≡ a.undone
undone_at d agendas f a e = ap list_or_empty (slice_get-map (λ x. x.undone) agendas f ∙ ap (option_map (λ x. x.undone)) e)

undone_kept : (o : Option Agenda) → option_map (λ x. x.undone) o ≡ option_map (λ (k : Kept). k.undone) (option_map kept_on o)
undone_kept None = refl
undone_kept (Some a) = refl

-- the same, where it is known what the agenda keeps
undone_by : (d : Draft) (agendas : List Agenda) (f : ℕ) (k : Kept) → slice_get (map kept_on agendas) f ≡ Some k → undone_of (record { draft = d; undone = map (λ x. x.undone) agendas }) f ≡ k.undone
undone_by d agendas f k e =
    ap list_or_empty (slice_get-map (λ x. x.undone) agendas f ∙ (undone_kept (slice_get agendas f) ∙ (ap (option_map (λ (k : Kept). k.undone)) (sym (slice_get-map kept_on agendas f)) ∙ ap (option_map (λ (k : Kept). k.undone)) e)))

pub turn_undone : (t : TurnMade) (d : Draft) (old new : List Agenda) → length old ≡ federate_count d →
    ((f : ℕ) (a : Agenda) → slice_get old f ≡ Some a → IsAgendaUpTo (stop_of d) a) →
    ((f : ℕ) → slice_get (map kept_on new) f ≡ option_map (after_turn t (targets_below (connections_of d) t.federate (federate_count d)) f) (slice_get (map kept_on old) f)) →
    IsAfterTurn t (record { draft = d; undone = map (λ x. x.undone) old }) (record { draft = d; undone = map (λ x. x.undone) new })
turn_undone t d old new many each after = record {
  draft = refl;
  undone = λ f tag slot h.
      let a = agenda_at d old many f h in
      let targets = targets_below (connections_of d) t.federate (federate_count d) in
      let next : slice_get (map kept_on new) f ≡ Some (after_turn t targets f (kept_on a.0)) = after f ∙ ap (option_map (after_turn t targets f)) (slice_get-map kept_on old f ∙ ap (option_map kept_on) a.1) in
      ap (λ u. look u tag slot) (undone_by d new f (after_turn t targets f (kept_on a.0)) next)
      ∙ (found_on t d f (kept_on a.0) h (each f a.0 a.1).up_to tag slot
      ∙ ap (λ u. found_after t d u f tag slot) (sym (undone_at d old f a.0 a.1)));
}

not_a_target : (t : TurnMade) (targets : List (ℕ × List Connection)) (f : ℕ) → has_target t.federate targets ≡ true → has_target f targets ≡ false → (a : Kept) → after_turn t targets f a ≡ a
not_a_target t targets f own none a =
    let other : nat_eq t.federate f ≡ false = ne_eqb t.federate f (λ e. (let yes_it : has_target f targets ≡ true = ap (λ k. has_target k targets) (sym e) ∙ own in absurd cc)) in
    ap (λ b. if b then dropped t.tag (after_puts t targets f a) else after_puts t targets f a) other ∙ puts_nowhere t f a targets none

option_id : {X : Type 0} (g : X → X) → ((x : X) → g x ≡ x) → (o : Option X) → option_map g o ≡ o
option_id g h None = refl
option_id g h (Some x) = ap (λ y. Some y) (h x)

some_of : {X Y : Type 0} (g : X → Y) (o : Option X) (y : Y) → option_map g o ≡ Some y → (x : X) × (o ≡ Some x) × (g x ≡ y)
some_of g None y e = absurd cc
some_of g (Some x) y e = (x, refl, (let same : g x ≡ y = cc in same))

-- ---- where as much is kept

kept_at : (old new : List Agenda) (f : ℕ) → slice_get (map kept_on new) f ≡ slice_get (map kept_on old) f → option_map kept_on (slice_get new f) ≡ option_map kept_on (slice_get old f)
kept_at old new f e = sym (slice_get-map kept_on new f) ∙ (e ∙ slice_get-map kept_on old f)

least_kept : (o p : Option Agenda) → option_map kept_on o ≡ option_map kept_on p → least_on o ≡ least_on p
least_kept None None e = refl
least_kept None (Some b) e = absurd cc
least_kept (Some a) None e = absurd cc
least_kept (Some a) (Some b) e = let same : kept_on a ≡ kept_on b = cc in ap (λ (k : Kept). least_in k.undone) same

up_to_kept : (stop : LogicalTime) (old new : Agenda) → kept_on old ≡ kept_on new → IsAgendaUpTo stop old → IsAgendaUpTo stop new
up_to_kept stop old new e before =
    let undone : old.undone ≡ new.undone = ap (λ (k : Kept). k.undone) e in
    let same : old.stop ≡ new.stop = ap (λ (k : Kept). k.stop) e in
    record {
      up_to = sym same ∙ before.up_to;
      agenda = record {
        rises = subst Rattle.network.specs.Undone.Rises undone before.agenda.rises;
        in_time = subst (λ s. AllByRecursion (Rattle.reactor_agenda.specs.Agenda.IsInTime s) new.undone) same (subst (AllByRecursion (Rattle.reactor_agenda.specs.Agenda.IsInTime old.stop)) undone before.agenda.in_time);
      };
    }

renew_all : (d : Draft) (old new : List Agenda) (f : ℕ) (h : Bool) → (h ≡ false → least_on (slice_get new f) ≡ least_on (slice_get old f)) → option_map (renewed new h f) (for_each d (next_on d old) f) ≡ for_each d (next_on d new) f
renew_all d old new f h same = by_test (nat_lt f (federate_count d)) h same
  where
    by_test : (b h : Bool) → (h ≡ false → least_on (slice_get new f) ≡ least_on (slice_get old f)) → option_map (renewed new h f) (if b then Some (next_on d old f) else None) ≡ (if b then Some (next_on d new f) else None)
    by_test false h same = refl
    by_test true true same = refl
    by_test true false same = ap (λ g. Some (record { federate = f; tag = g; rank = rank_of d f })) (sym (same refl))

pub turn_kept : (t : TurnMade) (d : Draft) (old new : List Agenda) (nexts more : List Next) (wires : List (List (ℕ × List Connection))) → t.federate < federate_count d →
    AreAgendas d old nexts wires → length new ≡ length old →
    ((f : ℕ) → slice_get (map kept_on new) f ≡ option_map (after_turn t (targets_below (connections_of d) t.federate (federate_count d)) f) (slice_get (map kept_on old) f)) →
    ((f : ℕ) → slice_get more f ≡ option_map (renewed new (has_target f (targets_below (connections_of d) t.federate (federate_count d))) f) (slice_get nexts f)) →
    ((f : ℕ) (a : Agenda) → has_target f (targets_below (connections_of d) t.federate (federate_count d)) ≡ true → slice_get new f ≡ Some a → IsAgenda a) →
    AreAgendas d new more wires
turn_kept t d old new nexts more wires there w many after renewal known =
    let targets = targets_below (connections_of d) t.federate (federate_count d) in
    let own : has_target t.federate targets ≡ true = has_is (connections_of d) t.federate (federate_count d) t.federate there ∙ own_is_target (connections_of d) t.federate in
    let same : (f : ℕ) → has_target f targets ≡ false → least_on (slice_get new f) ≡ least_on (slice_get old f) =
    λ f none. least_kept (slice_get new f) (slice_get old f) (kept_at old new f (after f ∙ option_id (after_turn t targets f) (not_a_target t targets f own none) (slice_get (map kept_on old) f))) in
    record {
      count = many ∙ w.count;
      each = λ f a at.
          let kept = some_of (after_turn t targets f) (slice_get (map kept_on old) f) (kept_on a) (sym (after f) ∙ (slice_get-map kept_on new f ∙ ap (option_map kept_on) at)) in
          let was = some_of kept_on (slice_get old f) kept.0 (sym (slice_get-map kept_on old f) ∙ kept.1) in
          let before = w.each f was.0 was.1 in
          elim (cases_Bool (has_target f targets)) [
            | inl yes_it ↦ record { up_to = ap (λ (k : Kept). k.stop) (sym kept.2) ∙ (turn_stop t targets f kept.0 ∙ (ap (λ (k : Kept). k.stop) (sym was.2) ∙ before.up_to)); agenda = known f a yes_it at }
            | inr none ↦ up_to_kept (stop_of d) was.0 a (was.2 ∙ (sym (not_a_target t targets f own none kept.0) ∙ kept.2)) before
          ];
      next = λ f. renewal f ∙ (ap (option_map (renewed new (has_target f targets) f)) (w.next f) ∙ renew_all d old new f (has_target f targets) (same f));
      wired = w.wired;
    }

-- ---- where nothing changed

pub undone_same : (old new : List Agenda) → map kept_on new ≡ map kept_on old → map (λ x. x.undone) new ≡ map (λ x. x.undone) old
undone_same [] [] e = refl
undone_same [] (b ∷ new) e = absurd cc
undone_same (a ∷ old) [] e = absurd cc
undone_same (a ∷ old) (b ∷ new) e =
    let first : kept_on b ≡ kept_on a = cc in
    let rest : map kept_on new ≡ map kept_on old = cc in
    (λ i. (first i).undone ∷ undone_same old new rest i)

pub kept_same : (d : Draft) (old new : List Agenda) (nexts : List Next) (wires : List (List (ℕ × List Connection))) → AreAgendas d old nexts wires → length new ≡ length old → map kept_on new ≡ map kept_on old → AreAgendas d new nexts wires
kept_same d old new nexts wires w many e =
    let same : (f : ℕ) → option_map kept_on (slice_get new f) ≡ option_map kept_on (slice_get old f) = λ f. kept_at old new f (ap (λ l. slice_get l f) e) in
    record {
      count = many ∙ w.count;
      each = λ f a at.
          let was = some_of kept_on (slice_get old f) (kept_on a) (sym (same f) ∙ ap (option_map kept_on) at) in
          up_to_kept (stop_of d) was.0 a was.2 (w.each f was.0 was.1);
      next = λ f. w.next f ∙ ap (λ g. if nat_lt f (federate_count d) then Some (record { federate = f; tag = g; rank = rank_of d f }) else None) (least_kept (slice_get old f) (slice_get new f) (sym (same f)));
      wired = w.wired;
    }

-- ---- which turn is first

for_there : {A : Type 0} (d : Draft) (value : ℕ → A) (f : ℕ) → f < federate_count d → for_each d value f ≡ Some (value f)
for_there d value f h = let b : nat_lt f (federate_count d) ≡ true = grind (arith, nat_tests) in ap (λ t. if t then Some (value f) else None) b

for_nowhere : {A : Type 0} (d : Draft) (value : ℕ → A) (f : ℕ) (x : A) → for_each d value f ≡ Some x → (f < federate_count d) × (value f ≡ x)
for_nowhere d value f x e = by_test (nat_lt f (federate_count d)) refl e
  where
    by_test : (b : Bool) → nat_lt f (federate_count d) ≡ b → (if b then Some (value f) else None) ≡ Some x → (f < federate_count d) × (value f ≡ x)
    by_test true t e = (grind (arith, nat_tests), (let same : value f ≡ x = cc in same))
    by_test false t e = absurd cc

pub some_next : (d : Draft) (agendas : List Agenda) (nexts : List Next) (wires : List (List (ℕ × List Connection))) → AreAgendas d agendas nexts wires → 0 < federate_count d → 0 < length nexts
some_next d agendas nexts wires w h = let low = slice_get_within nexts 0 (next_on d agendas 0) (w.next 0 ∙ for_there d (next_on d agendas) 0 h) in omega arith

module _ (d : Draft) (agendas : List Agenda) (nexts : List Next) (wires : List (List (ℕ × List Connection))) (w : AreAgendas d agendas nexts wires) (p : ℕ) (first : IsFirstAt nexts (length nexts) p) (x : Next) (at : slice_get nexts p ≡ Some x) where
  abbrev all_agendas : Agendas
  all_agendas = record { draft = d; undone = map (λ a. a.undone) agendas }

  not_sooner_than : (f : ℕ) → f < federate_count d → is_earlier (next_on d agendas f) x ≡ false
  not_sooner_than f h =
      let is : slice_get nexts f ≡ Some (next_on d agendas f) = w.next f ∙ for_there d (next_on d agendas) f h in
      first.first f (next_on d agendas f) x (slice_get_within nexts f (next_on d agendas f) is) is at

  least_at : (f : ℕ) (a : Agenda) → slice_get agendas f ≡ Some a → least_on (slice_get agendas f) ≡ least_in a.undone
  least_at f a e = ap least_on e

  none_later : (g : LogicalTime) (r s : ℕ) → (is_before g forever || (is_same g forever && nat_lt r s)) ≡ false → is_before g forever ≡ false
  none_later g r s h = (or_parts (is_before g forever) (is_same g forever && nat_lt r s) h).0

  done_at : x.tag ≡ forever → (f : ℕ) (o : Option Agenda) → slice_get agendas f ≡ o → (tag : LogicalTime) (slot : ℕ) → look (list_or_empty (option_map (λ a. a.undone) o)) tag slot ≡ None
  done_at e f None q tag slot = refl
  done_at e f (Some a) q tag slot =
      let inside : f < federate_count d = (let low = slice_get_within agendas f a q in let many = w.count in omega arith) in
      let late : is_before (least_in a.undone) forever ≡ false =
      none_later (least_in a.undone) (rank_of d f) x.rank
      (ap (λ g. is_before g forever || (is_same g forever && nat_lt (rank_of d f) x.rank)) (sym (least_at f a q))
      ∙ (ap (λ g. is_before (least_on (slice_get agendas f)) g || (is_same (least_on (slice_get agendas f)) g && nat_lt (rank_of d f) x.rank)) (sym e) ∙ not_sooner_than f inside)) in
      none_before_forever a (w.each f a q).agenda late tag slot

  pub all_done : x.tag ≡ forever → IsDone all_agendas
  all_done e f tag slot = ap (λ o. look (list_or_empty o) tag slot) (slice_get-map (λ a. a.undone) agendas f) ∙ done_at e f (slice_get agendas f) refl tag slot

  first_by : (q : (p < federate_count d) × (next_on d agendas p ≡ x)) → (x.tag ≡ forever → ⊥) → IsDueFirst all_agendas p (least_on (slice_get agendas p))
  first_by q some =
      let a = agenda_at d agendas w.count p q.0 in
      let least = least_at p a.0 a.1 in
      let found = least_found a.0.undone (λ e. some (ap (λ (n : Next). n.tag) (sym q.1) ∙ (least ∙ e))) in
      record {
        there = q.0;
        something = (found.0, found.1, (λ i. look (undone_at d agendas p a.0 a.1 i) (least i) found.0) ∙ found.2);
        first = λ other earlier slot value inside e.
            let b = agenda_at d agendas w.count other inside in
            let late : is_before earlier (least_in b.0.undone) ≡ false = found_after_least b.0.undone (w.each other b.0 b.1).agenda.rises earlier slot value (ap (λ u. look u earlier slot) (sym (undone_at d agendas other b.0 b.1)) ∙ e) in
            let not_so : is_earlier (next_on d agendas other) (next_on d agendas p) ≡ false = ap (is_earlier (next_on d agendas other)) q.1 ∙ not_sooner_than other inside in
            not_first (least_on (slice_get agendas other)) earlier (least_on (slice_get agendas p)) (rank_of d other) (rank_of d p) (ap (is_before earlier) (least_at other b.0 b.1) ∙ late) not_so;
      }

  pub due_first : (x.tag ≡ forever → ⊥) → IsDueFirst all_agendas x.federate x.tag
  due_first some =
      let q = for_nowhere d (next_on d agendas) p x (sym (w.next p) ∙ at) in
      subst (λ (n : Next). IsDueFirst all_agendas n.federate n.tag) q.1 (first_by q some)

-- the targets of a federate, as the code keeps them
pub targets_at : (d : Draft) (agendas : List Agenda) (nexts : List Next) (targets : List (Vec Target Global)) (f : ℕ) (x : Vec Target Global) →
    AreAgendas d agendas nexts (map (λ ts. all_shown ts.items) targets) → f < federate_count d → x ≡ get_or targets f x →
    (f < length targets) × (all_shown x.items ≡ targets_below (connections_of d) f (federate_count d))
targets_at d agendas nexts targets f x w h is =
    let shown_there = w.wired f ∙ for_there d (λ f. targets_below (connections_of d) f (federate_count d)) f h in
    let low = slice_get_within (map (λ ts. all_shown ts.items) targets) f (targets_below (connections_of d) f (federate_count d)) shown_there in
    let many = length-map targets (λ ts. all_shown ts.items) in
    let within : f < length targets = omega arith in
    let here : slice_get targets f ≡ Some x = slice_get-get_or targets f x within ∙ ap (λ ts. Some ts) (sym is) in
    let both : Some (all_shown x.items) ≡ Some (targets_below (connections_of d) f (federate_count d)) =
    sym (ap (option_map (λ ts. all_shown ts.items)) here) ∙ (sym (slice_get-map (λ ts. all_shown ts.items) targets f) ∙ shown_there) in
    (within, (let same : all_shown x.items ≡ targets_below (connections_of d) f (federate_count d) = cc in same))

pub nexts_many : (d : Draft) (agendas : List Agenda) (nexts : List Next) (wires : List (List (ℕ × List Connection))) → AreAgendas d agendas nexts wires → (f : ℕ) → f < federate_count d → f < length nexts
nexts_many d agendas nexts wires w f h = slice_get_within nexts f (next_on d agendas f) (w.next f ∙ for_there d (next_on d agendas) f h)

-- what `put_turn` says, of all agendas
pub record IsPut (t : TurnMade) (d : Draft) (items new : List Agenda) (more : List Next) (wires : List (List (ℕ × List Connection))) : Type 0 where
  pub kept : AreAgendas d new more wires
  pub after : IsAfterTurn t (record { draft = d; undone = map (λ x. x.undone) items }) (record { draft = d; undone = map (λ x. x.undone) new })

pub after_put_turn : (t : TurnMade) (d : Draft) (items old new : List Agenda) (nitems olds more : List Next) (wires : List (List (ℕ × List Connection))) (ts : List (ℕ × List Connection)) →
    old ≡ items → olds ≡ nitems → ts ≡ targets_below (connections_of d) t.federate (federate_count d) → t.federate < federate_count d → AreAgendas d items nitems wires → length new ≡ length old →
    ((f : ℕ) → slice_get (map kept_on new) f ≡ option_map (after_turn t ts f) (slice_get (map kept_on old) f)) →
    ((f : ℕ) → slice_get more f ≡ option_map (renewed new (has_target f ts) f) (slice_get olds f)) →
    ((f : ℕ) (a : Agenda) → has_target f ts ≡ true → slice_get new f ≡ Some a → IsAgenda a) → IsPut t d items new more wires
after_put_turn t d items old new nitems olds more wires ts is_old is_olds is_ts there w many put renewal known =
    let after : (f : ℕ) → slice_get (map kept_on new) f ≡ option_map (after_turn t (targets_below (connections_of d) t.federate (federate_count d)) f) (slice_get (map kept_on items) f) =
    λ f. put f ∙ (λ i. option_map (after_turn t (is_ts i) f) (slice_get (map kept_on (is_old i)) f)) in
    record {
      kept = turn_kept t d items new nitems more wires there w (many ∙ ap length is_old) after
          (λ f. renewal f ∙ (λ i. option_map (renewed new (has_target f (is_ts i)) f) (slice_get (is_olds i) f)))
          (λ f a h at. known f a (ap (has_target f) is_ts ∙ h) at);
      after = turn_undone t d items new w.count w.each after;
    }

pub wires_many : (d : Draft) (agendas : List Agenda) (nexts : List Next) (targets : List (Vec Target Global)) (f : ℕ) →
    AreAgendas d agendas nexts (map (λ ts. all_shown ts.items) targets) → f < federate_count d → f < length targets
wires_many d agendas nexts targets f w h =
    let low = slice_get_within (map (λ ts. all_shown ts.items) targets) f (targets_below (connections_of d) f (federate_count d)) (w.wired f ∙ for_there d (λ f. targets_below (connections_of d) f (federate_count d)) f h) in
    let many = length-map targets (λ ts. all_shown ts.items) in
    omega arith
