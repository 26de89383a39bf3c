-- What was put stays, or is taken back.
use Rattle.std.proofs.Common.{◌≡◌, ◌≢◌, ℕ, zero, suc, ◌<◌, ◌≤◌, Bool, true, false, inl, inr, Option, None, List, [], ◌∷◌, ◌++◌, append-nil, length, map, take, drop, ◌-◌, get_or, set, nat_eq, ◌||◌, Some, slice_get, refl, sym, ap, ◌∙◌, arith}
use Rattle.std.specs.List.{AllByRecursion}
use Rattle.std.specs.Prelude.{if◌then◌else◌, Result, Ok, Err, OnOk, OnErr}
use Rattle.std.specs.Option.{option_map}
use Rattle.std.proofs.lemmas.List.{map-set, nil_from_length, take_all}
use Rattle.std.proofs.Math.Seq.{drop-length}
use Rattle.std.proofs.lemmas.Bool.{or_parts, cases_eq, ne_eqb, eq-eqb, eqb-true}
use Rattle.std.proofs.lemmas.Option.{slice_get-get_or, slice_get-map}
use Rattle.tag.specs.LogicalTime.{LogicalTime}
use Rattle.network.specs.Connection.{Connection}
use Rattle.network.proofs.Items.{get_set_within, get_set_other}
use Rattle.network.specs.Undone.{PendingEvent, put_all, drop_up_to}
use Rattle.reactor_agenda.specs.Agenda.{Agenda, in_time}
use Rattle.whole.specs.declared.targets.Target.{Target}
use Rattle.whole.specs.Targets.{shown, all_shown, AreOfDifferentFederates}
use Rattle.whole.specs.Construction.{TurnMade, Kept, put_to, has_target, kept_on, dropped, after_put, after_puts, after_turn}

same_map : {X Y : Type 0} (f g : X → Y) → ((x : X) → f x ≡ g x) → (o : Option X) → option_map f o ≡ option_map g o
same_map f g h None = refl
same_map f g h (Some x) = ap (λ y. Some y) (h x)

set_twice : {X : Type 0} (xs : List X) (k : ℕ) (x y : X) → set (set xs k x) k y ≡ set xs k y
set_twice [] k x y = refl
set_twice (z ∷ xs) zero x y = refl
set_twice (z ∷ xs) (suc k) x y = ap (λ rest. z ∷ rest) (set_twice xs k x y)

set_itself : {X Y : Type 0} (f : X → Y) (xs : List X) (k : ℕ) (x : X) (y : Y) → slice_get xs k ≡ Some x → y ≡ f x → set (map f xs) k y ≡ map f xs
set_itself f [] k x y e same = refl
set_itself f (z ∷ xs) zero x y e same = let here : z ≡ x = cc in ap (λ (v : _). v ∷ map f xs) (same ∙ ap f (sym here))
set_itself f (z ∷ xs) (suc k) x y e same = ap (λ rest. f z ∷ rest) (set_itself f xs k x y e same)

-- an agenda whose events were put, and taken back
pub put_back : (old later : List Agenda) (k : ℕ) (x put y z : Agenda) → k < length old → put.stop ≡ (get_or old k x).stop → put.before ≡ (get_or old k x).undone →
    map kept_on later ≡ map kept_on (set old k put) → slice_get later k ≡ slice_get (set old k put) k → k < length later → z.stop ≡ (get_or later k y).stop → z.undone ≡ (get_or later k y).before →
    map kept_on (set later k z) ≡ map kept_on old
put_back old later k x put y z there stop before alike same within z_stop z_undone =
    let was : slice_get old k ≡ Some (get_or old k x) = slice_get-get_or old k x there in
    let got : Some (get_or later k y) ≡ Some put = sym (slice_get-get_or later k y within) ∙ (same ∙ get_set_within old k put there) in
    let is : get_or later k y ≡ put = cc in
    let shown : kept_on z ≡ kept_on (get_or old k x) = (λ i. record { stop = (z_stop ∙ (ap (λ a. a.stop) is ∙ stop)) i; undone = (z_undone ∙ (ap (λ a. a.before) is ∙ before)) i }) in
    map-set kept_on later k z
    ∙ (ap (λ l. set l k (kept_on z)) (alike ∙ map-set kept_on old k put)
    ∙ (set_twice (map kept_on old) k (kept_on put) (kept_on z)
    ∙ set_itself kept_on old k (get_or old k x) (kept_on z) was shown))

not_among : (k : ℕ) (targets : List (ℕ × List Connection)) → AllByRecursion (λ other. k ≢ other.0) targets → has_target k targets ≡ false
not_among k [] a = refl
not_among k (t ∷ rest) a = ap (λ b. b || has_target k rest) (ne_eqb t.0 k (λ e. a.0 (sym e))) ∙ not_among k rest a.1

-- all but the first
others_are : {X : Type 0} (x : X) (rest : List X) → take (length (x ∷ rest) - 1) rest ≡ rest
others_are x rest = let count : length (x ∷ rest) - 1 ≡ length rest = omega arith in ap (λ n. take n rest) count ∙ take_all (length rest) rest (omega arith)

abbrev pub all_but_first : List Target → List Target
all_but_first targets = take (length targets - 1) (drop 1 targets)

-- the first target isn't among the others
pub first_apart : (targets : List Target) (t : Target) → 1 ≤ length targets → t ≡ get_or targets 0 t → AreOfDifferentFederates (all_shown targets) → has_target t.federate (all_shown (all_but_first targets)) ≡ false
first_apart [] t some is apart = absurd (omega arith)
first_apart (x ∷ rest) t some is apart = ap (λ ts. has_target t.federate (all_shown ts)) (others_are x rest) ∙ ap (λ (y : Target). has_target y.federate (all_shown rest)) is ∙ not_among x.federate (all_shown rest) apart.0

-- a federate that isn't a target isn't the first, nor among the others
pub not_target : (targets : List Target) (t : Target) (federate : ℕ) → 1 ≤ length targets → t ≡ get_or targets 0 t → has_target federate (all_shown targets) ≡ false →
    (federate ≢ t.federate) × (has_target federate (all_shown (all_but_first targets)) ≡ false)
not_target [] t federate some is none = absurd (omega arith)
not_target (x ∷ rest) t federate some is none =
    let parts = or_parts (nat_eq x.federate federate) (has_target federate (all_shown rest)) none in
    ((λ e. (let same : x.federate ≡ federate = sym (e ∙ ap (λ (y : Target). y.federate) is) in let yes : nat_eq x.federate federate ≡ true = eq-eqb x.federate federate same in let no = parts.0 in absurd cc)), ap (λ ts. has_target federate (all_shown ts)) (others_are x rest) ∙ parts.1)

-- what is written over all of a list is the list
pub written : {X : Type 0} (old new : List X) (count : ℕ) → count ≡ length old → length new ≡ length old → take count (new ++ drop (length new) old) ≡ new
written old new count is same =
    let none : drop (length new) old ≡ [] = ap (λ n. drop n old) same ∙ drop-length old in
    ap (λ rest. take count (new ++ rest)) none ∙ (ap (take count) (append-nil new) ∙ take_all count new (omega arith))

-- ---- what was put stays

-- what is kept on an agenda that replaced another
kept-set_same : (old : List Agenda) (k : ℕ) (a : Agenda) → k < length old → slice_get (map kept_on (set old k a)) k ≡ Some (kept_on a)
kept-set_same old k a there = slice_get-map kept_on (set old k a) k ∙ ap (option_map kept_on) (get_set_within old k a there)

-- what is kept on any other
kept-set_other : (old : List Agenda) (k f : ℕ) (a : Agenda) → f ≢ k → slice_get (map kept_on (set old k a)) f ≡ slice_get (map kept_on old) f
kept-set_other old k f a other = slice_get-map kept_on (set old k a) f ∙ (ap (option_map kept_on) (get_set_other old k f a other) ∙ sym (slice_get-map kept_on old f))

kept-there : (old : List Agenda) (k : ℕ) (x : Agenda) → k < length old → slice_get (map kept_on old) k ≡ Some (kept_on (get_or old k x))
kept-there old k x there = slice_get-map kept_on old k ∙ ap (option_map kept_on) (slice_get-get_or old k x there)

-- one more target
pub put_step : (t : TurnMade) (target : ℕ × List Connection) (rest : List (ℕ × List Connection)) (old new : List Agenda) (x put : Agenda) → target.0 < length old →
    kept_on put ≡ after_put t target (kept_on (get_or old target.0 x)) →
    ((f : ℕ) → slice_get (map kept_on new) f ≡ option_map (after_puts t rest f) (slice_get (map kept_on (set old target.0 put)) f)) →
    (f : ℕ) → slice_get (map kept_on new) f ≡ option_map (after_puts t (target ∷ rest) f) (slice_get (map kept_on old) f)
put_step t target rest old new x put there is so_far f = elim (cases_eq f target.0) [
  | inl e ↦ (
      let here : nat_eq target.0 f ≡ true = eq-eqb target.0 f (sym e) in
      let was : Kept = kept_on (get_or old target.0 x) in
      so_far f ∙ (ap (λ j. option_map (after_puts t rest f) (slice_get (map kept_on (set old target.0 put)) j)) e
      ∙ (ap (option_map (after_puts t rest f)) (kept-set_same old target.0 put there ∙ ap (λ k. Some k) is)
      ∙ (sym (ap (λ b. Some (after_puts t rest f (if b then after_put t target was else was))) here)
      ∙ ap (option_map (after_puts t (target ∷ rest) f)) (sym (ap (slice_get (map kept_on old)) e ∙ kept-there old target.0 x there))))))
  | inr other ↦ (
      let elsewhere : nat_eq target.0 f ≡ false = ne_eqb target.0 f (λ q. other (sym q)) in
      so_far f ∙ (ap (option_map (after_puts t rest f)) (kept-set_other old target.0 f put other)
      ∙ same_map (after_puts t rest f) (after_puts t (target ∷ rest) f) (λ k. sym (ap (λ b. after_puts t rest f (if b then after_put t target k else k)) elsewhere)) (slice_get (map kept_on old) f)))
]

-- the same, of the code's targets
pub put_first : (t : TurnMade) (targets : List Target) (target : Target) (old new : List Agenda) (x put : Agenda) (events : List PendingEvent) → 1 ≤ length targets → target ≡ get_or targets 0 target → target.federate < length old →
    kept_on put ≡ record { stop = (get_or old target.federate x).stop; undone = put_all (in_time (get_or old target.federate x).stop events) (get_or old target.federate x).undone } → events ≡ put_to t (shown target) →
    ((f : ℕ) → slice_get (map kept_on new) f ≡ option_map (after_puts t (all_shown (all_but_first targets)) f) (slice_get (map kept_on (set old target.federate put)) f)) →
    (f : ℕ) → slice_get (map kept_on new) f ≡ option_map (after_puts t (all_shown targets) f) (slice_get (map kept_on old) f)
put_first t [] target old new x put events some first there is made so_far f = absurd (omega arith)
put_first t (y ∷ rest) target old new x put events some first there is made so_far f =
    let was : Agenda = get_or old target.federate x in
    put_step t (shown target) (all_shown (all_but_first (y ∷ rest))) old new x put there (is ∙ ap (λ es. record { stop = was.stop; undone = put_all (in_time was.stop es) was.undone }) made) so_far f
    ∙ ap (λ ts. option_map (after_puts t ts f) (slice_get (map kept_on old) f)) (λ i. shown (first i) ∷ all_shown (others_are y rest i))

nothing_put : (t : TurnMade) (target : ℕ × List Connection) (k : Kept) (b : Bool) → put_to t target ≡ [] → (if b then after_put t target k else k) ≡ k
nothing_put t target k true none = ap (λ es. record { stop = k.stop; undone = put_all (in_time k.stop es) k.undone }) none
nothing_put t target k false none = refl

-- nothing is put to the first target
without_first : (t : TurnMade) (target : ℕ × List Connection) (rest : List (ℕ × List Connection)) (f : ℕ) (o : Option Kept) → put_to t target ≡ [] →
    option_map (after_puts t rest f) o ≡ option_map (after_puts t (target ∷ rest) f) o
without_first t target rest f o none =
    same_map (after_puts t rest f) (after_puts t (target ∷ rest) f) (λ k. sym (ap (after_puts t rest f) (nothing_put t target k (nat_eq target.0 f) none))) o

-- the same, of the code's targets
pub put_none :
    {X E : Type 0} (answer : Result X E) (t : TurnMade) (targets : List Target) (target : Target) (old new : List Agenda) (events : List PendingEvent) (test : Bool) (count : ℕ) →
    1 ≤ length targets → target ≡ get_or targets 0 target → events ≡ put_to t (shown target) → test ≡ nat_eq count 0 → test ≡ true → count ≡ length events →
    OnOk answer ((f : ℕ) → slice_get (map kept_on new) f ≡ option_map (after_puts t (all_shown (all_but_first targets)) f) (slice_get (map kept_on old) f)) →
    OnOk answer ((f : ℕ) → slice_get (map kept_on new) f ≡ option_map (after_puts t (all_shown targets) f) (slice_get (map kept_on old) f))
put_none (Err e) t targets target old new events test count some first made is passes many so_far = tt
put_none (Ok x) t [] target old new events test count some first made is passes many so_far = absurd (omega arith)
put_none (Ok x) t (y ∷ rest) target old new events test count some first made is passes many so_far = λ f.
    let none : events ≡ [] = nil_from_length events (sym many ∙ eqb-true count 0 (sym is ∙ passes)) in
    let none_put : put_to t (shown y) ≡ [] = ap (λ x. put_to t (shown x)) (sym first) ∙ (sym made ∙ none) in
    so_far f ∙ (ap (λ ts. option_map (after_puts t (all_shown ts) f) (slice_get (map kept_on old) f)) (others_are y rest)
    ∙ without_first t (shown y) (all_shown rest) f (slice_get (map kept_on old) f) none_put)

drop_one : (t : TurnMade) (targets : List (ℕ × List Connection)) (f : ℕ) (o : Option Kept) (x : Kept) (b : Bool) → nat_eq t.federate f ≡ b → b ≡ true → Some x ≡ option_map (after_puts t targets f) o →
    Some (dropped t.tag x) ≡ option_map (after_turn t targets f) o
drop_one t targets f None x b is yes_it e = absurd cc
drop_one t targets f (Some a) x b is yes_it e =
    let same : x ≡ after_puts t targets f a = cc in
    ap (λ y. Some (dropped t.tag y)) same ∙ sym (ap (λ c. Some (if c then dropped t.tag (after_puts t targets f a) else after_puts t targets f a)) (is ∙ yes_it))

keep_one : (t : TurnMade) (targets : List (ℕ × List Connection)) (f : ℕ) (o : Option Kept) → nat_eq t.federate f ≡ false →
    option_map (after_puts t targets f) o ≡ option_map (after_turn t targets f) o
keep_one t targets f o is = same_map (after_puts t targets f) (after_turn t targets f) (λ k. sym (ap (λ c. if c then dropped t.tag (after_puts t targets f k) else after_puts t targets f k) is)) o

-- the turn's own federate drops what is up to its tag
pub drop_step : (t : TurnMade) (targets : List (ℕ × List Connection)) (old put : List Agenda) (own : ℕ) (tag : LogicalTime) (x z : Agenda) → own ≡ t.federate → tag ≡ t.tag → own < length put →
    z ≡ record { stop = (get_or put own x).stop; undone = drop_up_to tag (get_or put own x).undone; before = drop_up_to tag (get_or put own x).undone } →
    ((f : ℕ) → slice_get (map kept_on put) f ≡ option_map (after_puts t targets f) (slice_get (map kept_on old) f)) →
    (f : ℕ) → slice_get (map kept_on (set put own z)) f ≡ option_map (after_turn t targets f) (slice_get (map kept_on old) f)
drop_step t targets old put own tag x z is_own is_tag there is so_far f = elim (cases_eq f own) [
  | inl e ↦ (
      let here : nat_eq t.federate f ≡ true = eq-eqb t.federate f (sym (e ∙ is_own)) in
      let before : Kept = kept_on (get_or put own x) in
      let was : Some before ≡ option_map (after_puts t targets f) (slice_get (map kept_on old) f) = sym (kept-there put own x there) ∙ (ap (slice_get (map kept_on put)) (sym e) ∙ so_far f) in
      ap (slice_get (map kept_on (set put own z))) e ∙ (kept-set_same put own z there ∙ (ap (λ y. Some (kept_on y)) is ∙ (ap (λ g. Some (dropped g before)) is_tag
      ∙ drop_one t targets f (slice_get (map kept_on old) f) before (nat_eq t.federate f) refl here was))))
  | inr other ↦ (
      let elsewhere : nat_eq t.federate f ≡ false = ne_eqb t.federate f (λ q. other (sym (is_own ∙ q))) in
      kept-set_other put own f z other ∙ (so_far f ∙ keep_one t targets f (slice_get (map kept_on old) f) elsewhere))
]

pub on_err : {X E : Type 0} (r : Result X E) (P : Type 0) → P → OnErr r P
on_err (Ok x) P p = tt
on_err (Err e) P p = p
