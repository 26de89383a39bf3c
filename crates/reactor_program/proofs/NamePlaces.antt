-- The slots that names stand for.
use Rattle.std.proofs.Common.{length-append, ◌≡◌, ℕ, suc, zero, ◌+◌, ◌<◌, Bool, true, false, cond, List, [], ◌∷◌, ◌++◌, map, length, refl, ap, sym, ◌∙◌, arith, codes}
use Rattle.std.specs.Prelude.{Option, None, Some}
use Rattle.std.specs.Option.{option_map}
use Rattle.std.specs.Str.{bytes_eq}
use Rattle.std.proofs.lemmas.Slice.Eq.{bytes_eq-Decides}
use Rattle.plan_slots.specs.declared.slots.Slots.{Slots}
use Rattle.plan_slots.specs.declared.slots.Timer.{Timer}
use Rattle.std.specs.List.{IsDistinct, AllByRecursion}
use Rattle.plan_names.specs.Naming.{place_of, AreDistinct}
use Rattle.plan_slots.specs.Numbering.{timer_names}
use Rattle.plan_names.proofs.Places.{bytes_eq-yes, bytes_eq-no, place_of-first, place_of-rest}
use Rattle.reactor_program.specs.Resolution.{trigger_slot}

-- where a name stands in two lists, one after the other
some_step : (b : Bool) (o p : Option ℕ) (k : ℕ) → ((j : ℕ) → o ≡ Some j → p ≡ Some j) → cond b (Some 0) (option_map suc o) ≡ Some k → cond b (Some 0) (option_map suc p) ≡ Some k
some_step true o p k h e = e
some_step false None p k h e = cc
some_step false (Some j) p k h e = rw (h j refl) e

place_in_first : (xs ys : List (List ℕ)) (n : List ℕ) (k : ℕ) → place_of xs n ≡ Some k → place_of (xs ++ ys) n ≡ Some k
place_in_first [] ys n k e = cc
place_in_first (m ∷ xs) ys n k e = some_step (bytes_eq m n) (place_of xs n) (place_of (xs ++ ys) n) k (place_in_first xs ys n) e

none_step : (b : Bool) (o p q : Option ℕ) (n : ℕ) → (o ≡ None → p ≡ option_map (λ k. n + k) q) → cond b (Some 0) (option_map suc o) ≡ None → cond b (Some 0) (option_map suc p) ≡ option_map (λ k. suc n + k) q
none_step true o p q n h e = cc
none_step false (Some j) p q n h e = cc
none_step false None p None n h e = rw (h refl) refl
none_step false None p (Some k) n h e = rw (h refl) (ap (λ j. Some j) (omega arith))

same_shift : (o : Option ℕ) → o ≡ option_map (λ k. 0 + k) o
same_shift None = refl
same_shift (Some k) = ap (λ j. Some j) (omega arith)

place_in_second : (xs ys : List (List ℕ)) (n : List ℕ) → place_of xs n ≡ None → place_of (xs ++ ys) n ≡ option_map (λ k. length xs + k) (place_of ys n)
place_in_second [] ys n e = same_shift (place_of ys n)
place_in_second (m ∷ xs) ys n e = none_step (bytes_eq m n) (place_of xs n) (place_of (xs ++ ys) n) (place_of ys n) (length xs) (place_in_second xs ys n) e

pub names_length : (timers : List Timer) → length (timer_names timers) ≡ length timers
names_length [] = refl
names_length (t ∷ rest) = ap suc (names_length rest)

not_startup : (x : List ℕ) (r : Bool) → r ≡ bytes_eq x (codes "startup") → r ≡ false → bytes_eq (codes "startup") x ≡ false
not_startup x r e f = by (bytes_eq (codes "startup") x) refl
  where
    by : (b : Bool) → bytes_eq (codes "startup") x ≡ b → b ≡ false
    by false h = refl
    by true h =
        let same = (bytes_eq-Decides (codes "startup") x).0 h in
        let back = (bytes_eq-Decides x (codes "startup")).1 (sym same) in
        cc

after_startup : (s : Slots) (x : List ℕ) (r : Bool) → r ≡ bytes_eq x (codes "startup") → r ≡ false → (o : Option ℕ)
    → place_of (s.inputs ++ timer_names s.timers ++ s.actions ++ s.physical) x ≡ o → trigger_slot s x ≡ option_map suc o
after_startup s x r e f o h = rw (not_startup x r e f, h) refl

-- the slot of a name, by where it stands
pub slot_input : (s : Slots) (x : List ℕ) (r : Bool) → r ≡ bytes_eq x (codes "startup") → r ≡ false
    → (k : ℕ) → Some k ≡ place_of s.inputs x → Some (1 + k) ≡ trigger_slot s x
slot_input s x r e f k i =
    let a = place_in_first s.inputs (timer_names s.timers) x k (sym i) in
    let b = place_in_first (s.inputs ++ timer_names s.timers) s.actions x k a in
    let d = place_in_first (s.inputs ++ timer_names s.timers ++ s.actions) s.physical x k b in
    ap (λ j. Some j) (omega arith) ∙ sym (after_startup s x r e f (Some k) d)

pub slot_timer : (s : Slots) (x : List ℕ) (r : Bool) → r ≡ bytes_eq x (codes "startup") → r ≡ false → None ≡ place_of s.inputs x
    → (k : ℕ) → Some k ≡ place_of (timer_names s.timers) x → Some (1 + length s.inputs + k) ≡ trigger_slot s x
slot_timer s x r e f i k t =
    let a = place_in_second s.inputs (timer_names s.timers) x (sym i) ∙ ap (option_map (λ j. length s.inputs + j)) (sym t) in
    let b = place_in_first (s.inputs ++ timer_names s.timers) s.actions x (length s.inputs + k) a in
    let d = place_in_first (s.inputs ++ timer_names s.timers ++ s.actions) s.physical x (length s.inputs + k) b in
    ap (λ j. Some j) (omega arith) ∙ sym (after_startup s x r e f (Some (length s.inputs + k)) d)

two_lengths : (s : Slots) → length (s.inputs ++ timer_names s.timers) ≡ length s.inputs + length s.timers
two_lengths s = simp length-append (ap (λ n. length s.inputs + n) (names_length s.timers))

three_lengths : (s : Slots) → length (s.inputs ++ timer_names s.timers ++ s.actions) ≡ length s.inputs + length s.timers + length s.actions
three_lengths s = length-append (s.inputs ++ timer_names s.timers) s.actions ∙ ap (λ n. n + length s.actions) (two_lengths s)

none_of_two : (s : Slots) (x : List ℕ) → None ≡ place_of s.inputs x → None ≡ place_of (timer_names s.timers) x → place_of (s.inputs ++ timer_names s.timers) x ≡ None
none_of_two s x i t = place_in_second s.inputs (timer_names s.timers) x (sym i) ∙ ap (option_map (λ j. length s.inputs + j)) (sym t)

pub slot_action : (s : Slots) (x : List ℕ) (r : Bool) → r ≡ bytes_eq x (codes "startup") → r ≡ false → None ≡ place_of s.inputs x → None ≡ place_of (timer_names s.timers) x
    → (k : ℕ) → Some k ≡ place_of s.actions x → Some (1 + length s.inputs + length s.timers + k) ≡ trigger_slot s x
slot_action s x r e f i t k a =
    let n = length (s.inputs ++ timer_names s.timers) in
    let b = place_in_second (s.inputs ++ timer_names s.timers) s.actions x (none_of_two s x i t) ∙ ap (option_map (λ j. n + j)) (sym a) in
    let d = place_in_first (s.inputs ++ timer_names s.timers ++ s.actions) s.physical x (n + k) b in
    ap (λ j. Some j) (omega (arith, two_lengths s)) ∙ sym (after_startup s x r e f (Some (n + k)) d)

all_but_last : (s : Slots) (x : List ℕ) → None ≡ place_of s.inputs x → None ≡ place_of (timer_names s.timers) x → None ≡ place_of s.actions x
    → place_of (s.inputs ++ timer_names s.timers ++ s.actions ++ s.physical) x ≡ option_map (λ j. length (s.inputs ++ timer_names s.timers ++ s.actions) + j) (place_of s.physical x)
all_but_last s x i t a =
    let n = length (s.inputs ++ timer_names s.timers) in
    let b = place_in_second (s.inputs ++ timer_names s.timers) s.actions x (none_of_two s x i t) ∙ ap (option_map (λ j. n + j)) (sym a) in
    place_in_second (s.inputs ++ timer_names s.timers ++ s.actions) s.physical x b

pub slot_physical : (s : Slots) (x : List ℕ) (r : Bool) → r ≡ bytes_eq x (codes "startup") → r ≡ false → None ≡ place_of s.inputs x → None ≡ place_of (timer_names s.timers) x → None ≡ place_of s.actions x
    → (k : ℕ) → Some k ≡ place_of s.physical x → Some (1 + length s.inputs + length s.timers + length s.actions + k) ≡ trigger_slot s x
slot_physical s x r e f i t a k p =
    let n = length (s.inputs ++ timer_names s.timers ++ s.actions) in
    ap (λ j. Some j) (omega (arith, three_lengths s)) ∙ sym (after_startup s x r e f (Some (n + k)) (all_but_last s x i t a ∙ ap (option_map (λ j. n + j)) (sym p)))

pub slot_missing : (s : Slots) (x : List ℕ) (r : Bool) → r ≡ bytes_eq x (codes "startup") → r ≡ false → None ≡ place_of s.inputs x → None ≡ place_of (timer_names s.timers) x → None ≡ place_of s.actions x
    → None ≡ place_of s.physical x → None ≡ trigger_slot s x
slot_missing s x r e f i t a p =
    let n = length (s.inputs ++ timer_names s.timers ++ s.actions) in
    sym (after_startup s x r e f None (all_but_last s x i t a ∙ ap (option_map (λ j. n + j)) (sym p)))

-- no two names are one: the first isn't among the others, and those are apart
none_before : (o : Option ℕ) → option_map suc o ≡ None → o ≡ None
none_before None h = refl
none_before (Some k) h = cc

other_step : (x m : List ℕ) (names : List (List ℕ)) (b : Bool) → bytes_eq m x ≡ b → (place_of names x ≡ None → AllByRecursion (λ y. bytes_eq x y ≡ false) names)
    → place_of (m ∷ names) x ≡ None → AllByRecursion (λ y. bytes_eq x y ≡ false) (m ∷ names)
other_step x m names true h rest e = let f : None ≡ Some 0 = sym e ∙ place_of-first m names x h in cc
other_step x m names false h rest e =
    (bytes_eq-no x m (λ g. let k = bytes_eq-yes m x (sym g) in cc), rest (none_before (place_of names x) (sym (place_of-rest m names x h) ∙ e)))

no_other : (x : List ℕ) (names : List (List ℕ)) → place_of names x ≡ None → AllByRecursion (λ y. bytes_eq x y ≡ false) names
no_other x [] e = tt
no_other x (m ∷ names) e = other_step x m names (bytes_eq m x) refl (no_other x names) e

other_none : (x : List ℕ) (names : List (List ℕ)) → AllByRecursion (λ y. bytes_eq x y ≡ false) names → place_of names x ≡ None
other_none x [] h = refl
other_none x (m ∷ names) h = place_of-rest m names x (bytes_eq-no m x (λ g. let k = bytes_eq-yes x m (sym g) in let l = h.0 in cc)) ∙ ap (option_map suc) (other_none x names h.1)

pub distinct_more : (x : List ℕ) (names : List (List ℕ)) → place_of names x ≡ None → AreDistinct names → AreDistinct (x ∷ names)
unfolding IsDistinct
distinct_more x names e d = (no_other x names e, d)

pub distinct_less : (x : List ℕ) (names : List (List ℕ)) → AreDistinct (x ∷ names) → (place_of names x ≡ None) × AreDistinct names
unfolding IsDistinct
distinct_less x names d = (other_none x names d.0, d.1)

pub distinct_none : AreDistinct []
unfolding IsDistinct
distinct_none = tt
