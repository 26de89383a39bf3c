-- Zero-delay paths, and the levels that they make.
use Rattle.std.proofs.Common.{◌≡◌, ℕ, suc, zero, ◌+◌, ◌<◌, ◌≤◌, Bool, true, false, List, [], ◌∷◌, ◌++◌, length, max, refl, ap, sym, ◌∙◌, arith, get_or, subst, inl, inr, ◌⊎◌, length-append}
use Rattle.std.specs.Prelude.{Contains, ◌&&◌, ◌||◌, nat_eq, nat_lt, if◌then◌else◌}
use Rattle.std.proofs.lemmas.Bool.Decides.{nat_tests, leb_tells, eqb_tells}
use Rattle.std.proofs.lemmas.Bool.{eqb-true, and_parts}
use Rattle.tag.specs.LogicalTime.{origin, is_same, logical_time}
use Rattle.network.specs.Connection.{Connection, IsPath}
use Rattle.network.proofs.Walks.{AreZeroDelay}
use Rattle.plan_paths.specs.Levels.{is_zero_delay, above, level_within, before_by}
use Rattle.plan_paths.proofs.Levels.{before_by-le}

-- ---- zero-delay connections

pub zero_delay_test : (c : Connection) → c.delay ≡ origin → is_zero_delay c ≡ true
zero_delay_test c e = ap (λ d. is_same d origin) e

pub zero_delay_from_test : (c : Connection) → is_zero_delay c ≡ true → c.delay ≡ origin
zero_delay_from_test c e =
    let time : c.delay.time ≡ 0 = grind (arith, nat_tests) in
    let microstep : c.delay.microstep ≡ 0 = grind (arith, nat_tests) in
    ap (λ a. logical_time a c.delay.microstep) time ∙ ap (λ m. logical_time 0 m) microstep

-- ---- one more connection at the end

pub IsPath-snoc : (cs : List Connection) (i : ℕ) (path : List Connection) (c : Connection)
    → IsPath cs i path c.source → Contains cs c → IsPath cs i (path ++ c ∷ []) c.target
IsPath-snoc cs i [] c is_path contained = absurd is_path
IsPath-snoc cs i (b ∷ []) c is_path contained =
    (is_path.0, is_path.1, (contained, sym is_path.2, refl))
IsPath-snoc cs i (b ∷ e ∷ rest) c is_path contained =
    (is_path.0, is_path.1, IsPath-snoc cs b.target (e ∷ rest) c is_path.2 contained)

pub zero_delay-snoc : (path : List Connection) (c : Connection) → AreZeroDelay path → c.delay ≡ origin → AreZeroDelay (path ++ c ∷ [])
zero_delay-snoc [] c each last = (last, tt)
zero_delay-snoc (b ∷ rest) c each last = (each.0, zero_delay-snoc rest c each.1 last)

-- a path is its last connection, after a path to it or at the start
pub record EndsBy (cs : List Connection) (i : ℕ) (path : List Connection) (j : ℕ) : Type 0 where
  pub last : Connection
  pub front : List Connection
  pub contained : Contains cs last
  pub target : last.target ≡ j
  pub zero_delay : last.delay ≡ origin
  pub longer : length path ≡ length front + 1
  pub before : ((length front ≡ 0) × (last.source ≡ i)) ⊎ (IsPath cs i front last.source × AreZeroDelay front)

pub ends_by : (cs : List Connection) (i : ℕ) (path : List Connection) (j : ℕ) → IsPath cs i path j → AreZeroDelay path → EndsBy cs i path j
ends_by cs i [] j is_path each = absurd is_path
ends_by cs i (c ∷ []) j is_path each = record {
  last = c;
  front = [];
  contained = is_path.0;
  target = is_path.2;
  zero_delay = each.0;
  longer = refl;
  before = inl (refl, is_path.1);
}
ends_by cs i (c ∷ e ∷ rest) j is_path each =
    let further : EndsBy cs c.target (e ∷ rest) j = ends_by cs c.target (e ∷ rest) j is_path.2 each.1 in
    let longer : length (e ∷ rest) ≡ length further.front + 1 = further.longer in
    record {
      last = further.last;
      front = c ∷ further.front;
      contained = further.contained;
      target = further.target;
      zero_delay = further.zero_delay;
      longer = omega arith;
      before = inr (joined further.front further.last further.before);
    }
  where
    joined : (front : List Connection) (last : Connection)
        → ((length front ≡ 0) × (last.source ≡ c.target)) ⊎ (IsPath cs c.target front last.source × AreZeroDelay front)
        → IsPath cs i (c ∷ front) last.source × AreZeroDelay (c ∷ front)
    joined [] last (inl none) = ((is_path.0, is_path.1, sym none.1), (each.0, tt))
    joined [] last (inr further) = absurd further.0
    joined (f ∷ fs) last (inl none) = absurd (omega (arith, none.0))
    joined (f ∷ fs) last (inr further) = ((is_path.0, is_path.1, further.0), (each.0, further.1))

-- ---- levels are lengths of longest paths

above_more_than : (f : ℕ → ℕ) (j : ℕ) (b : Connection) (cs : List Connection) → above f j cs ≤ above f j (b ∷ cs)
above_more_than f j b cs = chosen (nat_eq b.target j && is_zero_delay b)
  where
    chosen : (t : Bool) → above f j cs ≤ (if t then max (f b.source + 1) (above f j cs) else above f j cs)
    chosen true = omega arith
    chosen false = omega arith

above_first : (f : ℕ → ℕ) (j : ℕ) (b : Connection) (cs : List Connection) → b.target ≡ j → is_zero_delay b ≡ true → f b.source + 1 ≤ above f j (b ∷ cs)
above_first f j b cs target zero_delay = chosen (nat_eq b.target j) (is_zero_delay b) (same_number b.target j target) zero_delay
  where
    same_number : (m n : ℕ) → m ≡ n → nat_eq m n ≡ true
    same_number m n e = grind (arith, nat_tests)

    chosen : (t u : Bool) → t ≡ true → u ≡ true → f b.source + 1 ≤ (if t && u then max (f b.source + 1) (above f j cs) else above f j cs)
    chosen true true e g = omega arith
    chosen true false e g = absurd (let h : ⊥ = cc in h)
    chosen false u e g = absurd (let h : ⊥ = cc in h)

above_reaches : (f : ℕ → ℕ) (j : ℕ) (cs : List Connection) (c : Connection) (k : ℕ) → k < length cs → get_or cs k c ≡ c → c.target ≡ j
    → is_zero_delay c ≡ true → f c.source + 1 ≤ above f j cs
above_reaches f j [] c k below here target zero_delay = absurd (omega arith)
above_reaches f j (b ∷ cs) c zero below here target zero_delay =
    subst (λ (x : Connection). f x.source + 1 ≤ above f j (b ∷ cs)) here
    (above_first f j b cs (ap (λ (x : Connection). x.target) here ∙ target) (ap is_zero_delay here ∙ zero_delay))
above_reaches f j (b ∷ cs) c (suc k) below here target zero_delay =
    let further : f c.source + 1 ≤ above f j cs = above_reaches f j cs c k (omega arith) here target zero_delay in
    let more : above f j cs ≤ above f j (b ∷ cs) = above_more_than f j b cs in
    omega arith

-- no zero-delay path of at most this many connections is longer
pub within_longest : (cs : List Connection) (k i : ℕ) (path : List Connection) (j : ℕ) → IsPath cs i path j → AreZeroDelay path
    → length path ≤ k → length path ≤ level_within cs k j
within_longest cs zero i path j is_path each short = short
within_longest cs (suc k) i path j is_path each short =
    let by : EndsBy cs i path j = ends_by cs i path j is_path each in
    let longer : length path ≡ length by.front + 1 = by.longer in
    let reaches : level_within cs k by.last.source + 1 ≤ above (level_within cs k) j cs
    = above_reaches (level_within cs k) j cs by.last by.contained.0 by.contained.1 by.contained.2 by.target (zero_delay_test by.last by.zero_delay) in
    elim by.before [
      | inl none ↦ (let first : length by.front ≡ 0 = none.0 in omega arith)
      | inr front ↦
          (let so_far : length by.front ≤ level_within cs k by.last.source
          = within_longest cs k i by.front by.last.source front.0 front.1 (omega arith) in
          omega arith)
    ]

-- the connection that a level above 0 comes from
pub record ComesBy (f : ℕ → ℕ) (j : ℕ) (cs : List Connection) : Type 0 where
  pub last : Connection
  pub contained : Contains cs last
  pub target : last.target ≡ j
  pub zero_delay : is_zero_delay last ≡ true
  pub level : above f j cs ≡ f last.source + 1

comes_by : (f : ℕ → ℕ) (j : ℕ) (cs : List Connection) → 0 < above f j cs → ComesBy f j cs
comes_by f j [] some = absurd (omega arith)
comes_by f j (b ∷ cs) some = chosen (nat_eq b.target j && is_zero_delay b) refl (comes_by f j cs)
  where
    later : above f j (b ∷ cs) ≡ above f j cs → ComesBy f j cs → ComesBy f j (b ∷ cs)
    later same by = record {
      last = by.last;
      contained = (suc by.contained.0, omega (arith, by.contained.1), by.contained.2);
      target = by.target;
      zero_delay = by.zero_delay;
      level = same ∙ by.level;
    }

    is : (t : Bool) → (nat_eq b.target j && is_zero_delay b) ≡ t → above f j (b ∷ cs) ≡ (if t then max (f b.source + 1) (above f j cs) else above f j cs)
    is t e = ap (λ (u : Bool). if u then max (f b.source + 1) (above f j cs) else above f j cs) e

    first : (nat_eq b.target j && is_zero_delay b) ≡ true → above f j (b ∷ cs) ≡ f b.source + 1 → ComesBy f j (b ∷ cs)
    first e level =
        let both : (nat_eq b.target j ≡ true) × (is_zero_delay b ≡ true) = and_parts (nat_eq b.target j) (is_zero_delay b) e in
        record {
          last = b;
          contained = (0, omega arith, refl);
          target = eqb-true b.target j both.0;
          zero_delay = both.1;
          level = level;
        }

    chosen : (t : Bool) → (nat_eq b.target j && is_zero_delay b) ≡ t → (0 < above f j cs → ComesBy f j cs) → ComesBy f j (b ∷ cs)
    chosen false e further =
        let same : above f j (b ∷ cs) ≡ above f j cs = is false e in
        later same (further (omega arith))
    chosen true e further =
        let same : above f j (b ∷ cs) ≡ max (f b.source + 1) (above f j cs) = is true e in
        elim (leb_tells (above f j cs) (f b.source + 1)) [
          | inl low ↦ (let bound : above f j cs ≤ f b.source + 1 = low.1 in first e (omega arith))
          | inr high ↦
              (let bound : f b.source + 1 < above f j cs = high.1 in later (omega arith) (further (omega arith)))
        ]

-- some zero-delay path is as long
pub within_attained : (cs : List Connection) (k j : ℕ) → 0 < level_within cs k j
    → (i : ℕ) × (path : List Connection) × IsPath cs i path j × AreZeroDelay path × (length path ≡ level_within cs k j)
within_attained cs zero j some = absurd (omega arith)
within_attained cs (suc k) j some =
    let by : ComesBy (level_within cs k) j cs = comes_by (level_within cs k) j cs some in
    let level : above (level_within cs k) j cs ≡ level_within cs k by.last.source + 1 = by.level in
    let zero_delay : by.last.delay ≡ origin = zero_delay_from_test by.last by.zero_delay in
    elim (leb_tells (level_within cs k by.last.source) 0) [
      | inl none ↦
          (let bound : level_within cs k by.last.source ≤ 0 = none.1 in
          (by.last.source, by.last ∷ [], (by.contained, refl, by.target), (zero_delay, tt), omega arith))
      | inr some ↦
          (let front : (i : ℕ) × (path : List Connection) × IsPath cs i path by.last.source × AreZeroDelay path × (length path ≡ level_within cs k by.last.source)
          = within_attained cs k by.last.source some.1 in (
            front.0,
            front.1 ++ by.last ∷ [],
            subst (λ m. IsPath cs front.0 (front.1 ++ by.last ∷ []) m) by.target (IsPath-snoc cs front.0 front.1 by.last front.2 by.contained),
            zero_delay-snoc front.1 by.last front.3 zero_delay,
            omega (arith, length-append front.1 (by.last ∷ []), front.4),
          ))
    ]

-- ---- ranks

counted : (a b c n i j x y : ℕ) → (b < c) ⊎ ((b ≡ c) × (i < j)) → x ≤ y
    → (if nat_lt a b || (nat_eq a b && nat_lt n i) then 1 else 0) + x ≤ (if nat_lt a c || (nat_eq a c && nat_lt n j) then 1 else 0) + y
counted a b c n i j x y earlier rest = grind (arith, nat_tests)

-- the counts go up with (level, number)
pub before_by-le_later : (f : ℕ → ℕ) (n i j : ℕ) → (f i < f j) ⊎ ((f i ≡ f j) × (i < j)) → before_by f n i ≤ before_by f n j
before_by-le_later f zero i j earlier = omega arith
before_by-le_later f (suc n) i j earlier =
    let rest : before_by f n i ≤ before_by f n j = before_by-le_later f n i j earlier in
    counted (f n) (f i) (f j) n i j (before_by f n i) (before_by f n j) earlier rest

own_none : (a n x : ℕ) → (if nat_lt a a || (nat_eq a a && nat_lt n n) then 1 else 0) + x ≡ x
own_none a n x = grind (arith, nat_tests)

own_some : (a b n j x y : ℕ) → (a < b) ⊎ ((a ≡ b) × (n < j)) → x ≤ y
    → x < (if nat_lt a b || (nat_eq a b && nat_lt n j) then 1 else 0) + y
own_some a b n j x y earlier rest = grind (arith, nat_tests)

counted_less : (a b c n i j x y : ℕ) → (b < c) ⊎ ((b ≡ c) × (i < j)) → x < y
    → (if nat_lt a b || (nat_eq a b && nat_lt n i) then 1 else 0) + x < (if nat_lt a c || (nat_eq a c && nat_lt n j) then 1 else 0) + y
counted_less a b c n i j x y earlier rest = grind (arith, nat_tests)

-- a federate that is counted comes strictly before what follows it
pub before_by-lt_later : (f : ℕ → ℕ) (n i j : ℕ) → i < n → (f i < f j) ⊎ ((f i ≡ f j) × (i < j)) → before_by f n i < before_by f n j
before_by-lt_later f zero i j below earlier = absurd (omega arith)
before_by-lt_later f (suc n) i j below earlier =
    elim (eqb_tells i n) [
      | inl same ↦
          (let is : n ≡ i = sym same.1 in
          let rest : before_by f n i ≤ before_by f n j = before_by-le_later f n i j earlier in
          let none : before_by f (suc n) i ≡ before_by f n i
          = subst (λ m. (if nat_lt (f m) (f i) || (nat_eq (f m) (f i) && nat_lt m i) then 1 else 0) + before_by f n i ≡ before_by f n i) (sym is)
          (own_none (f i) i (before_by f n i)) in
          let some : before_by f n i < before_by f (suc n) j
          = subst (λ m. before_by f n i < (if nat_lt (f m) (f j) || (nat_eq (f m) (f j) && nat_lt m j) then 1 else 0) + before_by f n j) (sym is)
          (own_some (f i) (f j) i j (before_by f n i) (before_by f n j) earlier rest) in
          omega arith)
      | inr other ↦
          (let differ : i ≡ n → ⊥ = other.1 in
          counted_less (f n) (f i) (f j) n i j (before_by f n i) (before_by f n j) earlier
          (before_by-lt_later f n i j (omega arith) earlier))
    ]

not_all : (n x : ℕ) (t : Bool) → x < n → (if t then 1 else 0) + x < suc n
not_all n x true below = omega arith
not_all n x false below = omega arith

-- a rank is below the number of federates
pub before_by-lt : (f : ℕ → ℕ) (n i : ℕ) → i < n → before_by f n i < n
before_by-lt f zero i below = absurd (omega arith)
before_by-lt f (suc n) i below =
    elim (eqb_tells i n) [
      | inl same ↦
          (let is : n ≡ i = sym same.1 in
          let bound : before_by f n i ≤ n = before_by-le f n i in
          let none : before_by f (suc n) i ≡ before_by f n i
          = subst (λ m. (if nat_lt (f m) (f i) || (nat_eq (f m) (f i) && nat_lt m i) then 1 else 0) + before_by f n i ≡ before_by f n i) (sym is)
          (own_none (f i) i (before_by f n i)) in
          omega arith)
      | inr other ↦
          (let differ : i ≡ n → ⊥ = other.1 in
          not_all n (before_by f n i) (nat_lt (f n) (f i) || (nat_eq (f n) (f i) && nat_lt n i)) (before_by-lt f n i (omega arith)))
    ]

either : (a b i j : ℕ) → (i ≡ j → ⊥) → ((a < b) ⊎ ((a ≡ b) × (i < j))) ⊎ ((b < a) ⊎ ((b ≡ a) × (j < i)))
either a b i j differ = grind (arith, nat_tests)

pub before_by-injective : (f : ℕ → ℕ) (n i j : ℕ) → i < n → j < n → before_by f n i ≡ before_by f n j → i ≡ j
before_by-injective f n i j i_below j_below same =
    elim (eqb_tells i j) [
      | inl is ↦ is.1
      | inr other ↦
          elim (either (f i) (f j) i j other.1) [
            | inl earlier ↦ absurd (let less : before_by f n i < before_by f n j = before_by-lt_later f n i j i_below earlier in omega arith)
            | inr later ↦ absurd (let less : before_by f n j < before_by f n i = before_by-lt_later f n j i j_below later in omega arith)
          ]
    ]

pub ruleset ranks_differ = (before_by-lt, before_by-injective)
