-- Permitted delays, and totals of paths: a path of fewer than 2^32 connections may be cut anywhere.
use Rattle.std.proofs.Common.{◌≡◌, ℕ, suc, ◌+◌, ◌^◌, ◌<◌, ◌≤◌, ◌⊎◌, ◌↔◌, List, [], ◌∷◌, ◌++◌, length, refl, sym, ap, ◌∙◌, subst, inl, inr, arith, length-append, All}
use Rattle.std.proofs.lemmas.Bool.{cases_lt}
use Rattle.std.proofs.lemmas.Bool.Decides.{nat_tests}
use Rattle.std.specs.List.{AllByRecursion, fold}
use Rattle.std.proofs.lemmas.List.{append-nil}
use Rattle.std.proofs.lemmas.List.Sums.{fold-append}
use Rattle.tag.specs.LogicalTime.{LogicalTime, IsLogicalTime, CarriesNothing, origin, one_microstep, sum_of, delay_of}
use Rattle.tag.specs.Total.{total_of, IsAfterDelay, IsConnectionDelay, no_delay, some_delay}
use Rattle.tag.proofs.Order.{origin_is_logical}
use Rattle.tag.proofs.SumLaws.{sum_is_logical, sum_twice, sum_microstep}

-- a delay of which fewer than 2^32 carry nothing
pub record IsShort (d : LogicalTime) : Type 0 where
  pub logical : IsLogicalTime d
  pub short : d.microstep ≤ 1

origin_is_short : IsShort origin
origin_is_short = record { logical = origin_is_logical; short = omega arith }

delay_of_is_short : (time : ℕ) → time < 2 ^ 62 → IsShort (delay_of time)
delay_of_is_short time h = record {
  logical = record { time = grind (arith, nat_tests); microstep = grind (arith, nat_tests); forever_alone = grind (arith, nat_tests) };
  short = grind (arith, nat_tests);
}

plain_is_short : (d : LogicalTime) → IsConnectionDelay d → IsShort d
plain_is_short d no_delay = origin_is_short
plain_is_short d (some_delay w) = let P : LogicalTime → Type 0 = λ x. IsShort x in subst P (sym w.2) (delay_of_is_short w.0 w.1)

pub plain_is_logical : (d : LogicalTime) → IsConnectionDelay d → IsLogicalTime d
plain_is_logical d p = (plain_is_short d p).logical

pub plain_microstep : (d : LogicalTime) → IsConnectionDelay d → d.microstep ≤ 1
plain_microstep d p = (plain_is_short d p).short

delay_of_is_some : (time : ℕ) → delay_of time ≡ origin → ⊥
delay_of_is_some time e = grind (arith, nat_tests)

-- the delay of an `after` isn't none
pub after_is_some : (d : LogicalTime) → IsAfterDelay d → d ≡ origin → ⊥
after_is_some d w e = delay_of_is_some w.0 (sym w.2 ∙ e)

pub none_or_some : (d : LogicalTime) → IsConnectionDelay d → (d ≡ origin) ⊎ (d ≡ origin → ⊥)
none_or_some d no_delay = inl refl
none_or_some d (some_delay w) = inr (λ e. after_is_some d w e)

carries_nothing : (g d : LogicalTime) → g.microstep + d.microstep < 2 ^ 32 → CarriesNothing g d
carries_nothing g d h = grind (arith, nat_tests)

sum_origin : (g : LogicalTime) → IsLogicalTime g → sum_of g origin ≡ g
sum_origin g p = grind (arith, nat_tests)

origin_sum : (d : LogicalTime) → IsLogicalTime d → sum_of origin d ≡ d
origin_sum d p = grind (arith, nat_tests)

fold_is_logical : (g : LogicalTime) (ds : List LogicalTime) → IsLogicalTime g → AllByRecursion IsShort ds → IsLogicalTime (fold sum_of g ds)
fold_is_logical g [] p a = p
fold_is_logical g (d ∷ ds) p a = fold_is_logical (sum_of g d) ds (sum_is_logical g d p a.0.logical) a.1

fold_microstep : (g : LogicalTime) (ds : List LogicalTime) → AllByRecursion IsShort ds → (fold sum_of g ds).microstep ≤ g.microstep + length ds
fold_microstep g [] a = omega arith
fold_microstep g (d ∷ ds) a = omega (arith, fold_microstep (sum_of g d) ds a.1, sum_microstep g d, a.0.short)

-- what comes after a sum is what comes after its second part
fold_of_sum : (d e : LogicalTime) (es : List LogicalTime) → AllByRecursion IsShort es → d.microstep + e.microstep + length es < 2 ^ 32 → fold sum_of (sum_of d e) es ≡ sum_of d (fold sum_of e es)
fold_of_sum d e [] a h = refl
fold_of_sum d e (x ∷ xs) a h =
    let apart : sum_of (sum_of d e) x ≡ sum_of d (sum_of e x) = sum_twice d e x (carries_nothing d e (omega arith)) in
    let rest = fold_of_sum d (sum_of e x) xs a.1 (omega (arith, sum_microstep e x, a.0.short)) in
    ap (λ g. fold sum_of g xs) apart ∙ rest

total_is_logical : (ds : List LogicalTime) → AllByRecursion IsShort ds → IsLogicalTime (total_of ds)
total_is_logical [] a = origin_is_short.logical
total_is_logical (d ∷ ds) a = fold_is_logical d ds a.0.logical a.1

total_cut : (front back : List LogicalTime) → AllByRecursion IsShort front → AllByRecursion IsShort back → length front + length back < 2 ^ 32 → total_of (front ++ back) ≡ sum_of (total_of front) (total_of back)
total_cut [] back a b h = sym (origin_sum (total_of back) (total_is_logical back b))
total_cut (d ∷ ds) [] a b h =
    ap (fold sum_of d) (append-nil ds) ∙ sym (sum_origin (fold sum_of d ds) (fold_is_logical d ds a.0.logical a.1))
total_cut (d ∷ ds) (e ∷ es) a b h =
    fold-append sum_of d ds (e ∷ es) ∙ fold_of_sum (fold sum_of d ds) e es b.1 (omega (arith, fold_microstep d ds a.1, a.0.short, b.0.short))

shorts_from_all : (ds : List LogicalTime) → All IsConnectionDelay ds → AllByRecursion IsShort ds
shorts_from_all [] a = tt
shorts_from_all (d ∷ ds) a =
    (plain_is_short d (a 0 d (omega arith)), shorts_from_all ds (λ k x h. a (suc k) x (omega arith)))

shorts_apart : (front back : List LogicalTime) → AllByRecursion IsShort (front ++ back) → AllByRecursion IsShort front × AllByRecursion IsShort back
shorts_apart [] back a = (tt, a)
shorts_apart (d ∷ ds) back a = let rest = shorts_apart ds back a.1 in ((a.0, rest.0), rest.1)

pub path_cut : (front back : List LogicalTime) → All IsConnectionDelay (front ++ back) → length (front ++ back) < 2 ^ 32 → total_of (front ++ back) ≡ sum_of (total_of front) (total_of back)
path_cut front back a h =
    let shorts = shorts_apart front back (shorts_from_all (front ++ back) a) in
    total_cut front back shorts.0 shorts.1 (omega (arith, length-append front back))

-- a path's total is a delay
pub path_is_logical : (ds : List LogicalTime) → All IsConnectionDelay ds → IsLogicalTime (total_of ds)
path_is_logical ds a = total_is_logical ds (shorts_from_all ds a)

after_delay : (time : ℕ) → time < 2 ^ 62 → (delay_of time ≡ one_microstep) ⊎ ((0 < (delay_of time).time) × ((delay_of time).time < 2 ^ 62) × ((delay_of time).microstep ≡ 0))
after_delay time h = elim (cases_lt 0 time) [
  | inl p ↦ inr (grind (arith, nat_tests), grind (arith, nat_tests), grind (arith, nat_tests))
  | inr p ↦ inl (grind (arith, nat_tests))
]

-- permitted delays by time and microstep
pub plain_delays : (d : LogicalTime) → IsConnectionDelay d ↔ ((d ≡ origin) ⊎ ((d ≡ one_microstep) ⊎ ((0 < d.time) × (d.time < 2 ^ 62) × (d.microstep ≡ 0))))
plain_delays d = (there d, back)
  where
    there : (x : LogicalTime) → IsConnectionDelay x → (x ≡ origin) ⊎ ((x ≡ one_microstep) ⊎ ((0 < x.time) × (x.time < 2 ^ 62) × (x.microstep ≡ 0)))
    there x no_delay = inl refl
    there x (some_delay w) =
        let P : LogicalTime → Type 0 = λ y. (y ≡ one_microstep) ⊎ ((0 < y.time) × (y.time < 2 ^ 62) × (y.microstep ≡ 0)) in
        inr (subst P (sym w.2) (after_delay w.0 w.1))

    back : (d ≡ origin) ⊎ ((d ≡ one_microstep) ⊎ ((0 < d.time) × (d.time < 2 ^ 62) × (d.microstep ≡ 0))) → IsConnectionDelay d
    back (inl e) = let P : LogicalTime → Type 0 = λ y. IsConnectionDelay y in subst P (sym e) no_delay
    back (inr (inl e)) = some_delay (0, omega arith, e)
    back (inr (inr h)) = some_delay (d.time, h.1, grind (arith, nat_tests))
