-- Levels and ranks where there is no zero-delay cycle.
use Rattle.std.proofs.Common.{◌≡◌, ℕ, ◌<◌, ◌≤◌, ◌≢◌, Bool, true, false, List, [], ◌∷◌, ◌++◌, length, map, refl, ap, sym, ◌∙◌, arith, subst, inl, inr, eqb, length-append, ◌||◌}
use Rattle.std.specs.Prelude.{All, AllPairs, Contains, IsTrue}
use Rattle.std.specs.List.{list_any}
use Rattle.std.proofs.lemmas.Bool.Decides.{nat_tests, leb_tells, Decides-eqb}
use Rattle.std.proofs.lemmas.List.{length-map}
use Rattle.std.proofs.lemmas.List.Elements.{All-nil, All-cons, All-contains}
use Rattle.std.proofs.lemmas.List.Kept.{AllPairs-cons}
use Rattle.std.proofs.lemmas.Map.Made.{IsDistinct-from_AllPairs}
use Rattle.std.proofs.lemmas.Map.Steps.{length-le_from_distinct_below}
use Rattle.tag.specs.LogicalTime.{origin}
use Rattle.network.specs.Connection.{Connection, IsPath, total_of}
use Rattle.network.proofs.Walks.{AreZeroDelay, zero_delay_from_total, total_from_zero_delay}
use Rattle.plan_paths.specs.Levels.{is_zero_delay, level_within, before_by, IsLevel}
use Rattle.plan_paths.specs.Cycles.{HasNoZeroDelayCycle}
use Rattle.plan_paths.proofs.Levels.{EndsBelow}
use Rattle.plan_paths.proofs.Paths.{zero_delay_test, zero_delay_from_test, IsPath-snoc, zero_delay-snoc, within_longest}
use Rattle.plan_paths.proofs.Paths.{within_attained, before_by-lt_later}

-- ---- a zero-delay path meets no federate twice

abbrev sources : List Connection → List ℕ
sources path = map (λ (c : Connection). c.source) path

-- the federate at a later place of a path is reached by a zero-delay path
reaches_places : (cs : List Connection) (P : ℕ → Type 0) (i : ℕ) (path : List Connection) (j : ℕ) → IsPath cs i path j → AreZeroDelay path
    → ((m : ℕ) (front : List Connection) → IsPath cs i front m → AreZeroDelay front → P m)
    → (c : Connection) (rest : List Connection) → path ≡ c ∷ rest → All P (sources rest)
reaches_places cs P i [] j is_path each reached c rest whole = absurd is_path
reaches_places cs P i (b ∷ []) j is_path each reached c rest whole =
    let same : [] ≡ rest = cc in subst (λ r. All P (sources r)) same (All-nil P)
reaches_places cs P i (b ∷ e ∷ further) j is_path each reached c rest whole =
    let same : e ∷ further ≡ rest = cc in
    let second : P e.source = reached e.source (b ∷ []) (is_path.0, is_path.1, sym (begins_at cs b.target (e ∷ further) j e further refl is_path.2)) (each.0, tt) in
    let later : All P (sources further)
    = reaches_places cs P b.target (e ∷ further) j is_path.2 each.1
    (λ m front front_is front_each. reached m (b ∷ front) (onto front m front_is) (each.0, front_each)) e further refl in
    subst (λ r. All P (sources r)) same (All-cons P e.source (sources further) second later)
  where
    begins_at : (cs : List Connection) (i : ℕ) (path : List Connection) (j : ℕ) (c : Connection) (rest : List Connection) → path ≡ c ∷ rest
        → IsPath cs i path j → c.source ≡ i
    begins_at cs i [] j c rest whole is_path = absurd is_path
    begins_at cs i (d ∷ []) j c rest whole is_path = let same : c ≡ d = cc in ap (λ (x : Connection). x.source) same ∙ is_path.1
    begins_at cs i (d ∷ f ∷ r) j c rest whole is_path = let same : c ≡ d = cc in ap (λ (x : Connection). x.source) same ∙ is_path.1

    onto : (front : List Connection) (m : ℕ) → IsPath cs b.target front m → IsPath cs i (b ∷ front) m
    onto [] m front_is = absurd front_is
    onto (f ∷ fs) m front_is = (is_path.0, is_path.1, front_is)

differ : (cs : List Connection) → HasNoZeroDelayCycle cs → (i : ℕ) (path : List Connection) (j : ℕ) → IsPath cs i path j → AreZeroDelay path
    → AllPairs (λ x y. x ≢ y) (sources path)
differ cs none i [] j is_path each = absurd is_path
differ cs none i (b ∷ []) j is_path each = AllPairs-cons (λ x y. x ≢ y) b.source [] (All-nil (λ y. b.source ≢ y)) (λ i j d i_below j_below. absurd (omega arith))
differ cs none i (b ∷ e ∷ rest) j is_path each =
    AllPairs-cons (λ x y. x ≢ y) b.source (sources (e ∷ rest))
    (reaches_places cs (λ y. b.source ≢ y) i (b ∷ e ∷ rest) j is_path each
    (λ m front front_is front_each same.
    none i front (subst (λ n. IsPath cs i front n) (sym same ∙ is_path.1) front_is) (total_from_zero_delay front front_each))
    b (e ∷ rest) refl)
    (differ cs none b.target (e ∷ rest) j is_path.2 each.1)

sources_below : (cs : List Connection) (n : ℕ) → EndsBelow n cs → (i : ℕ) (path : List Connection) (j : ℕ) → IsPath cs i path j
    → (q : ℕ) → list_any (eqb q) (sources path) ≡ true → q < n
sources_below cs n ends i [] j is_path q found = absurd is_path
sources_below cs n ends i (b ∷ []) j is_path q found =
    let bound : (b.source < n) × (b.target < n) = All-contains (λ (x : Connection). (x.source < n) × (x.target < n)) cs b ends is_path.0 in
    let below : b.source < n = bound.0 in
    first q b.source n below found
  where
    first : (q s n : ℕ) → s < n → (eqb q s || false) ≡ true → q < n
    first q s n below found = grind (arith, nat_tests)
sources_below cs n ends i (b ∷ e ∷ rest) j is_path q found =
    let bound : (b.source < n) × (b.target < n) = All-contains (λ (x : Connection). (x.source < n) × (x.target < n)) cs b ends is_path.0 in
    let below : b.source < n = bound.0 in
    either q b.source n (list_any (eqb q) (sources (e ∷ rest))) below found (sources_below cs n ends b.target (e ∷ rest) j is_path.2 q)
  where
    either : (q s n : ℕ) (t : Bool) → s < n → (eqb q s || t) ≡ true → (t ≡ true → q < n) → q < n
    either q s n true below found later = later refl
    either q s n false below found later = grind (arith, nat_tests)

-- so it has no more connections than there are federates
few_on_path : (cs : List Connection) (n : ℕ) → HasNoZeroDelayCycle cs → EndsBelow n cs
    → (i : ℕ) (path : List Connection) (j : ℕ) → IsPath cs i path j → AreZeroDelay path → length path ≤ n
few_on_path cs n none ends i path j is_path each =
    let bound : length (sources path) ≤ n
    = length-le_from_distinct_below (sources path) n (IsDistinct-from_AllPairs Decides-eqb (sources path) (differ cs none i path j is_path each))
    (sources_below cs n ends i path j is_path) in
    omega (arith, length-map path (λ (c : Connection). c.source))

-- ---- levels and ranks

pub level_is : (cs : List Connection) (n j : ℕ) → HasNoZeroDelayCycle cs → EndsBelow n cs → IsLevel cs j (level_within cs n j)
level_is cs n j none ends = record {
  attained = λ some.
      (let found : (i : ℕ) × (path : List Connection) × IsPath cs i path j × AreZeroDelay path × (length path ≡ level_within cs n j)
      = within_attained cs n j some in
      (found.0, found.1, found.2, total_from_zero_delay found.1 found.3, found.4));
  longest = λ i path is_path total.
      (let each : AreZeroDelay path = zero_delay_from_total path total in
      within_longest cs n i path j is_path each (few_on_path cs n none ends i path j is_path each));
}

level_rises : (cs : List Connection) (n : ℕ) → HasNoZeroDelayCycle cs → EndsBelow n cs
    → (c : Connection) → Contains cs c → is_zero_delay c ≡ true → level_within cs n c.source < level_within cs n c.target
level_rises cs n none ends c contained zero_delay =
    let no_delay : c.delay ≡ origin = zero_delay_from_test c zero_delay in
    elim (leb_tells (level_within cs n c.source) 0) [
      | inl low ↦
          (let bound : level_within cs n c.source ≤ 0 = low.1 in
          let one : 1 ≤ level_within cs n c.target
          = (level_is cs n c.target none ends).longest c.source (c ∷ []) (contained, refl, refl) (total_from_zero_delay (c ∷ []) (no_delay, tt)) in
          omega arith)
      | inr high ↦
          (let front : (i : ℕ) × (path : List Connection) × IsPath cs i path c.source × AreZeroDelay path × (length path ≡ level_within cs n c.source)
          = within_attained cs n c.source high.1 in
          let longer : length (front.1 ++ c ∷ []) ≤ level_within cs n c.target
          = (level_is cs n c.target none ends).longest front.0 (front.1 ++ c ∷ []) (IsPath-snoc cs front.0 front.1 c front.2 contained)
          (total_from_zero_delay (front.1 ++ c ∷ []) (zero_delay-snoc front.1 c front.3 no_delay)) in
          omega (arith, length-append front.1 (c ∷ []), front.4))
    ]

-- along a zero-delay connection
pub rank_rises : (cs : List Connection) (n : ℕ) (c : Connection) → HasNoZeroDelayCycle cs → EndsBelow n cs → Contains cs c → IsTrue (is_zero_delay c)
    → before_by (level_within cs n) n c.source < before_by (level_within cs n) n c.target
rank_rises cs n c none ends contained zero_delay =
    let here : (c.source < n) × (c.target < n) = All-contains (λ (x : Connection). (x.source < n) × (x.target < n)) cs c ends contained in
    before_by-lt_later (level_within cs n) n c.source c.target here.0 (inl (level_rises cs n none ends c contained zero_delay))

rises_along : (cs : List Connection) (n : ℕ) → HasNoZeroDelayCycle cs → EndsBelow n cs → (i : ℕ) (path : List Connection) (j : ℕ) → IsPath cs i path j → AreZeroDelay path
    → before_by (level_within cs n) n i < before_by (level_within cs n) n j
rises_along cs n none ends i [] j is_path each = absurd is_path
rises_along cs n none ends i (c ∷ []) j is_path each =
    subst (λ m. before_by (level_within cs n) n m < before_by (level_within cs n) n j) is_path.1
    (subst (λ m. before_by (level_within cs n) n c.source < before_by (level_within cs n) n m) is_path.2
    (rank_rises cs n c none ends is_path.0 (zero_delay_test c each.0)))
rises_along cs n none ends i (c ∷ b ∷ rest) j is_path each =
    let first : before_by (level_within cs n) n c.source < before_by (level_within cs n) n c.target
    = rank_rises cs n c none ends is_path.0 (zero_delay_test c each.0) in
    let further : before_by (level_within cs n) n c.target < before_by (level_within cs n) n j
    = rises_along cs n none ends c.target (b ∷ rest) j is_path.2 each.1 in
    let whole : before_by (level_within cs n) n c.source < before_by (level_within cs n) n j = omega arith in
    subst (λ m. before_by (level_within cs n) n m < before_by (level_within cs n) n j) is_path.1 whole

-- along a zero-delay path
pub path_rises : (cs : List Connection) (n i j : ℕ) (path : List Connection) → HasNoZeroDelayCycle cs → EndsBelow n cs → IsPath cs i path j → total_of path ≡ origin
    → before_by (level_within cs n) n i < before_by (level_within cs n) n j
path_rises cs n i j path none ends is_path total = rises_along cs n none ends i path j is_path (zero_delay_from_total path total)
