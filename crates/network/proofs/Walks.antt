-- What walks add to a tag or a delay, and zero-delay walks.
use Rattle.std.proofs.Common.{◌≡◌, ℕ, ◌^◌, ◌<◌, List, [], ◌∷◌, ◌++◌, length, IsTrue, refl, ap, ◌∙◌, arith}
use Rattle.std.specs.Prelude.{All, Contains}
use Rattle.std.proofs.lemmas.Bool.Decides.{nat_tests}
use Rattle.std.proofs.lemmas.List.{length-map}
use Rattle.std.proofs.lemmas.List.Elements.{All-nil, All-cons}
use Rattle.tag.specs.LogicalTime.{LogicalTime, IsLogicalTime, origin, is_at_most, sum_of}
use Rattle.tag.specs.Total.{IsConnectionDelay}
use Rattle.tag.proofs.Order.{at_most_reflexive, at_most_transitive}
use Rattle.tag.proofs.SumLaws.{sum_is_logical, sum_twice_at_least, sum_monotone_left}
use Rattle.tag.proofs.Paths.{path_cut, plain_is_logical}
use Rattle.network.specs.Connection.{Connection, IsWalk, IsPath, delays_of, then_along, total_of}

-- all delays of these connections are permitted
abbrev pub ArePlain : List Connection → Type 0
ArePlain cs = (c : Connection) → Contains cs c → IsConnectionDelay c.delay

pub walk_of_path : (cs : List Connection) (i : ℕ) (path : List Connection) (j : ℕ) → IsPath cs i path j → IsWalk cs i path j
walk_of_path cs i [] j is_path = absurd is_path
walk_of_path cs i (c ∷ rest) j is_path = is_path

-- a connection to a path
pub joined_path : (cs : List Connection) (c : Connection) → Contains cs c → (path : List Connection) (j : ℕ) → IsPath cs c.target path j → IsPath cs c.source (c ∷ path) j
joined_path cs c contained path j is_path = (contained, refl, walk_of_path cs c.target path j is_path)

-- ---- what a walk adds

pub along-snoc : (g : LogicalTime) (walk : List Connection) (c : Connection) → then_along g (walk ++ c ∷ []) ≡ sum_of (then_along g walk) c.delay
along-snoc g [] c = refl
along-snoc g (d ∷ rest) c = along-snoc (sum_of g d.delay) rest c

-- an earlier tag is no later after the same connections
pub along_monotone : (g h : LogicalTime) (walk : List Connection) → IsTrue (is_at_most g h) → IsTrue (is_at_most (then_along g walk) (then_along h walk))
along_monotone g h [] le = le
along_monotone g h (c ∷ rest) le = along_monotone (sum_of g c.delay) (sum_of h c.delay) rest (sum_monotone_left g h c.delay le)

-- hop by hop is never less than by the total
pub sum_before_along : (g d : LogicalTime) (walk : List Connection) → IsTrue (is_at_most (sum_of g (then_along d walk)) (then_along (sum_of g d) walk))
sum_before_along g d [] = at_most_reflexive (sum_of g d)
sum_before_along g d (c ∷ rest) =
    at_most_transitive (sum_of g (then_along (sum_of d c.delay) rest)) (then_along (sum_of g (sum_of d c.delay)) rest) (then_along (sum_of (sum_of g d) c.delay) rest)
    (sum_before_along g (sum_of d c.delay) rest) (along_monotone (sum_of g (sum_of d c.delay)) (sum_of (sum_of g d) c.delay) rest (sum_twice_at_least g d c.delay))

pub along_is_logical : (cs : List Connection) (i : ℕ) (walk : List Connection) (j : ℕ) (g : LogicalTime) → ArePlain cs → IsWalk cs i walk j → IsLogicalTime g → IsLogicalTime (then_along g walk)
along_is_logical cs i [] j g plain walk p = p
along_is_logical cs i (c ∷ rest) j g plain walk p =
    along_is_logical cs c.target rest j (sum_of g c.delay) plain walk.2 (sum_is_logical g c.delay p (plain_is_logical c.delay (plain c walk.0)))

delays_along : (cs : List Connection) → ArePlain cs → (i : ℕ) (walk : List Connection) (j : ℕ) → IsWalk cs i walk j → All IsConnectionDelay (delays_of walk)
delays_along cs plain i [] j walk = All-nil IsConnectionDelay
delays_along cs plain i (c ∷ rest) j walk = All-cons IsConnectionDelay c.delay (delays_of rest) (plain c walk.0) (delays_along cs plain c.target rest j walk.2)

-- a connection before a short path
pub total-cons : (cs : List Connection) → ArePlain cs → (c : Connection) → Contains cs c → (path : List Connection) (j : ℕ) → IsPath cs c.target path j
    → length path < 2 ^ 31 → total_of (c ∷ path) ≡ sum_of c.delay (total_of path)
total-cons cs plain c contained path j is_path few =
    path_cut (c.delay ∷ []) (delays_of path) (delays_along cs plain c.source (c ∷ path) j (joined_path cs c contained path j is_path))
    (omega (arith, length-map path (λ (x : Connection). x.delay)))

-- ---- zero-delay walks

-- no connection of these has a delay
abbrev pub AreZeroDelay : List Connection → Type 0
AreZeroDelay [] = Unit {0}
AreZeroDelay (c ∷ rest) = (c.delay ≡ origin) × AreZeroDelay rest

time_of_sum : (a m b k : ℕ) → sum_of (record { time = a; microstep = m }) (record { time = b; microstep = k }) ≡ origin
    → (a ≡ 0) × (m ≡ 0) × (b ≡ 0) × (k ≡ 0)
time_of_sum a m b k e =
    let time : (sum_of (record { time = a; microstep = m }) (record { time = b; microstep = k })).time ≡ 0 = ap (λ (g : LogicalTime). g.time) e in
    let microstep : (sum_of (record { time = a; microstep = m }) (record { time = b; microstep = k })).microstep ≡ 0 = ap (λ (g : LogicalTime). g.microstep) e in
    (grind (arith, nat_tests), grind (arith, nat_tests), grind (arith, nat_tests), grind (arith, nat_tests))

abbrev at_time : ℕ → ℕ → LogicalTime
at_time a m = record { time = a; microstep = m }

sum_parts : (g d : LogicalTime) → sum_of g d ≡ origin → (g ≡ origin) × (d ≡ origin)
sum_parts g d e =
    let parts : (g.time ≡ 0) × (g.microstep ≡ 0) × (d.time ≡ 0) × (d.microstep ≡ 0) = time_of_sum g.time g.microstep d.time d.microstep e in
    (ap (λ a. at_time a g.microstep) parts.0 ∙ ap (λ m. at_time 0 m) parts.1, ap (λ a. at_time a d.microstep) parts.2 ∙ ap (λ m. at_time 0 m) parts.3)

along_parts : (g : LogicalTime) (rest : List Connection) → then_along g rest ≡ origin → (g ≡ origin) × AreZeroDelay rest
along_parts g [] e = (e, tt)
along_parts g (c ∷ rest) e =
    let further : (sum_of g c.delay ≡ origin) × AreZeroDelay rest = along_parts (sum_of g c.delay) rest e in
    let both : (g ≡ origin) × (c.delay ≡ origin) = sum_parts g c.delay further.0 in
    (both.0, (both.1, further.1))

pub zero_delay_from_total : (path : List Connection) → total_of path ≡ origin → AreZeroDelay path
zero_delay_from_total [] e = tt
zero_delay_from_total (c ∷ rest) e = along_parts c.delay rest e

along_none : (rest : List Connection) → AreZeroDelay rest → then_along origin rest ≡ origin
along_none [] each = refl
along_none (c ∷ rest) each = ap (λ d. then_along (sum_of origin d) rest) each.0 ∙ along_none rest each.1

pub total_from_zero_delay : (path : List Connection) → AreZeroDelay path → total_of path ≡ origin
total_from_zero_delay [] each = refl
total_from_zero_delay (c ∷ rest) each = ap (λ d. then_along d rest) each.0 ∙ along_none rest each.1
