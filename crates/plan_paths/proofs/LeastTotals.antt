-- What is defined as the least delay is the least total of all paths.
use Rattle.std.proofs.Common.{◌≡◌, ℕ, zero, suc, ◌+◌, ◌<◌, ◌≤◌, Bool, true, false, List, [], ◌∷◌, ◌++◌, length, refl, ap, sym, ◌∙◌, subst, arith, get_or, length-append, ◌-◌}
use Rattle.std.specs.Prelude.{All, Contains, IfSome, MatchOption, Option, None, Some, nat_eq, if◌then◌else◌}
use Rattle.std.specs.Option.{option_map}
use Rattle.std.proofs.lemmas.Bool.Decides.{nat_tests}
use Rattle.std.proofs.lemmas.List.Elements.{All-contains}
use Rattle.std.proofs.lemmas.Bool.{eqb-true}
use Rattle.tag.specs.LogicalTime.{LogicalTime, is_before, sum_of}
use Rattle.tag.specs.Total.{IsConnectionDelay}
use Rattle.tag.proofs.SumLaws.{sum_monotone_left}
use Rattle.network.specs.Connection.{Connection, IsWalk, IsPath, then_along, total_of, IsLeastDelay, IsUnreachable}
use Rattle.network.proofs.Walks.{ArePlain, total-cons, joined_path, along-snoc}
use Rattle.network.proofs.ShortPaths.{EndBelow, Shortened, shortened}
use Rattle.network.specs.Tables.{IsWithin}
use Rattle.network.proofs.Tables.{within_more}
use Rattle.plan_paths.specs.Least.{lesser_of, least_ending, least_into, least_within, IsTotalWithin}
use Rattle.plan_paths.proofs.Levels.{EndsBelow}
use Rattle.plan_paths.proofs.Paths.{IsPath-snoc}

-- ---- the lesser of two

-- what holds of both holds of the lesser
lesser_holds : (P : LogicalTime → Type 0) (o p : Option LogicalTime) → IfSome o P → IfSome p P → IfSome (lesser_of o p) P
lesser_holds P None p of_o of_p = of_p
lesser_holds P (Some d) None of_o of_p = of_o
lesser_holds P (Some d) (Some e) of_o of_p = either (is_before e d)
  where
    either : (b : Bool) → P (if b then e else d)
    either true = of_p
    either false = of_o

lesser_first : (o p : Option LogicalTime) (bound : LogicalTime) → IsWithin o bound → IsWithin (lesser_of o p) bound
lesser_first None p bound within = absurd within
lesser_first (Some d) None bound within = within
lesser_first (Some d) (Some e) bound within = grind (arith, nat_tests)

lesser_second : (o p : Option LogicalTime) (bound : LogicalTime) → IsWithin p bound → IsWithin (lesser_of o p) bound
lesser_second None p bound within = within
lesser_second (Some d) None bound within = absurd within
lesser_second (Some d) (Some e) bound within = grind (arith, nat_tests)

-- ---- it is the total of a path

total-snoc : (cs : List Connection) (i : ℕ) (path : List Connection) (j : ℕ) (c : Connection) → IsPath cs i path j → total_of (path ++ c ∷ []) ≡ sum_of (total_of path) c.delay
total-snoc cs i [] j c is_path = absurd is_path
total-snoc cs i (b ∷ rest) j c is_path = along-snoc b.delay rest c

ending_attained : (cs : List Connection) (most i : ℕ) (c : Connection) → Contains cs c → IfSome (least_within cs most i c.source) (IsTotalWithin cs most i c.source)
    → IfSome (least_ending (least_within cs most i) i c) (IsTotalWithin cs (suc most) i c.target)
ending_attained cs most i c contained before =
    lesser_holds (IsTotalWithin cs (suc most) i c.target) (if nat_eq c.source i then Some c.delay else None)
    (option_map (λ d. sum_of d c.delay) (least_within cs most i c.source))
    (alone (nat_eq c.source i) refl) (after (least_within cs most i c.source) before)
  where
    alone : (b : Bool) → nat_eq c.source i ≡ b → IfSome (if b then Some c.delay else None) (IsTotalWithin cs (suc most) i c.target)
    alone false e = tt
    alone true e = record { path = c ∷ []; is_path = (contained, eqb-true c.source i e, refl); total = refl; few = omega arith }

    after : (o : Option LogicalTime) → IfSome o (IsTotalWithin cs most i c.source) → IfSome (option_map (λ d. sum_of d c.delay) o) (IsTotalWithin cs (suc most) i c.target)
    after None so_far = tt
    after (Some d) so_far =
        let few : length so_far.path ≤ most = so_far.few in
        record {
          path = so_far.path ++ c ∷ [];
          is_path = IsPath-snoc cs i so_far.path c so_far.is_path contained;
          total = total-snoc cs i so_far.path c.source c so_far.is_path ∙ ap (λ x. sum_of x c.delay) so_far.total;
          few = omega (arith, length-append so_far.path (c ∷ []));
        }

into_attained : (cs : List Connection) (most i j : ℕ) (some : List Connection) → ((c : Connection) → Contains some c → Contains cs c)
    → ((m : ℕ) → IfSome (least_within cs most i m) (IsTotalWithin cs most i m))
    → IfSome (least_into (least_within cs most i) i j some) (IsTotalWithin cs (suc most) i j)
into_attained cs most i j [] each before = tt
into_attained cs most i j (c ∷ rest) each before =
    lesser_holds (IsTotalWithin cs (suc most) i j) (if nat_eq c.target j then least_ending (least_within cs most i) i c else None) (least_into (least_within cs most i) i j rest)
    (here (nat_eq c.target j) refl)
    (into_attained cs most i j rest (λ x within. each x (suc within.0, omega (arith, within.1), within.2)) before)
  where
    here : (b : Bool) → nat_eq c.target j ≡ b → IfSome (if b then least_ending (least_within cs most i) i c else None) (IsTotalWithin cs (suc most) i j)
    here false e = tt
    here true e =
        subst (λ m. IfSome (least_ending (least_within cs most i) i c) (IsTotalWithin cs (suc most) i m)) (eqb-true c.target j e)
        (ending_attained cs most i c (each c (0, omega arith, refl)) (before c.source))

pub attained : (cs : List Connection) (most i j : ℕ) → IfSome (least_within cs most i j) (IsTotalWithin cs most i j)
attained cs zero i j = tt
attained cs (suc most) i j = into_attained cs most i j cs (λ c within. within) (attained cs most i)

-- ---- and no path has less

itself : (a : ℕ) → nat_eq a a ≡ true
itself a = grind (arith, nat_tests)

into_reaches : (least : ℕ → Option LogicalTime) (i : ℕ) (bound : LogicalTime) (cs : List Connection) (c : Connection) (k : ℕ) → k < length cs → get_or cs k c ≡ c
    → IsWithin (least_ending least i c) bound → IsWithin (least_into least i c.target cs) bound
into_reaches least i bound [] c k below here within = absurd (omega arith)
into_reaches least i bound (b ∷ rest) c zero below here within =
    lesser_first (if nat_eq b.target c.target then least_ending least i b else None) (least_into least i c.target rest) bound
    (subst (λ (x : Connection). IsWithin (if nat_eq x.target c.target then least_ending least i x else None) bound) (sym here)
    (subst (λ t. IsWithin (if t then least_ending least i c else None) bound) (sym (itself c.target)) within))
into_reaches least i bound (b ∷ rest) c (suc k) below here within =
    lesser_second (if nat_eq b.target c.target then least_ending least i b else None) (least_into least i c.target rest) bound
    (into_reaches least i bound rest c k (omega arith) here within)

within_first : (cs : List Connection) (most : ℕ) (c : Connection) → Contains cs c → IsWithin (least_within cs (suc most) c.source c.target) c.delay
within_first cs most c contained =
    into_reaches (least_within cs most c.source) c.source c.delay cs c contained.0 contained.1 contained.2
    (lesser_first (if nat_eq c.source c.source then Some c.delay else None) (option_map (λ d. sum_of d c.delay) (least_within cs most c.source c.source)) c.delay
    (subst (λ t. IsWithin (if t then Some c.delay else None) c.delay) (sym (itself c.source)) (grind (arith, nat_tests))))

within_next : (cs : List Connection) (most i : ℕ) (c : Connection) (bound : LogicalTime) → Contains cs c → IsWithin (least_within cs most i c.source) bound
    → IsWithin (least_within cs (suc most) i c.target) (sum_of bound c.delay)
within_next cs most i c bound contained before =
    into_reaches (least_within cs most i) i (sum_of bound c.delay) cs c contained.0 contained.1 contained.2
    (lesser_second (if nat_eq c.source i then Some c.delay else None) (option_map (λ d. sum_of d c.delay) (least_within cs most i c.source)) (sum_of bound c.delay)
    (longer (least_within cs most i c.source) before))
  where
    longer : (o : Option LogicalTime) → IsWithin o bound → IsWithin (option_map (λ d. sum_of d c.delay) o) (sum_of bound c.delay)
    longer None within = absurd within
    longer (Some d) within = sum_monotone_left d bound c.delay within

within_along : (cs : List Connection) (most i v j : ℕ) (bound : LogicalTime) (walk : List Connection) → IsWalk cs v walk j → IsWithin (least_within cs most i v) bound
    → (all : ℕ) → all ≡ most + length walk → IsWithin (least_within cs all i j) (then_along bound walk)
within_along cs most i v j bound [] walk so_far all is =
    subst (λ m. IsWithin (least_within cs all i m) bound) walk (subst (λ k. IsWithin (least_within cs k i v) bound) (omega arith) so_far)
within_along cs most i v j bound (c ∷ rest) walk so_far all is =
    within_along cs (suc most) i c.target j (sum_of bound c.delay) rest walk.2
    (within_next cs most i c bound walk.0 (subst (λ m. IsWithin (least_within cs most i m) bound) (sym walk.1) so_far)) all (omega arith)

-- of a path of at most this many connections
within_short : (cs : List Connection) (most i : ℕ) (path : List Connection) (j : ℕ) → IsPath cs i path j → length path ≤ most → IsWithin (least_within cs most i j) (total_of path)
within_short cs most i [] j is_path few = absurd is_path
within_short cs most i (c ∷ rest) j is_path few =
    let first : IsWithin (least_within cs (suc (most - length (c ∷ rest))) i c.target) c.delay
    = subst (λ m. IsWithin (least_within cs (suc (most - length (c ∷ rest))) m c.target) c.delay) is_path.1 (within_first cs (most - length (c ∷ rest)) c is_path.0) in
    within_along cs (suc (most - length (c ∷ rest))) i c.target j c.delay rest is_path.2 first most (omega arith)

each_plain : (cs : List Connection) → All (λ c. IsConnectionDelay c.delay) cs → ArePlain cs
each_plain cs plain x within = All-contains (λ (c : Connection). IsConnectionDelay c.delay) cs x plain within

targets_below : (cs : List Connection) (count : ℕ) → EndsBelow count cs → EndBelow count cs
targets_below cs count ends x within =
    let below : (x.source < count) × (x.target < count) = All-contains (λ (c : Connection). (c.source < count) × (c.target < count)) cs x ends within in
    below.1

-- of any path
pub within_every : (cs : List Connection) (count i : ℕ) (path : List Connection) (j : ℕ) → EndsBelow count cs → All (λ c. IsConnectionDelay c.delay) cs → IsPath cs i path j
    → IsWithin (least_within cs count i j) (total_of path)
within_every cs count i path j ends plain is_path =
    let short : Shortened cs count i j path = shortened cs count (targets_below cs count ends) (each_plain cs plain) i path j is_path in
    within_more (least_within cs count i j) (total_of short.path) (total_of path) (within_short cs count i short.path j short.is_path short.few) short.total

pub least_is : (cs : List Connection) (count i j : ℕ) → EndsBelow count cs → All (λ c. IsConnectionDelay c.delay) cs
    → MatchOption (least_within cs count i j) (IsUnreachable cs i j) (λ delay. IsLeastDelay cs i j delay)
least_is cs count i j ends plain = by (least_within cs count i j) (attained cs count i j) (λ path is_path. within_every cs count i path j ends plain is_path)
  where
    by : (o : Option LogicalTime) → IfSome o (IsTotalWithin cs count i j) → ((path : List Connection) → IsPath cs i path j → IsWithin o (total_of path))
        → MatchOption o (IsUnreachable cs i j) (λ delay. IsLeastDelay cs i j delay)
    by None found within = within
    by (Some d) found within = record { attained = (found.path, found.is_path, found.total); least = within }

-- ---- least delays along a connection

pub within_direct : (cs : List Connection) (count : ℕ) (c : Connection) → EndsBelow count cs → All (λ c. IsConnectionDelay c.delay) cs → Contains cs c
    → IsWithin (least_within cs count c.source c.target) c.delay
within_direct cs count c ends plain contained = within_every cs count c.source (c ∷ []) c.target ends plain (contained, refl, refl)

pub within_onward : (cs : List Connection) (count j : ℕ) (c : Connection) → count ≤ 64 → EndsBelow count cs → All (λ c. IsConnectionDelay c.delay) cs → Contains cs c
    → IfSome (least_within cs count c.target j) (λ rest. IsWithin (least_within cs count c.source j) (sum_of c.delay rest))
within_onward cs count j c small ends plain contained = by (least_within cs count c.target j) (attained cs count c.target j)
  where
    by : (o : Option LogicalTime) → IfSome o (IsTotalWithin cs count c.target j) → IfSome o (λ rest. IsWithin (least_within cs count c.source j) (sum_of c.delay rest))
    by None found = tt
    by (Some d) found =
        let few : length found.path ≤ count = found.few in
        subst (λ x. IsWithin (least_within cs count c.source j) x)
        (total-cons cs (each_plain cs plain) c contained found.path j found.is_path (omega arith) ∙ ap (sum_of c.delay) found.total)
        (within_every cs count c.source (c ∷ found.path) j ends plain (joined_path cs c contained found.path j found.is_path))
