-- The rows of all parts are the rows of the undivided program, and after enough turns no more come.
use Rattle.std.proofs.Common.{◌≡◌, ℕ, ◌+◌, ◌*◌, ◌<◌, ◌≤◌, Bool, true, false, cond, List, [], ◌∷◌, length, refl, sym, ap, subst, arith}
use Rattle.std.specs.Prelude.{nat_eq, filter}
use Rattle.std.specs.List.{AllByRecursion}
use Rattle.std.proofs.lemmas.Bool.{eq-eqb, eqb-true, ne_eqb}
use Rattle.std.proofs.lemmas.List.Sums.{length-filter, count_by-le-length}
use Rattle.std.proofs.Math.Nat.{mul-le-mul_right}
use Rattle.tag.specs.LogicalTime.{place}
use Rattle.tag.proofs.Order.{at_most_places, finite_is_logical}
use Rattle.network.specs.Event.{Event}
use Rattle.network.specs.Connection.{Connection}
use Rattle.network.specs.Network.{Network}
use Rattle.network.specs.Lawful.{IsLawful}
use Rattle.network.specs.Undivided.{Undivided, Row, undivided_after, whole, part}
use Rattle.network_laws.specs.Settled.{IsEnough}
use Rattle.network_laws.proofs.Lists.{each_more}
use Rattle.network_laws.proofs.Keys.{low_rank}
use Rattle.network_laws.proofs.Prefix.{nothing_changes}
use Rattle.network_laws.proofs.Standing.{IsPast, IsDue, reached}
use Rattle.world_progress.specs.Fuel.{sum_below, enough_turns, rows_of_part, outgoing_count, turn_worth, fuel_of}
use Rattle.world_progress.proofs.Sums.{where_so, at_one, sum_at_most, sum_same, sum_plus, sum_of_each, sum_times, sum_of_one}

-- a row is in one part
one_longer : (row : Row) (rest : List Row) (j : ℕ) (b : Bool) → nat_eq row.reactor j ≡ b → length (cond b (row ∷ part j rest) (part j rest)) ≡ at_one row.reactor 1 j + length (part j rest)
one_longer row rest j true e =
    let here : at_one row.reactor 1 j ≡ 1 = ap (λ (b : Bool). where_so b 1) (eq-eqb j row.reactor (sym (eqb-true row.reactor j e))) in
    omega arith
one_longer row rest j false e =
    let other : at_one row.reactor 1 j ≡ 0 = ap (λ (b : Bool). where_so b 1) (ne_eqb j row.reactor (λ q. let same = eq-eqb row.reactor j (sym q) in cc)) in
    omega arith

all_parts : (count : ℕ) (rows : List Row) → AllByRecursion (λ (row : Row). row.reactor < count) rows → sum_below count (λ j. length (part j rows)) ≡ length rows
all_parts count [] h = let zeros = sum_of_each 0 count in omega arith
all_parts count (row ∷ rest) h =
    let each = sum_same count (λ j. length (part j (row ∷ rest))) (λ j. at_one row.reactor 1 j + length (part j rest)) (λ j l. one_longer row rest j (nat_eq row.reactor j) refl) in
    let split = sum_plus count (at_one row.reactor 1) (λ j. length (part j rest)) in
    let one = sum_of_one row.reactor 1 count h.0 in
    let more = all_parts count rest h.1 in
    omega arith

pub parts_of_whole : (n : Network) (turns : ℕ) → IsLawful n → sum_below n.reactors (λ j. length (part j (whole n turns))) ≡ length (whole n turns)
parts_of_whole n turns lawful =
    let r = reached n lawful turns in
    all_parts n.reactors (whole n turns) (each_more (IsPast n r.bound) (λ (row : Row). row.reactor < n.reactors) (λ row past. past.reactor) (whole n turns) r.standing.rows)

pub parts_in_the_end : (n : Network) → IsLawful n → sum_below n.reactors (rows_of_part n) ≡ length (whole n (enough_turns n))
parts_in_the_end n lawful = parts_of_whole n (enough_turns n) lawful

-- nothing is pending once all turns up to stop are past
none_due : (n : Network) (bound : ℕ) (es : List Event) → IsLawful n → place n.stop * 64 + 64 ≤ bound → AllByRecursion (IsDue n bound) es → es ≡ []
none_due n bound [] lawful enough due = refl
none_due n bound (e ∷ rest) lawful enough due =
    let sound = due.0.sound in
    let late = due.0.due in
    let rank = low_rank n lawful e.reactor sound.reactor in
    let in_time = at_most_places e.tag n.stop (finite_is_logical e.tag sound.tag) (finite_is_logical n.stop lawful.stop) sound.in_time in
    absurd (omega arith)

pub no_more_rows : (n : Network) (turns : ℕ) → IsLawful n → IsEnough n.stop turns → whole n turns ≡ whole n (enough_turns n)
no_more_rows n turns lawful enough =
    let r = reached n lawful (enough_turns n) in
    let low = r.enough in
    let none = none_due n r.bound (undivided_after n (enough_turns n)).pending lawful (omega arith) r.standing.pending in
    ap (λ (u : Undivided). u.rows) (nothing_changes n (enough_turns n) turns enough none)

-- by all rows and all connections
few_pass : (p : Connection → Bool) (cs : List Connection) → length (filter p cs) ≤ length cs
few_pass p cs =
    let same = length-filter p cs in
    let less = count_by-le-length p cs in
    omega arith

turn_at_most : (n : Network) (j : ℕ) → turn_worth n j ≤ 9 * length n.connections + 8
turn_at_most n j = let own : outgoing_count n j ≤ length n.connections = few_pass (λ c. nat_eq c.source j) n.connections in omega arith

all_at_most : (w count : ℕ) (own rows : ℕ → ℕ) → ((j : ℕ) → own j ≤ w) → sum_below count (λ j. own j * rows j) ≤ w * sum_below count rows
all_at_most w count own rows h =
    let each = sum_at_most count (λ j. own j * rows j) (λ j. w * rows j) (λ j l. mul-le-mul_right (rows j) (h j)) in
    let product = sum_times w count rows in
    omega arith

and_more : (a b c : ℕ) → a ≤ b → a + c ≤ b + c
and_more a b c h = omega arith

pub fuel_at_most : (n : Network) → IsLawful n → fuel_of n ≤ (9 * length n.connections + 8) * length (whole n (enough_turns n)) + 7 * n.reactors
fuel_at_most n lawful =
    let turns : ℕ = sum_below n.reactors (λ j. turn_worth n j * rows_of_part n j) in
    let w : ℕ = 9 * length n.connections + 8 in
    let P : ℕ → Type 0 = λ x. turns ≤ w * x in
    let most = all_at_most w n.reactors (turn_worth n) (rows_of_part n) (turn_at_most n) in
    and_more turns (w * length (whole n (enough_turns n))) (7 * n.reactors) (subst P (parts_in_the_end n lawful) most)
