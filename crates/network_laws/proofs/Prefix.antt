-- Rows are only added to, and where nothing is pending nothing changes.
use Rattle.std.proofs.Common.{◌≡◌, ℕ, zero, suc, ◌+◌, ◌-◌, ◌≤◌, List, [], ◌∷◌, ◌++◌, refl, sym, ap, ◌∙◌, arith, append_assoc}
use Rattle.std.specs.Prelude.{nat_eq, Option, None, Some}
use Rattle.std.proofs.lemmas.List.{append-nil}
use Rattle.std.proofs.lemmas.List.Elements.{filter-append}
use Rattle.network.specs.Event.{Event}
use Rattle.network.specs.Network.{Network}
use Rattle.network.specs.Undivided.{Undivided, Row, first_of_turns, row_at, after_turn_of, turn_of, undivided_after, whole, part}
use Rattle.network_laws.specs.Settled.{BeginsWith}

prefix_more : {X : Type 0} (xs ys zs : List X) → BeginsWith ys xs → BeginsWith zs ys → BeginsWith zs xs
prefix_more xs ys zs p q = (p.0 ++ q.0, q.1 ∙ (ap (λ l. l ++ q.0) p.1 ∙ append_assoc xs p.0 q.0))

one_more : (n : Network) (u : Undivided) (o : Option Event) → BeginsWith (after_turn_of n u o).rows u.rows
one_more n u None = ([], sym (append-nil u.rows))
one_more n u (Some e) = (row_at n u e.reactor e.tag ∷ [], refl)

more_turns : (n : Network) (turns more : ℕ) → BeginsWith (whole n (more + turns)) (whole n turns)
more_turns n turns zero = let e : zero + turns ≡ turns = omega arith in ([], rw e (sym (append-nil (whole n turns))))
more_turns n turns (suc more) =
    let e : suc more + turns ≡ suc (more + turns) = omega arith in
    let u : Undivided = undivided_after n (more + turns) in
    let both : BeginsWith (whole n (suc (more + turns))) (whole n turns) = prefix_more (whole n turns) (whole n (more + turns)) (whole n (suc (more + turns))) (more_turns n turns more) (one_more n u (first_of_turns n u.pending)) in
    rw e both

pub whole_begins : (n : Network) (turns later : ℕ) → turns ≤ later → (rest : List Row) × (whole n later ≡ whole n turns ++ rest)
whole_begins n turns later h =
    let e : (later - turns) + turns ≡ later = omega arith in
    rw e at (more_turns n turns (later - turns))

pub part_begins : (n : Network) (reactor turns later : ℕ) → turns ≤ later → (rest : List Row) × (part reactor (whole n later) ≡ part reactor (whole n turns) ++ rest)
part_begins n reactor turns later h =
    let w = whole_begins n turns later h in
    (part reactor w.0, ap (part reactor) w.1 ∙ filter-append (λ row. nat_eq row.reactor reactor) (whole n turns) w.0)

pub none_first : (n : Network) (u : Undivided) → u.pending ≡ [] → turn_of n u ≡ u
none_first n u h = let e : first_of_turns n u.pending ≡ None = ap (first_of_turns n) h in ap (after_turn_of n u) e

quiet_turns : (n : Network) (turns more : ℕ) → (undivided_after n turns).pending ≡ [] → undivided_after n (more + turns) ≡ undivided_after n turns
quiet_turns n turns zero h = let e : zero + turns ≡ turns = omega arith in ap (undivided_after n) e
quiet_turns n turns (suc more) h =
    let e : suc more + turns ≡ suc (more + turns) = omega arith in
    let same = quiet_turns n turns more h in
    ap (undivided_after n) e ∙ (ap (turn_of n) same ∙ none_first n (undivided_after n turns) h)

pub nothing_changes : (n : Network) (turns later : ℕ) → turns ≤ later → (undivided_after n turns).pending ≡ [] → undivided_after n later ≡ undivided_after n turns
nothing_changes n turns later b h =
    let e : (later - turns) + turns ≡ later = omega arith in
    ap (undivided_after n) (sym e) ∙ quiet_turns n turns (later - turns) h
