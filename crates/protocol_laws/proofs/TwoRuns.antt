-- Two runs of one network: up to a tag that a federate completed in both, it took the same turns.
use Rattle.std.proofs.Common.{◌≡◌, ℕ, ◌+◌, ◌*◌, ◌<◌, ◌⊎◌, inl, inr, Bool, true, false, cond, IsTrue, List, [], ◌∷◌, ◌++◌, refl, sym, ap, subst, ◌∙◌, arith, Option}
use Rattle.std.specs.List.{AllByRecursion}
use Rattle.std.proofs.lemmas.Bool.Decides.{nat_tests}
use Rattle.std.proofs.lemmas.List.{append-nil}
use Rattle.std.proofs.lemmas.List.Elements.{filter-append}
use Rattle.tag.specs.LogicalTime.{LogicalTime, IsFinite, is_before, is_at_most, place, is_reached}
use Rattle.tag.proofs.Order.{at_most_transitive, before_at_most, before_then, one_of_three}
use Rattle.network.specs.Network.{Network}
use Rattle.network.specs.Undivided.{Row, whole, part}
use Rattle.network.specs.Lawful.{IsLawful}
use Rattle.network_laws.specs.History.{Turn, rows_of, row_after, up_to}
use Rattle.network_laws.specs.Consistent.{IsInTime, IsCalledFor, IsConsistent}
use Rattle.network_laws.proofs.Lists.{each, each_more}
use Rattle.network_laws.proofs.Meet.{IsRising}
use Rattle.network_laws.proofs.Agree.{agree}
use Rattle.protocol.specs.Machine.{Member}
use Rattle.protocol_laws.specs.Histories.{histories_of}
use Rattle.network_laws.specs.Settled.{BeginsWith}
use Rattle.protocol_laws.specs.Rows.{rows_up_to}
use Rattle.protocol_laws.proofs.Replay.{newest_tag, IsReplayed}
use Rattle.protocol_laws.proofs.Prefixes.{begins_whole}

-- a tag up to the newest turn's is in time, and settled
settled_by : (n : Network) (T : ℕ → List Turn) (S : ℕ → LogicalTime → Type 0) → IsConsistent n T S → (j : ℕ) → j < n.reactors → (h : List Turn) → T j ≡ h → (tag : LogicalTime) → IsFinite tag → IsTrue (is_reached (newest_tag h) tag) → IsInTime n j tag × S j tag
settled_by n T S c j there [] e tag finite reached = cc
settled_by n T S c j there (x ∷ xs) e tag finite reached =
    let Called : List Turn → Type 0 = λ h. AllByRecursion (IsCalledFor n T j) h in
    let Done : List Turn → Type 0 = λ h. AllByRecursion (λ turn. S j turn.tag) h in
    let called = subst Called e (each (IsCalledFor n T j) (T j) (c.called_for j there)) in
    let settled = subst Done e (each (λ turn. S j turn.tag) (T j) (c.settled j there)) in
    let here : IsCalledFor n T j x = called.0 in
    let At : LogicalTime → Type 0 = λ t. S j t in
    let in_time = at_most_transitive tag x.tag n.stop reached here.place.in_time in (
      record { reactor = there; finite = finite; in_time = in_time },
      elim (one_of_three tag x.tag) [
        | inl before ↦ c.earlier j tag x.tag before settled.0
        | inr rest ↦ elim rest [ inl same ↦ subst At (sym same) settled.0 | inr after ↦ absurd (not_both tag x.tag reached after) ]
      ],
    )
  where
    not_both : (g h : LogicalTime) → IsTrue (is_at_most g h) → IsTrue (is_before h g) → ⊥
    not_both g h p q = grind (arith, nat_tests)

completed_is_settled : (n : Network) (members : ℕ → Member) (S : ℕ → LogicalTime → Type 0) → IsConsistent n (histories_of members) S → (j : ℕ) → j < n.reactors → IsReplayed n j (members j).federate → (tag : LogicalTime) → IsFinite tag → IsTrue (is_reached (members j).federate.completed tag) → IsInTime n j tag × S j tag
completed_is_settled n members S c j there r tag finite reached =
    let P : Option LogicalTime → Type 0 = λ o. IsTrue (is_reached o tag) in
    settled_by n (histories_of members) S c j there (histories_of members j) refl tag finite (subst P r.newest reached)

all_kept : (n : Network) (j : ℕ) (tag : LogicalTime) (h : List Turn) → AllByRecursion (λ turn. IsTrue (is_at_most turn.tag tag)) h → rows_up_to tag (rows_of n j h) ≡ rows_of n j h
all_kept n j tag [] a = refl
all_kept n j tag (x ∷ xs) a =
    let row : Row = row_after n j xs x in
    let here = ap (λ (b : Bool). cond b (row ∷ []) []) a.0 in
    let rest = all_kept n j tag xs a.1 in
    filter-append (λ (r : Row). is_at_most r.tag tag) (rows_of n j xs) (row_after n j xs x ∷ []) ∙ (λ i. rest i ++ here i)

kept_or_not : (n : Network) (j : ℕ) (tag : LogicalTime) (x : Turn) (xs : List Turn) (b : Bool) → is_at_most x.tag tag ≡ b → AllByRecursion (λ y. IsTrue (is_before y.tag x.tag)) xs → rows_of n j (up_to tag xs) ≡ rows_up_to tag (rows_of n j xs) → rows_of n j (cond b (x ∷ xs) (up_to tag xs)) ≡ rows_up_to tag (rows_of n j (x ∷ xs))
kept_or_not n j tag x xs true e below h =
    sym (all_kept n j tag (x ∷ xs) (e, each_more (λ y. IsTrue (is_before y.tag x.tag)) (λ y. IsTrue (is_at_most y.tag tag)) (λ y b. before_at_most y.tag tag (before_then y.tag x.tag tag b e)) xs below))
kept_or_not n j tag x xs false e below h =
    let row : Row = row_after n j xs x in
    let none = ap (λ (b : Bool). cond b (row ∷ []) []) e in
    h ∙ (sym (append-nil (rows_up_to tag (rows_of n j xs))) ∙ ((λ i. rows_up_to tag (rows_of n j xs) ++ sym none i) ∙ sym (filter-append (λ (r : Row). is_at_most r.tag tag) (rows_of n j xs) (row_after n j xs x ∷ []))))

-- the rows of a history up to a tag are the rows up to the tag
rows_kept : (n : Network) (j : ℕ) (tag : LogicalTime) (h : List Turn) → IsRising h → rows_of n j (up_to tag h) ≡ rows_up_to tag (rows_of n j h)
rows_kept n j tag [] r = refl
rows_kept n j tag (x ∷ xs) r = kept_or_not n j tag x xs (is_at_most x.tag tag) refl r.0 (rows_kept n j tag xs r.1)

-- the rows of both, up to a tag that both completed
pub same_rows : (n : Network) → IsLawful n → (members others : ℕ → Member) (S R : ℕ → LogicalTime → Type 0) → IsConsistent n (histories_of members) S → IsConsistent n (histories_of others) R → (j : ℕ) → j < n.reactors → IsReplayed n j (members j).federate → IsReplayed n j (others j).federate → (tag : LogicalTime) → IsFinite tag → IsTrue (is_reached (members j).federate.completed tag) → IsTrue (is_reached (others j).federate.completed tag) → rows_up_to tag (members j).federate.rows ≡ rows_up_to tag (others j).federate.rows
same_rows n L members others S R c d j there r q tag finite first second =
    let left = completed_is_settled n members S c j there r tag finite first in
    let right = completed_is_settled n others R d j there q tag finite second in
    let same = agree n L (histories_of members) (histories_of others) S R c d j tag left.0 left.1 right.1 in
    ap (rows_up_to tag) r.rows ∙ (sym (rows_kept n j tag (histories_of members j) r.rising)
    ∙ (ap (rows_of n j) same ∙ (rows_kept n j tag (histories_of others j) q.rising ∙ ap (rows_up_to tag) (sym q.rows))))

-- of two prefixes one begins the other
one_begins : (xs ys zs : List Row) → BeginsWith zs xs → BeginsWith zs ys → BeginsWith xs ys ⊎ BeginsWith ys xs
one_begins [] ys zs a b = inr (ys, refl)
one_begins (x ∷ xs) [] zs a b = inl (x ∷ xs, refl)
one_begins (x ∷ xs) (y ∷ ys) zs a b =
    let both : x ∷ (xs ++ a.0) ≡ y ∷ (ys ++ b.0) = sym a.1 ∙ b.1 in
    let first : x ≡ y = cc in
    let rest : xs ++ a.0 ≡ ys ++ b.0 = cc in
    elim (one_begins xs ys (xs ++ a.0) (a.0, refl) (b.0, rest)) [
      | inl w ↦ inl (w.0, λ i. first i ∷ w.1 i)
      | inr w ↦ inr (w.0, λ i. sym first i ∷ w.1 i)
    ]

pub runs_begin : (n : Network) → IsLawful n → (members others : ℕ → Member) (S R : ℕ → LogicalTime → Type 0) → IsConsistent n (histories_of members) S → IsConsistent n (histories_of others) R → (j : ℕ) → j < n.reactors → IsReplayed n j (members j).federate → IsReplayed n j (others j).federate → BeginsWith (members j).federate.rows (others j).federate.rows ⊎ BeginsWith (others j).federate.rows (members j).federate.rows
runs_begin n L members others S R c d j there r q =
    let turns : ℕ = place n.stop * 64 + 64 in
    one_begins (members j).federate.rows (others j).federate.rows (part j (whole n turns))
    (begins_whole n L members S c j there r turns (omega arith)) (begins_whole n L others R d j there q turns (omega arith))
