-- What is pending, one by one: it is in range, and clear of what is completed.
use Rattle.std.proofs.Common.{◌≡◌, ℕ, zero, suc, ◌+◌, IsTrue, List, [], ◌∷◌, refl, sym, subst, Option, None, Some, ℤ}
use Rattle.std.specs.Prelude.{slice_get}
use Rattle.tag.specs.LogicalTime.{LogicalTime, IsLogicalTime, place, is_past}
use Rattle.tag.proofs.SumLaws.{sum_is_logical}
use Rattle.tag.proofs.Paths.{plain_is_logical}
use Rattle.network.specs.Connection.{Connection, then_along, IsWalk}
use Rattle.network.specs.Network.{Network}
use Rattle.network.specs.Lawful.{IsLawful}
use Rattle.network.specs.Tables.{Table, IsAtMostEveryPath}
use Rattle.signal.specs.declared.signal.Signal.{Signal}
use Rattle.signal.specs.declared.signal.Signal.TheVariants.{Net, Ltc, Tag, Msg}
use Rattle.network.specs.Undone.{PendingEvent}
use Rattle.network.proofs.Lawful.{contained_is}
use Rattle.protocol.specs.Grant.{Rule, IsSafeRule}
use Rattle.protocol.specs.Machine.{Member, Move, after_moves}
use Rattle.protocol_laws.specs.Chains.{IsPending, undone, down, up}
use Rattle.protocol_laws.proofs.Tags.{above, to_past}
use Rattle.protocol_laws.proofs.Upward.{IsOver, IsUp, source_at_least}
use Rattle.protocol_laws.proofs.Downward.{IsDown}
use Rattle.protocol_laws.proofs.StillUndone.{IsUndone}
use Rattle.protocol_laws.proofs.Eligibility.{contained_at, contains_at}
use Rattle.protocol_laws.proofs.Safety.{IsSound, moves_sound}
use Rattle.protocol_laws.proofs.Chains.{IsClear, along_is_logical}
use Rattle.protocol_laws.proofs.Clear.{AreClear, IsClearOver, AreUpClear, AreDownClear, completed_of}
use Rattle.protocol_laws.proofs.ClearRuns.{AllClear, moves_clear}

held_at : (n : Network) (completed : ℕ → Option LogicalTime) (k low : ℕ) (u : List PendingEvent) (at : ℕ) (e : PendingEvent) → AreClear n completed k u → IsUndone n.stop low u → slice_get u at ≡ Some e → IsClear n completed k e.tag × IsLogicalTime e.tag
held_at n completed k low [] at e a h q = cc
held_at n completed k low (x ∷ rest) zero e a h q = let same : x ≡ e = cc in let P : PendingEvent → Type 0 = λ y. IsClear n completed k y.tag × IsLogicalTime y.tag in subst P same (a.0, h.0)
held_at n completed k low (x ∷ rest) (suc at) e a h q = held_at n completed k (place x.tag) rest at e a.1 h.3 q

down_at : (n : Network) (completed : ℕ → Option LogicalTime) (j low : ℕ) (xs : List Signal) (at c : ℕ) (s : LogicalTime) (v : ℤ) → AreDownClear n completed j xs → IsDown n j low xs → slice_get xs at ≡ Some (Msg c s v) → IsClear n completed j s × IsLogicalTime s
down_at n completed j low [] at c s v a h q = cc
down_at n completed j low (Net g ∷ rest) at c s v a h q = absurd h
down_at n completed j low (Ltc g ∷ rest) at c s v a h q = absurd h
down_at n completed j low (Tag g ∷ rest) zero c s v a h q = cc
down_at n completed j low (Tag g ∷ rest) (suc at) c s v a h q = down_at n completed j (place g + 1) rest at c s v a h.3 q
down_at n completed j low (Msg d t w ∷ rest) zero c s v a h q = let same : t ≡ s = cc in let P : LogicalTime → Type 0 = λ y. IsClear n completed j y × IsLogicalTime y in subst P same (a.0, h.1)
down_at n completed j low (Msg d t w ∷ rest) (suc at) c s v a h q = down_at n completed j low rest at c s v a.1 h.4 q

over_logical : (n : Network) (i number : ℕ) (source s : LogicalTime) (o : Option Connection) → IsLawful n → slice_get n.connections number ≡ o → IsOver n i o source s → IsLogicalTime source → IsLogicalTime s
over_logical n i number source s None lawful e over p = absurd over
over_logical n i number source s (Some c) lawful e over p =
    let P : LogicalTime → Type 0 = λ y. IsLogicalTime y in
    subst P (sym over.1) (sum_is_logical source c.delay p (plain_is_logical c.delay (contained_is n c lawful (contains_at n.connections number c e)).delay))

up_at : (n : Network) (completed : ℕ → Option LogicalTime) (i low : ℕ) (xs : List Signal) (at number : ℕ) (s : LogicalTime) (v : ℤ) → IsLawful n → AreUpClear n completed xs → IsUp n i low xs → slice_get xs at ≡ Some (Msg number s v) → IsClearOver n completed (slice_get n.connections number) s × IsLogicalTime s
up_at n completed i low [] at number s v lawful a h q = cc
up_at n completed i low (Net g ∷ rest) zero number s v lawful a h q = cc
up_at n completed i low (Net g ∷ rest) (suc at) number s v lawful a h q = up_at n completed i low rest at number s v lawful a h.3 q
up_at n completed i low (Ltc g ∷ rest) zero number s v lawful a h q = cc
up_at n completed i low (Ltc g ∷ rest) (suc at) number s v lawful a h q = up_at n completed i (place g + 1) rest at number s v lawful a h.3 q
up_at n completed i low (Tag g ∷ rest) at number s v lawful a h q = absurd h
up_at n completed i low (Msg d t w ∷ rest) zero number s v lawful a h q =
    let first : d ≡ number = cc in
    let second : t ≡ s = cc in
    let is = source_at_least n i low rest h.0 h.3 h.1 in
    let logical = over_logical n i d h.0 t (slice_get n.connections d) lawful refl h.2 is.0 in
    let P : ℕ → Type 0 = λ y. IsClearOver n completed (slice_get n.connections y) t × IsLogicalTime t in
    let Q : LogicalTime → Type 0 = λ y. IsClearOver n completed (slice_get n.connections number) y × IsLogicalTime y in
    subst Q second (subst P first (a.0, logical))
up_at n completed i low (Msg d t w ∷ rest) (suc at) number s v lawful a h q = up_at n completed i low rest at number s v lawful a.1 h.3 q

pending_clear : (n : Network) (table : Table) (members : ℕ → Member) (k : ℕ) (s : LogicalTime) → IsLawful n → IsSound n table members → AllClear n members → IsPending n members k s → IsClear n (completed_of members) k s × IsLogicalTime s
pending_clear n table members k s lawful sound clear (undone e within is) =
    let at = contained_at (members k).federate.undone e within in
    let P : LogicalTime → Type 0 = λ y. IsClear n (completed_of members) k y × IsLogicalTime y in
    subst P is (held_at n (completed_of members) k (above (members k).federate.completed) (members k).federate.undone at.0 e (clear k).held (sound.kept k).undone at.1)
pending_clear n table members k s lawful sound clear (down number value within) =
    let at = contained_at (members k).down (Msg number s value) within in
    down_at n (completed_of members) k (above (members k).federate.granted) (members k).down at.0 number s value (clear k).downward (sound.kept k).downward at.1
pending_clear n table members k s lawful sound clear (up i number c value within e target) =
    let at = contained_at (members i).up (Msg number s value) within in
    let is = up_at n (completed_of members) i (above (members i).federate_record.completed) (members i).up at.0 number s value lawful (clear i).upward (sound.kept i).upward at.1 in
    let P : Option Connection → Type 0 = λ o. IsClearOver n (completed_of members) o s in
    let Q : ℕ → Type 0 = λ y. IsClear n (completed_of members) y s in
    (subst Q target (subst P e is.0), is.1)

pub completes_nothing_early : (n : Network) (table : Table) (rules : ℕ → Rule) → IsLawful n → IsAtMostEveryPath n table → ((k : ℕ) → IsSafeRule n table (rules k)) → (moves : List Move) (k j : ℕ) (s : LogicalTime) (path : List Connection) → IsPending n (after_moves n rules moves) k s → IsWalk n.connections k path j → IsTrue (is_past (after_moves n rules moves j).federate.completed (then_along s path))
completes_nothing_early n table rules lawful facts safe moves k j s path pending w =
    let sound = moves_sound n table rules moves lawful facts safe in
    let is = pending_clear n table (after_moves n rules moves) k s lawful sound (moves_clear n table rules moves lawful facts safe) pending in
    to_past (after_moves n rules moves j).federate.completed (then_along s path) (sound.kept j).own_completed_tag (along_is_logical n k j s path lawful is.1 w) (is.0 j path w)
