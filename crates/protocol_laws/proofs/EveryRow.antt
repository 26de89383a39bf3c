-- Where nothing is left to do, no row is missing.
use Rattle.std.proofs.Common.{◌≡◌, ℕ, zero, suc, ◌+◌, ◌*◌, ◌<◌, ◌≤◌, false, List, [], ◌∷◌, ◌++◌, length, refl, sym, ap, subst, ◌∙◌, arith, length-append, Option, None, Some, ℤ}
use Rattle.std.specs.Prelude.{slice_get, Contains}
use Rattle.std.specs.List.{list_any}
use Rattle.std.proofs.lemmas.List.{append-nil, nil_from_length}
use Rattle.std.proofs.lemmas.List.Folds.{list_any_at}
use Rattle.tag.specs.LogicalTime.{LogicalTime, place}
use Rattle.network.specs.Connection.{Connection, IsWalk}
use Rattle.network.specs.Network.{Network}
use Rattle.network.specs.Undivided.{Row, whole, part}
use Rattle.network.specs.Lawful.{IsLawful}
use Rattle.network_laws.specs.Consistent.{IsConsistent}
use Rattle.network_laws.proofs.WholeTrace.{has_every_row}
use Rattle.signal.specs.declared.signal.Signal.{Signal}
use Rattle.signal.specs.declared.signal.Signal.TheVariants.{Net, Ltc, Tag, Msg}
use Rattle.network.specs.Undone.{PendingEvent}
use Rattle.network.proofs.Lawful.{contained_is}
use Rattle.protocol.specs.Machine.{Member}
use Rattle.protocol_laws.specs.Runs.{is_message, IsQuiet}
use Rattle.protocol_laws.specs.Chains.{IsPending, undone, down, up}
use Rattle.protocol_laws.specs.Histories.{histories_of}
use Rattle.network_laws.specs.Settled.{BeginsWith}
use Rattle.protocol_laws.specs.Rows.{HasEveryRow}
use Rattle.protocol_laws.proofs.Tags as tags
use Rattle.protocol_laws.proofs.Upward.{IsOver, IsUp}
use Rattle.protocol_laws.proofs.Eligibility.{contained_at, contains_at}
use Rattle.protocol_laws.proofs.Safety.{IsMember}
use Rattle.protocol_laws.proofs.Replay.{IsReplayed}
use Rattle.protocol_laws.proofs.Prefixes.{begins_whole}

-- a chain that ends at a reactor begins at one
walk_begins : (n : Network) → IsLawful n → (k : ℕ) (path : List Connection) (j : ℕ) → j < n.reactors → IsWalk n.connections k path j → k < n.reactors
walk_begins n lawful k [] j there w = let P : ℕ → Type 0 = λ x. x < n.reactors in subst P (sym w) there
walk_begins n lawful k (c ∷ rest) j there w = let P : ℕ → Type 0 = λ x. x < n.reactors in subst P w.1 (contained_is n c lawful w.0).source

message_found : (xs : List Signal) (number : ℕ) (s : LogicalTime) (v : ℤ) → Contains xs (Msg number s v) → list_any is_message xs ≡ false → ⊥
message_found xs number s v found none =
    let some = list_any_at is_message xs found.0 (Msg number s v) found.1 (ap is_message found.2) in
    cc

-- a message on its way up is over a connection that begins at its sender
sender_is : (n : Network) (i low : ℕ) (xs : List Signal) (at number : ℕ) (s : LogicalTime) (v : ℤ) (c : Connection) → IsUp n i low xs → slice_get xs at ≡ Some (Msg number s v) → slice_get n.connections number ≡ Some c → c.source ≡ i
sender_is n i low [] at number s v c h q e = cc
sender_is n i low (Net g ∷ rest) zero number s v c h q e = cc
sender_is n i low (Net g ∷ rest) (suc at) number s v c h q e = sender_is n i low rest at number s v c h.3 q e
sender_is n i low (Ltc g ∷ rest) zero number s v c h q e = cc
sender_is n i low (Ltc g ∷ rest) (suc at) number s v c h q e = sender_is n i (place g + 1) rest at number s v c h.3 q e
sender_is n i low (Tag g ∷ rest) at number s v c h q e = absurd h
sender_is n i low (Msg d t w ∷ rest) zero number s v c h q e =
    let first : d ≡ number = cc in
    let P : Option Connection → Type 0 = λ o. IsOver n i o h.0 t in
    (subst P (ap (slice_get n.connections) first ∙ e) h.2).0
sender_is n i low (Msg d t w ∷ rest) (suc at) number s v c h q e = sender_is n i low rest at number s v c h.3 q e

-- where nothing is left to do for any federate, nothing is pending from which a chain leads to one
pub nothing_pending : (n : Network) → IsLawful n → (members : ℕ → Member) → ((i : ℕ) → IsMember n i (members i)) → ((i : ℕ) → i < n.reactors → IsQuiet (members i)) → (k j : ℕ) (s : LogicalTime) (path : List Connection) → j < n.reactors → IsPending n members k s → IsWalk n.connections k path j → ⊥
nothing_pending n lawful members kept quiet k j s path there (undone e within is) w =
    let q = quiet k (walk_begins n lawful k path j there w) in
    let P : List PendingEvent → Type 0 = λ u. Contains u e in
    let at = contained_at [] e (subst P q.undone within) in
    let none : None ≡ Some e = at.1 in
    cc
nothing_pending n lawful members kept quiet k j s path there (down number value within) w =
    message_found (members k).down number s value within (quiet k (walk_begins n lawful k path j there w)).down
nothing_pending n lawful members kept quiet k j s path there (up i number c value within e target) w =
    let at = contained_at (members i).up (Msg number s value) within in
    let from_i = sender_is n i (tags.above (members i).federate_record.completed) (members i).up at.0 number s value c (kept i).upward at.1 e in
    let P : ℕ → Type 0 = λ x. x < n.reactors in
    let sender : i < n.reactors = subst P from_i (contained_is n c lawful (contains_at n.connections number c e)).source in
    message_found (members i).up number s value within (quiet i sender).up

-- where a federate is settled up to stop, it has every row
pub every_row : (n : Network) → IsLawful n → (members : ℕ → Member) (S : ℕ → LogicalTime → Type 0) → IsConsistent n (histories_of members) S → (j : ℕ) → j < n.reactors → IsReplayed n j (members j).federate → S j n.stop → HasEveryRow n j (members j).federate.rows
every_row n L members S c j there r settled turns = rw r.rows (has_every_row n L (histories_of members) S c j there settled turns)

-- rows that begin with each other are the same
begin_each_other : (xs ys : List Row) → BeginsWith xs ys → BeginsWith ys xs → xs ≡ ys
begin_each_other xs ys a b =
    let first : length xs ≡ length ys + length a.0 = ap length a.1 ∙ length-append ys a.0 in
    let second : length ys ≡ length xs + length b.0 = ap length b.1 ∙ length-append xs b.0 in
    let none : a.0 ≡ [] = nil_from_length a.0 (omega arith) in
    a.1 ∙ (ap (λ (l : List Row). ys ++ l) none ∙ append-nil ys)

-- and after enough turns just these
pub just_these : (n : Network) → IsLawful n → (members : ℕ → Member) (S : ℕ → LogicalTime → Type 0) → IsConsistent n (histories_of members) S → (j : ℕ) → j < n.reactors → IsReplayed n j (members j).federate → S j n.stop → (turns : ℕ) → place n.stop * 64 + 64 ≤ turns → (members j).federate.rows ≡ part j (whole n turns)
just_these n L members S c j there r settled turns enough =
    begin_each_other (members j).federate.rows (part j (whole n turns)) (every_row n L members S c j there r settled turns) (begins_whole n L members S c j there r turns enough)
