-- Where the histories of a run are a consistent trace, each federate's rows are a prefix of its part of the undivided program's.
use Rattle.std.proofs.Common.{◌≡◌, ℕ, ◌+◌, ◌*◌, ◌<◌, ◌≤◌, Bool, cond, List, [], ◌∷◌, ◌++◌, refl, ap, subst, ◌∙◌, arith}
use Rattle.std.specs.List.{AllByRecursion}
use Rattle.tag.specs.LogicalTime.{LogicalTime, place}
use Rattle.tag.proofs.Order.{at_most_places, at_most_reflexive, finite_is_logical}
use Rattle.network.specs.Network.{Network}
use Rattle.network.specs.Undivided.{whole, part}
use Rattle.network.specs.Lawful.{IsLawful}
use Rattle.network_laws.specs.History.{Turn, rows_of, up_to}
use Rattle.network_laws.specs.Consistent.{IsCalledFor, IsConsistent}
use Rattle.network_laws.proofs.Lists.{each}
use Rattle.network_laws.proofs.WholeTrace.{rows_are_a_prefix}
use Rattle.protocol.specs.Machine.{Member}
use Rattle.protocol_laws.specs.Histories.{histories_of}
use Rattle.network_laws.specs.Settled.{BeginsWith}
use Rattle.protocol_laws.proofs.Replay.{IsReplayed}

-- the newest turn is settled, and it has all of the history up to it
begins_by : (n : Network) → IsLawful n → (T : ℕ → List Turn) (S : ℕ → LogicalTime → Type 0) → IsConsistent n T S → (j : ℕ) → j < n.reactors → (h : List Turn) → T j ≡ h → (turns : ℕ) → place n.stop * 64 + 64 ≤ turns → BeginsWith (part j (whole n turns)) (rows_of n j h)
begins_by n L T S c j there [] e turns enough = (part j (whole n turns), refl)
begins_by n L T S c j there (x ∷ xs) e turns enough =
    let Called : List Turn → Type 0 = λ h. AllByRecursion (IsCalledFor n T j) h in
    let Done : List Turn → Type 0 = λ h. AllByRecursion (λ turn. S j turn.tag) h in
    let called = subst Called e (each (IsCalledFor n T j) (T j) (c.called_for j there)) in
    let settled = subst Done e (each (λ turn. S j turn.tag) (T j) (c.settled j there)) in
    let here : IsCalledFor n T j x = called.0 in
    let low : place x.tag ≤ place n.stop = at_most_places _ _ (finite_is_logical _ here.place.finite) (finite_is_logical _ L.stop) here.place.in_time in
    let begins = rows_are_a_prefix n L T S c j x.tag turns here.place settled.0 (omega arith) in
    let same : up_to x.tag (T j) ≡ x ∷ xs = ap (up_to x.tag) e ∙ ap (λ (b : Bool). cond b (x ∷ xs) (up_to x.tag xs)) (at_most_reflexive x.tag) in
    (begins.0, begins.1 ∙ ap (λ (h : List Turn). rows_of n j h ++ begins.0) same)

pub begins_whole : (n : Network) → IsLawful n → (members : ℕ → Member) (S : ℕ → LogicalTime → Type 0) → IsConsistent n (histories_of members) S → (j : ℕ) → j < n.reactors → IsReplayed n j (members j).federate → (turns : ℕ) → place n.stop * 64 + 64 ≤ turns → BeginsWith (part j (whole n turns)) (members j).federate.rows
begins_whole n L members S c j there r turns enough =
    rw r.rows (begins_by n L (histories_of members) S c j there (histories_of members j) refl turns enough)
