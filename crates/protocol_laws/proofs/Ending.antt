-- What is left where a next tag is FOREVER: nothing to do.
use Rattle.std.proofs.Common.{◌≡◌, ℕ, ◌+◌, ◌≤◌, true, false, List, [], ◌∷◌, refl, ap, subst, ◌∙◌, arith, Some}
use Rattle.std.specs.List.{list_any}
use Rattle.tag.specs.LogicalTime.{LogicalTime, is_at_most, forever, place}
use Rattle.tag.proofs.Order.{at_most_places, finite_is_logical, place_of_finite, place_of_forever, top}
use Rattle.network.specs.Network.{Network}
use Rattle.network.specs.Lawful.{IsLawful}
use Rattle.network.specs.Tables.{Table, IsAtMostEveryPath}
use Rattle.signal.specs.declared.signal.Signal.{Signal}
use Rattle.signal.specs.declared.signal.Signal.TheVariants.{Net, Ltc, Tag, Msg}
use Rattle.network.specs.Undone.{PendingEvent}
use Rattle.protocol.specs.Grant.{Rule, IsSafeRule}
use Rattle.protocol.specs.Machine.{Member, Move, after_moves}
use Rattle.protocol_laws.specs.Runs.{is_message, IsQuiet}
use Rattle.protocol_laws.proofs.Tags.{above}
use Rattle.protocol_laws.proofs.Transit.{least_above}
use Rattle.protocol_laws.proofs.Upward.{next_ltc, IsUp, least_key, source_at_least}
use Rattle.protocol_laws.proofs.Downward.{IsDown, AreCovered}
use Rattle.protocol_laws.proofs.StillUndone.{IsUndone, first_place}
use Rattle.protocol_laws.proofs.Kept.{IsKept}
use Rattle.protocol_laws.proofs.Safety.{moves_sound}

-- the turn of a message isn't later than stop
source_in_time : (n : Network) (i low : ℕ) (up : List Signal) (s : LogicalTime) → IsUp n i low up → next_ltc up ≡ Some s → is_at_most s n.stop ≡ true
source_in_time n i low [] s h e = cc
source_in_time n i low (Net g ∷ rest) s h e = cc
source_in_time n i low (Ltc c ∷ rest) s h e = let same : c ≡ s = cc in let P : LogicalTime → Type 0 = λ x. is_at_most x n.stop ≡ true in subst P same h.2
source_in_time n i low (Tag g ∷ rest) s h e = absurd h
source_in_time n i low (Msg k g v ∷ rest) s h e = source_in_time n i low rest s h.3 e

no_message_up : (n : Network) (i low : ℕ) (up : List Signal) → IsLawful n → IsUp n i low up → top ≤ least_key up → list_any is_message up ≡ false
no_message_up n i low [] lawful h t = refl
no_message_up n i low (Net g ∷ rest) lawful h t = no_message_up n i low rest lawful h.3 (omega arith)
no_message_up n i low (Ltc c ∷ rest) lawful h t = no_message_up n i (place c + 1) rest lawful h.3 (omega arith)
no_message_up n i low (Tag g ∷ rest) lawful h t = absurd h
no_message_up n i low (Msg k g v ∷ rest) lawful h t =
    let is = source_at_least n i low rest h.0 h.3 h.1 in
    let key = is.2 in
    let end = place_of_finite n.stop lawful.stop in
    let before = at_most_places h.0 n.stop is.0 (finite_is_logical n.stop lawful.stop) (source_in_time n i low rest h.0 h.3 h.1) in
    absurd (omega arith)

no_message_down : (n : Network) (j low : ℕ) (transit : List LogicalTime) (down : List Signal) → IsLawful n → IsDown n j low down → AreCovered transit down → top ≤ least_above 0 transit → list_any is_message down ≡ false
no_message_down n j low transit [] lawful h c t = refl
no_message_down n j low transit (Net g ∷ rest) lawful h c t = absurd h
no_message_down n j low transit (Ltc g ∷ rest) lawful h c t = absurd h
no_message_down n j low transit (Tag g ∷ rest) lawful h c t = no_message_down n j (place g + 1) transit rest lawful h.3 c t
no_message_down n j low transit (Msg k g v ∷ rest) lawful h c t =
    let here = c.0 0 (omega arith) in
    let end = place_of_finite n.stop lawful.stop in
    let before = at_most_places g n.stop h.1 (finite_is_logical n.stop lawful.stop) h.3 in
    absurd (omega arith)

nothing_undone : (n : Network) (low : ℕ) (u : List PendingEvent) → IsLawful n → IsUndone n.stop low u → top ≤ first_place u → u ≡ []
nothing_undone n low [] lawful h t = refl
nothing_undone n low (x ∷ rest) lawful h t =
    let end = place_of_finite n.stop lawful.stop in
    let before = h.2 in
    absurd (omega arith)

quiet : (n : Network) (j : ℕ) (m : Member) → IsLawful n → IsKept n j m.federate_record m.federate m.up m.down → m.federate_record.next ≡ forever → IsQuiet m
quiet n j m lawful k e =
    let at_end : place m.federate_record.next ≡ top = ap place e ∙ place_of_forever in
    let a = k.next_undone in
    let b = k.next_key in
    let c = k.next_transit in
    record {
      undone = nothing_undone n (above m.federate.completed) m.federate.undone lawful k.undone (omega arith);
      up = no_message_up n j (above m.federate_record.completed) m.up lawful k.upward (omega arith);
      down = no_message_down n j (above m.federate.granted) m.federate_record.transit m.down lawful k.downward k.covered (omega arith);
    }

-- after every list of moves
pub ends_quiet : (n : Network) (table : Table) (rules : ℕ → Rule) → IsLawful n → IsAtMostEveryPath n table → ((k : ℕ) → IsSafeRule n table (rules k)) → (moves : List Move) (j : ℕ) → (after_moves n rules moves j).federate_record.next ≡ forever → IsQuiet (after_moves n rules moves j)
ends_quiet n table rules lawful facts safe moves j e = quiet n j (after_moves n rules moves j) lawful ((moves_sound n table rules moves lawful facts safe).kept j) e
