-- Turns handed in one after the other.
use Rattle.std.proofs.Common.{◌≡◌, ℕ, zero, suc, ◌+◌, ◌*◌, ◌%◌, if◌then◌else◌, nat_eq, ◌∷◌, ◌++◌, [], List, ap, subst, sym, ◌∙◌, arith}
use Rattle.std.proofs.Math.Nat.{add-mul-mod_self_left}
use Rattle.std.proofs.lemmas.List.{append_assoc, append-nil}
use Rattle.node.specs.declared.event.Event.{Event}
use Rattle.node.specs.declared.event.Event.TheVariants.{Announce, Advance}
use Rattle.node_journal.specs.declared.slip.Slip.{Slip}
use Rattle.node_journal.specs.Slips.{slips_from}
use Rattle.node_journal.specs.Turns.{turn_event, turn_events}
use Rattle.wires_workers.specs.HandedIn.{AreHandedIn, HandedIn, none, one_more, events_of_turns}
use Rattle.wires_workers.proofs.SeveralEvents.{batch_handed_in, handed_in_then}

-- no turn
pub no_turn : (old : List Slip) (made : ℕ) → made ≡ 0 → AreHandedIn old (events_of_turns made) old
no_turn old made is = subst (λ count. AreHandedIn old (events_of_turns count) old) (sym is) none

-- events, and no turn behind them
pub and_no_turn : (old : List Slip) (events : List Event) (new : List Slip) → AreHandedIn old events new → AreHandedIn old (events ++ events_of_turns 0) new
and_no_turn old events new handed = subst (λ list. AreHandedIn old list new) (sym (append-nil events)) handed

-- after this many turns one more is handed in
pub one_more_turn : (turns : ℕ) {old share between new : List Slip} → AreHandedIn old (events_of_turns turns) share → HandedIn share Announce between → HandedIn between Advance new →
    AreHandedIn old (events_of_turns (turns + 1)) new
one_more_turn turns {old} {share} {between} {new} before announced advanced =
    let both : AreHandedIn old ((events_of_turns turns ++ Announce ∷ []) ++ Advance ∷ []) new = one_more (one_more before announced) advanced in
    let more : suc turns ≡ turns + 1 = omega arith in
    let joined : (events_of_turns turns ++ Announce ∷ []) ++ Advance ∷ [] ≡ events_of_turns (turns + 1) =
    append_assoc (events_of_turns turns) (Announce ∷ []) (Advance ∷ []) ∙ ap events_of_turns more in
    subst (λ events. AreHandedIn old events new) joined both

-- ---- events of turns that are counted one by one

-- a turn is an announcement and an advance
two_events : (k : ℕ) → (turn_event (2 * k) ≡ Announce) × (turn_event (suc (2 * k)) ≡ Advance)
two_events k =
    let even : (2 * k) % 2 ≡ 0 = ap (λ (n : ℕ). n % 2) (let e : 2 * k ≡ 0 + 2 * k = omega arith in e) ∙ add-mul-mod_self_left 0 2 k in
    let odd : suc (2 * k) % 2 ≡ 1 = ap (λ (n : ℕ). n % 2) (let e : suc (2 * k) ≡ 1 + 2 * k = omega arith in e) ∙ add-mul-mod_self_left 1 2 k in
    (ap (λ (r : ℕ). if nat_eq r 0 then Announce else Advance) even, ap (λ (r : ℕ). if nat_eq r 0 then Announce else Advance) odd)

pub turns_of_events : (turns events : ℕ) → events ≡ 2 * turns → turn_events events ≡ events_of_turns turns
turns_of_events zero events is = let empty : events ≡ 0 = omega arith in ap turn_events empty
turns_of_events (suc turns) zero is = absurd (omega arith)
turns_of_events (suc turns) (suc zero) is = absurd (omega arith)
turns_of_events (suc turns) (suc (suc events)) is =
    let before : events ≡ 2 * turns = omega arith in
    let two = two_events turns in
    let first : turn_event events ≡ Announce = ap turn_event before ∙ two.0 in
    let second : turn_event (suc events) ≡ Advance = ap (λ n. turn_event (suc n)) before ∙ two.1 in
    append_assoc (turn_events events) (turn_event events ∷ []) (turn_event (suc events) ∷ [])
    ∙ ap (λ l. l ++ turn_event events ∷ turn_event (suc events) ∷ []) (turns_of_events turns events before)
    ∙ ap (λ e. events_of_turns turns ++ e ∷ turn_event (suc events) ∷ []) first
    ∙ ap (λ e. events_of_turns turns ++ Announce ∷ e ∷ []) second

-- whole turns that were put at once
pub whole_turns : (old new : List Slip) (first events turns : ℕ) → new ≡ old ++ slips_from first (turn_events events) → events ≡ 2 * turns → AreHandedIn old (events_of_turns turns) new
whole_turns old new first events turns is whole =
    subst (λ l. AreHandedIn old l new) (turns_of_events turns events whole) (batch_handed_in old new first (turn_events events) is)

-- and one of which the advance is handed in by itself
pub turns_and_advance : (old middle new : List Slip) (first events turns more : ℕ) → middle ≡ old ++ slips_from first (turn_events events) → events ≡ suc (2 * turns) → more ≡ turns + 1 →
    HandedIn middle Advance new → AreHandedIn old (events_of_turns more) new
turns_and_advance old middle new first zero turns more is odd next advanced = absurd (omega arith)
turns_and_advance old middle new first (suc events) turns more is odd next advanced =
    let whole : events ≡ 2 * turns = omega arith in
    let announced : turn_event events ≡ Announce = ap turn_event whole ∙ (two_events turns).0 in
    let all : turn_events (suc events) ≡ events_of_turns turns ++ Announce ∷ [] =
    ap (λ l. l ++ turn_event events ∷ []) (turns_of_events turns events whole) ∙ ap (λ e. events_of_turns turns ++ e ∷ []) announced in
    let begun : AreHandedIn old (events_of_turns turns ++ Announce ∷ []) middle =
    subst (λ l. AreHandedIn old l middle) all (batch_handed_in old middle first (turn_events (suc events)) is) in
    let one : suc turns ≡ more = omega arith in
    let joined : (events_of_turns turns ++ Announce ∷ []) ++ Advance ∷ [] ≡ events_of_turns more =
    append_assoc (events_of_turns turns) (Announce ∷ []) (Advance ∷ []) ∙ ap events_of_turns one in
    subst (λ l. AreHandedIn old l new) joined (one_more begun advanced)

-- turns behind turns
events_joined : (turns more : ℕ) (all : ℕ) → all ≡ turns + more → events_of_turns all ≡ events_of_turns turns ++ events_of_turns more
events_joined turns zero all is =
    let same : all ≡ turns = omega arith in
    ap events_of_turns same ∙ sym (append-nil (events_of_turns turns))
events_joined turns (suc more) zero is = absurd (omega arith)
events_joined turns (suc more) (suc all) is =
    let before : all ≡ turns + more = omega arith in
    ap (λ l. l ++ Announce ∷ Advance ∷ []) (events_joined turns more all before)
    ∙ append_assoc (events_of_turns turns) (events_of_turns more) (Announce ∷ Advance ∷ [])

pub more_turns : (old middle new : List Slip) (turns more all : ℕ) → AreHandedIn old (events_of_turns turns) middle → AreHandedIn middle (events_of_turns more) new → all ≡ turns + more →
    AreHandedIn old (events_of_turns all) new
more_turns old middle new turns more all first behind is =
    subst (λ l. AreHandedIn old l new) (sym (events_joined turns more all is)) (handed_in_then old middle (events_of_turns turns) first behind)
