-- What a federate does takes 1 from what it can still do, and 1 more where it takes a signal.
use Rattle.std.proofs.Common.{◌≡◌, ℕ, suc, ◌+◌, ◌*◌, ◌-◌, ◌≤◌, Bool, true, false, List, [], ◌∷◌, ◌++◌, length, length-append, refl, ap, arith, Option, None, Some, ℤ}
use Rattle.std.specs.Prelude.{if◌then◌else◌, nat_eq, slice_get, ◌&&◌}
use Rattle.tag.specs.LogicalTime.{LogicalTime, is_at_most, is_past, is_reached}
use Rattle.tag.proofs.Order.{same_itself}
use Rattle.network.specs.Connection.{Connection}
use Rattle.network.specs.Network.{Network}
use Rattle.network.specs.Undone.{put, first_tag}
use Rattle.signal.specs.declared.signal.Signal.{Signal}
use Rattle.signal.specs.declared.signal.Signal.TheVariants.{Net, Ltc, Tag, Msg}
use Rattle.protocol.specs.declared.refusal.Refusal.TheVariants.{Late, OldGrant, WrongSignal}
use Rattle.protocol.specs.Outcome.{Outcome, Nothing, Done, IfDone}
use Rattle.protocol.specs.Federate.{Federate, Stepped, is_told, next_event, federate_accepts, accept_message, federate_announces, federate_advances, advance_to, turn_at, row_of_turn}
use Rattle.protocol.specs.Machine.{Member, stepped}
use Rattle.world_progress.specs.Fuel.{outgoing_count, turn_worth}
use Rattle.world_progress.specs.Worth.{worth_up, worth_down, all_worth, untold, ungranted, member_worth}
use Rattle.world_progress.proofs.Sums.{unless_so}
use Rattle.world_progress.proofs.Outcomes.{refused_or}
use Rattle.world_progress.proofs.Queues.{worth-append, one_less}
use Rattle.world_progress.proofs.Sent.{turn_worth_up}

-- a federate's step, after which this is left to take
abbrev pub MadeCosts : Network → (j rows cost : ℕ) → Member → List Signal → Stepped → Type 0
MadeCosts n j rows cost m rest made = member_worth n j rows (stepped m rest made) + cost ≤ member_worth n j rows m

abbrev pub Costs : Network → (j rows cost : ℕ) → Member → List Signal → Outcome Stepped → Type 0
Costs n j rows cost m rest o = IfDone o (MadeCosts n j rows cost m rest)

untold_at_most : (b : Bool) → unless_so b 5 ≤ 5
untold_at_most true = omega arith
untold_at_most false = omega arith

-- it announces
announce_if : (n : Network) (j rows : ℕ) (m : Member) (b : Bool) → is_told m.federate.announced (next_event m.federate) ≡ b → Costs n j rows 1 m m.down (if b then Nothing else Done (record { after = record m.federate { announced = Some (next_event m.federate) }; sent = Net (next_event m.federate) ∷ [] }))
announce_if n j rows m true e = tt
announce_if n j rows m false e =
    let before : untold m.federate ≡ 5 = ap (λ (b : Bool). unless_so b 5) e in
    let after : untold (record m.federate { announced = Some (next_event m.federate) }) ≡ 0 = ap (λ (b : Bool). unless_so b 5) (same_itself (next_event m.federate)) in
    let queue = worth-append worth_up m.up (Net (next_event m.federate) ∷ []) in
    omega arith

pub announce_costs : (n : Network) (j rows : ℕ) (m : Member) → Costs n j rows 1 m m.down (federate_announces m.federate)
announce_costs n j rows m = announce_if n j rows m (is_told m.federate.announced (next_event m.federate)) refl

-- it takes a TAG, or a message
tag_costs : (n : Network) (j rows : ℕ) (m : Member) (tag : LogicalTime) (rest : List Signal) → m.down ≡ Tag tag ∷ rest → MadeCosts n j rows 2 m rest (record { after = record m.federate { granted = Some tag }; sent = [] })
tag_costs n j rows m tag rest e =
    let queue = worth-append worth_up m.up [] in
    let down : all_worth worth_down m.down ≡ 2 + all_worth worth_down rest = ap (all_worth worth_down) e in
    omega arith

put_costs : (n : Network) (j rows : ℕ) (m : Member) (slot number : ℕ) (tag : LogicalTime) (value : ℤ) (rest : List Signal) → m.down ≡ Msg number tag value ∷ rest
    → MadeCosts n j rows 2 m rest (record { after = record m.federate { undone = put (record { tag = tag; slot = slot; value = value }) m.federate.undone }; sent = [] })
put_costs n j rows m slot number tag value rest e =
    let after : Federate = record m.federate { undone = put (record { tag = tag; slot = slot; value = value }) m.federate.undone } in
    let queue = worth-append worth_up m.up [] in
    let down : all_worth worth_down m.down ≡ 7 + all_worth worth_down rest = ap (all_worth worth_down) e in
    let most = untold_at_most (is_told after.announced (next_event after)) in
    omega arith

message_costs : (n : Network) (j rows : ℕ) (m : Member) (o : Option Connection) (number : ℕ) (tag : LogicalTime) (value : ℤ) (rest : List Signal) → m.down ≡ Msg number tag value ∷ rest → Costs n j rows 2 m rest (accept_message n j m.federate o tag value)
message_costs n j rows m None number tag value rest e = tt
message_costs n j rows m (Some c) number tag value rest e =
    let P : Stepped → Type 0 = MadeCosts n j rows 2 m rest in
    refused_or P (nat_eq c.target j && is_at_most tag n.stop) WrongSignal _
    (λ mine. refused_or P (is_past m.federate.completed tag && is_past m.federate.granted tag) Late _ (λ past. put_costs n j rows m c.slot number tag value rest e))

pub take_costs : (n : Network) (j rows : ℕ) (m : Member) (signal : Signal) (rest : List Signal) → m.down ≡ signal ∷ rest → Costs n j rows 2 m rest (federate_accepts n j m.federate signal)
take_costs n j rows m (Net tag) rest e = tt
take_costs n j rows m (Ltc tag) rest e = tt
take_costs n j rows m (Tag tag) rest e =
    let P : Stepped → Type 0 = MadeCosts n j rows 2 m rest in
    refused_or P (is_at_most tag n.stop) WrongSignal _ (λ in_time. refused_or P (is_past m.federate.granted tag) OldGrant _ (λ past. tag_costs n j rows m tag rest e))
take_costs n j rows m (Msg number tag value) rest e = message_costs n j rows m (slice_get n.connections number) number tag value rest e

-- a turn's numbers
turn_numbers : (w rows l more u v g up queue sent down c : ℕ) → more ≡ suc l → suc l ≤ rows → w ≡ 9 * c + 8 → v ≤ 5 → queue ≡ up + sent → sent ≤ 9 * c + 2 →
    w * (rows - more) + (v + (g + (queue + down))) + 1 ≤ w * (rows - l) + (u + (g + (up + down)))
turn_numbers w rows l more u v g up queue sent down c grown few is most all weigh =
    let left = one_less w rows l few in
    let after : w * (rows - more) ≡ w * (rows - suc l) = ap (λ (x : ℕ). w * (rows - x)) grown in
    omega arith

-- it runs a tag
turn_costs : (n : Network) (j rows : ℕ) (m : Member) (tag : LogicalTime) → suc (length m.federate.rows) ≤ rows → MadeCosts n j rows 1 m m.down (turn_at n j m.federate tag)
turn_costs n j rows m tag more =
    let f = m.federate in
    let made = turn_at n j f tag in
    let row = length-append f.rows (row_of_turn n j f tag ∷ []) in
    let grown : length (f.rows ++ row_of_turn n j f tag ∷ []) ≡ suc (length f.rows) = omega arith in
    turn_numbers (turn_worth n j) rows (length f.rows) (length made.after.rows) (untold f) (untold made.after) (ungranted m.federate_record) (all_worth worth_up m.up)
    (all_worth worth_up (m.up ++ made.sent)) (all_worth worth_up made.sent) (all_worth worth_down m.down) (outgoing_count n j)
    grown more refl (untold_at_most (is_told made.after.announced (next_event made.after))) (worth-append worth_up m.up made.sent) (turn_worth_up n j f tag)

turn_if : (n : Network) (j rows : ℕ) (m : Member) (tag : LogicalTime) (b : Bool) → ((made : Stepped) → (if b then Done (turn_at n j m.federate tag) else Nothing) ≡ Done made → length made.after.rows ≤ rows) → Costs n j rows 1 m m.down (if b then Done (turn_at n j m.federate tag) else Nothing)
turn_if n j rows m tag true most =
    let few = most (turn_at n j m.federate tag) refl in
    let row = length-append m.federate.rows (row_of_turn n j m.federate tag ∷ []) in
    turn_costs n j rows m tag (omega arith)
turn_if n j rows m tag false most = tt

advance_to_costs : (n : Network) (j rows : ℕ) (m : Member) (o : Option LogicalTime) → ((made : Stepped) → advance_to n j m.federate o ≡ Done made → length made.after.rows ≤ rows) → Costs n j rows 1 m m.down (advance_to n j m.federate o)
advance_to_costs n j rows m None most = tt
advance_to_costs n j rows m (Some tag) most = turn_if n j rows m tag (is_reached m.federate.granted tag) most

-- it advances, and then has no more rows than this many
pub advance_costs : (n : Network) (j rows : ℕ) (m : Member) → ((made : Stepped) → federate_advances n j m.federate ≡ Done made → length made.after.rows ≤ rows) → Costs n j rows 1 m m.down (federate_advances n j m.federate)
advance_costs n j rows m most = advance_to_costs n j rows m (first_tag m.federate.undone) most
