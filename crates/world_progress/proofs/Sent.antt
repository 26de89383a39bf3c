-- What a step of a federate sends: how many signals, and what they are worth.
use Rattle.std.proofs.Common.{◌≡◌, ℕ, ◌+◌, ◌*◌, ◌≤◌, Bool, true, false, cond, List, [], ◌∷◌, ◌++◌, length, length-append, refl, arith, Option, None, Some, ℤ}
use Rattle.std.specs.Prelude.{if◌then◌else◌, filter, nat_eq, slice_get, ◌&&◌}
use Rattle.tag.specs.LogicalTime.{LogicalTime, sum_of, is_at_most, is_past, is_reached}
use Rattle.network.specs.Connection.{Connection}
use Rattle.network.specs.Network.{Network}
use Rattle.network.specs.Undone.{first_tag}
use Rattle.signal.specs.declared.signal.Signal.{Signal}
use Rattle.signal.specs.declared.signal.Signal.TheVariants.{Net, Ltc, Tag, Msg}
use Rattle.protocol.specs.declared.refusal.Refusal.TheVariants.{Late, OldGrant, WrongSignal}
use Rattle.protocol.specs.Outcome.{Nothing, Done, IfDone}
use Rattle.protocol.specs.Federate.{Federate, Stepped, is_told, next_event, federate_accepts, accept_message, federate_announces, federate_advances, advance_to, turn_at, effect_of, message_over, messages_from}
use Rattle.world_progress.specs.Fuel.{outgoing_count}
use Rattle.world_progress.specs.Worth.{worth_up, all_worth}
use Rattle.world_progress.proofs.Outcomes.{refused_or}
use Rattle.world_progress.proofs.Queues.{worth-append}

-- messages, at most this many
pub record AreFew (signals : List Signal) (most : ℕ) : Type 0 where
  pub few : length signals ≤ most
  pub worth : all_worth worth_up signals ≡ 9 * length signals

no_messages : AreFew [] 0
no_messages = record { few = omega arith; worth = refl }

one_if : (b : Bool) (number : ℕ) (tag : LogicalTime) (value : ℤ) → AreFew (if b then Msg number tag value ∷ [] else []) 1
one_if true number tag value = record { few = omega arith; worth = refl }
one_if false number tag value = record { few = omega arith; worth = refl }

over_one : (n : Network) (tag : LogicalTime) (number : ℕ) (c : Connection) (o : Option ℤ) → AreFew (message_over n tag number c o) 1
over_one n tag number c None = record { few = omega arith; worth = refl }
over_one n tag number c (Some value) = one_if (is_at_most (sum_of tag c.delay) n.stop) number (sum_of tag c.delay) value

-- over one more connection, and over all
over_if : (n : Network) (tag : LogicalTime) (number : ℕ) (c : Connection) (o : Option ℤ) (others : List Connection) (rest : List Signal) (b : Bool) → AreFew rest (length others) → AreFew ((if b then message_over n tag number c o else []) ++ rest) (length (cond b (c ∷ others) others))
over_if n tag number c o others rest true h =
    let first = over_one n tag number c o in
    let size = length-append (message_over n tag number c o) rest in
    let worth = worth-append worth_up (message_over n tag number c o) rest in
    record { few = omega (arith, first.few, h.few); worth = omega (arith, first.worth, h.worth) }
over_if n tag number c o others rest false h = h

over_all : (n : Network) (j : ℕ) (tag : LogicalTime) (outputs : ℕ → Option ℤ) (number : ℕ) (cs : List Connection) → AreFew (messages_from n j tag outputs number cs) (length (filter (λ c. nat_eq c.source j) cs))
over_all n j tag outputs number [] = no_messages
over_all n j tag outputs number (c ∷ rest) =
    over_if n tag number c (outputs c.port) (filter (λ x. nat_eq x.source j) rest) (messages_from n j tag outputs (number + 1) rest) (nat_eq c.source j) (over_all n j tag outputs (number + 1) rest)

-- and then an LTC
turn_length : (n : Network) (j : ℕ) (f : Federate) (tag : LogicalTime) → length (turn_at n j f tag).sent ≤ outgoing_count n j + 1
turn_length n j f tag =
    let messages = messages_from n j tag (effect_of n j f tag).outputs 0 n.connections in
    let few = over_all n j tag (effect_of n j f tag).outputs 0 n.connections in
    let size = length-append messages (Ltc tag ∷ []) in
    omega (arith, few.few)

pub turn_worth_up : (n : Network) (j : ℕ) (f : Federate) (tag : LogicalTime) → all_worth worth_up (turn_at n j f tag).sent ≤ 9 * outgoing_count n j + 2
turn_worth_up n j f tag =
    let messages = messages_from n j tag (effect_of n j f tag).outputs 0 n.connections in
    let few = over_all n j tag (effect_of n j f tag).outputs 0 n.connections in
    let worth = worth-append worth_up messages (Ltc tag ∷ []) in
    omega (arith, few.few, few.worth)

-- a federate that takes a signal sends nothing
abbrev SendsNothing : Stepped → Type 0
SendsNothing made = length made.sent ≡ 0

message_sends : (n : Network) (j : ℕ) (f : Federate) (o : Option Connection) (tag : LogicalTime) (value : ℤ) → IfDone (accept_message n j f o tag value) SendsNothing
message_sends n j f None tag value = tt
message_sends n j f (Some c) tag value =
    refused_or SendsNothing (nat_eq c.target j && is_at_most tag n.stop) WrongSignal _
    (λ mine. refused_or SendsNothing (is_past f.completed tag && is_past f.granted tag) Late _ (λ past. refl))

pub accept_sends : (n : Network) (j : ℕ) (f : Federate) (signal : Signal) → IfDone (federate_accepts n j f signal) SendsNothing
accept_sends n j f (Net tag) = tt
accept_sends n j f (Ltc tag) = tt
accept_sends n j f (Tag tag) =
    refused_or SendsNothing (is_at_most tag n.stop) WrongSignal _ (λ in_time. refused_or SendsNothing (is_past f.granted tag) OldGrant _ (λ past. refl))
accept_sends n j f (Msg number tag value) = message_sends n j f (slice_get n.connections number) tag value

-- an announcement is one signal
announce_if : (f : Federate) (b : Bool) → IfDone (if b then Nothing else Done (record { after = record f { announced = Some (next_event f) }; sent = Net (next_event f) ∷ [] })) (λ (made : Stepped). length made.sent ≡ 1)
announce_if f true = tt
announce_if f false = refl

pub announce_sends : (f : Federate) → IfDone (federate_announces f) (λ made. length made.sent ≡ 1)
announce_sends f = announce_if f (is_told f.announced (next_event f))

-- a turn is as many as it has connections at most, and one more
abbrev SendsFew : Network → ℕ → Stepped → Type 0
SendsFew n j made = length made.sent ≤ outgoing_count n j + 1

turn_if : (n : Network) (j : ℕ) (f : Federate) (tag : LogicalTime) (b : Bool) → IfDone (if b then Done (turn_at n j f tag) else Nothing) (SendsFew n j)
turn_if n j f tag true = turn_length n j f tag
turn_if n j f tag false = tt

advance_to_sends : (n : Network) (j : ℕ) (f : Federate) (o : Option LogicalTime) → IfDone (advance_to n j f o) (SendsFew n j)
advance_to_sends n j f None = tt
advance_to_sends n j f (Some tag) = turn_if n j f tag (is_reached f.granted tag)

pub advance_sends : (n : Network) (j : ℕ) (f : Federate) → IfDone (federate_advances n j f) (SendsFew n j)
advance_sends n j f = advance_to_sends n j f (first_tag f.undone)
