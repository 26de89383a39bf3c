-- What stands in the queue from the coordinator to a federate: messages, and TAGs that rise.
use Rattle.std.proofs.Common.{◌≡◌, ℕ, ◌+◌, ◌≤◌, IsTrue, List, [], ◌∷◌, ◌++◌, refl, arith, Option, None, Some}
use Rattle.std.specs.Prelude.{slice_get}
use Rattle.tag.specs.LogicalTime.{LogicalTime, IsLogicalTime, is_at_most, place}
use Rattle.network.specs.Connection.{Connection}
use Rattle.network.specs.Network.{Network}
use Rattle.signal.specs.declared.signal.Signal.{Signal}
use Rattle.signal.specs.declared.signal.Signal.TheVariants.{Net, Ltc, Tag, Msg}
use Rattle.protocol_laws.proofs.Transit.{Covers}

-- over a connection that ends at j
abbrev pub EndsAt : ℕ → Option Connection → Type 0
EndsAt j None = ⊥
EndsAt j (Some c) = c.target ≡ j

-- what may stand there for federate j: all of it from this place on, messages and TAGs later than each TAG in front
abbrev pub IsDown : Network → ℕ → ℕ → List Signal → Type 0
IsDown n j low [] = Unit {0}
IsDown n j low (Net g ∷ rest) = ⊥
IsDown n j low (Ltc g ∷ rest) = ⊥
IsDown n j low (Tag g ∷ rest) = IsLogicalTime g × (low ≤ place g) × IsTrue (is_at_most g n.stop) × IsDown n j (place g + 1) rest
IsDown n j low (Msg k g v ∷ rest) = EndsAt j (slice_get n.connections k) × IsLogicalTime g × (low ≤ place g) × IsTrue (is_at_most g n.stop) × IsDown n j low rest

-- after the last TAG
abbrev pub last_tag : ℕ → List Signal → ℕ
last_tag low [] = low
last_tag low (Net g ∷ rest) = last_tag low rest
last_tag low (Ltc g ∷ rest) = last_tag low rest
last_tag low (Tag g ∷ rest) = last_tag (place g + 1) rest
last_tag low (Msg k g v ∷ rest) = last_tag low rest

-- the tag of each message there is in transit
abbrev pub AreCovered : List LogicalTime → List Signal → Type 0
AreCovered transit [] = Unit {0}
AreCovered transit (Net g ∷ rest) = AreCovered transit rest
AreCovered transit (Ltc g ∷ rest) = AreCovered transit rest
AreCovered transit (Tag g ∷ rest) = AreCovered transit rest
AreCovered transit (Msg k g v ∷ rest) = Covers transit g × AreCovered transit rest

pub last_tag_is_later : (n : Network) (j low : ℕ) (down : List Signal) → IsDown n j low down → low ≤ last_tag low down
last_tag_is_later n j low [] h = omega arith
last_tag_is_later n j low (Net g ∷ rest) h = absurd h
last_tag_is_later n j low (Ltc g ∷ rest) h = absurd h
last_tag_is_later n j low (Tag g ∷ rest) h = let r = last_tag_is_later n j (place g + 1) rest h.3 in let a = h.1 in omega arith
last_tag_is_later n j low (Msg k g v ∷ rest) h = last_tag_is_later n j low rest h.4

pub down-append : (n : Network) (j low : ℕ) (down more : List Signal) → IsDown n j low down → IsDown n j (last_tag low down) more → IsDown n j low (down ++ more)
down-append n j low [] more h k = k
down-append n j low (Net g ∷ rest) more h k = absurd h
down-append n j low (Ltc g ∷ rest) more h k = absurd h
down-append n j low (Tag g ∷ rest) more h k = (h.0, h.1, h.2, down-append n j (place g + 1) rest more h.3 k)
down-append n j low (Msg c g v ∷ rest) more h k = (h.0, h.1, h.2, h.3, down-append n j low rest more h.4 k)

pub last_tag-append : (low : ℕ) (down more : List Signal) → last_tag low (down ++ more) ≡ last_tag (last_tag low down) more
last_tag-append low [] more = refl
last_tag-append low (Net g ∷ rest) more = last_tag-append low rest more
last_tag-append low (Ltc g ∷ rest) more = last_tag-append low rest more
last_tag-append low (Tag g ∷ rest) more = last_tag-append (place g + 1) rest more
last_tag-append low (Msg k g v ∷ rest) more = last_tag-append low rest more

pub covered-append : (transit : List LogicalTime) (down more : List Signal) → AreCovered transit down → AreCovered transit more → AreCovered transit (down ++ more)
covered-append transit [] more h k = k
covered-append transit (Net g ∷ rest) more h k = covered-append transit rest more h k
covered-append transit (Ltc g ∷ rest) more h k = covered-append transit rest more h k
covered-append transit (Tag g ∷ rest) more h k = covered-append transit rest more h k
covered-append transit (Msg c g v ∷ rest) more h k = (h.0, covered-append transit rest more h.1 k)

-- with other tags in transit that cover what these did
pub covered_in_transit : (n : Network) (j low : ℕ) (transit after : List LogicalTime) (down : List Signal) → ((g : LogicalTime) → low ≤ place g → Covers transit g → Covers after g) → IsDown n j low down → AreCovered transit down → AreCovered after down
covered_in_transit n j low transit after [] f d h = tt
covered_in_transit n j low transit after (Net g ∷ rest) f d h = absurd d
covered_in_transit n j low transit after (Ltc g ∷ rest) f d h = absurd d
covered_in_transit n j low transit after (Tag g ∷ rest) f d h =
    let a = d.1 in covered_in_transit n j (place g + 1) transit after rest (λ x l. f x (omega arith)) d.3 h
covered_in_transit n j low transit after (Msg k g v ∷ rest) f d h = (f g d.2 h.0, covered_in_transit n j low transit after rest f d.4 h.1)
