-- What stands in the queue from a federate to the coordinator: its NETs, its LTCs, and before each LTC the messages of that turn.
use Rattle.std.proofs.Common.{◌≡◌, ℕ, ◌+◌, ◌≤◌, IsTrue, List, [], ◌∷◌, ◌++◌, refl, subst, arith, min, Option, None, Some}
use Rattle.std.specs.Prelude.{slice_get, ◌||◌}
use Rattle.tag.specs.LogicalTime.{LogicalTime, IsLogicalTime, is_at_most, is_same, sum_of, forever, place}
use Rattle.tag.proofs.Order.{top}
use Rattle.network.specs.Connection.{Connection}
use Rattle.network.specs.Network.{Network}
use Rattle.signal.specs.declared.signal.Signal.{Signal}
use Rattle.signal.specs.declared.signal.Signal.TheVariants.{Net, Ltc, Tag, Msg}
use Rattle.protocol_laws.proofs.Transit.{least_above, Covers}

-- the next LTC: of messages the tag of the turn that sent them
abbrev pub next_ltc : List Signal → Option LogicalTime
next_ltc [] = None
next_ltc (Net g ∷ rest) = None
next_ltc (Ltc c ∷ rest) = Some c
next_ltc (Tag g ∷ rest) = None
next_ltc (Msg k g v ∷ rest) = next_ltc rest

-- over a connection that begins at i, from this tag, not later than stop
abbrev pub IsOver : Network → ℕ → Option Connection → LogicalTime → LogicalTime → Type 0
IsOver n i None source g = ⊥
IsOver n i (Some c) source g = (c.source ≡ i) × (g ≡ sum_of source c.delay) × IsTrue (is_at_most g n.stop)

-- after the last LTC: the place from which on all that follows is
abbrev pub last_ltc : ℕ → List Signal → ℕ
last_ltc low [] = low
last_ltc low (Net g ∷ rest) = last_ltc low rest
last_ltc low (Ltc c ∷ rest) = last_ltc (place c + 1) rest
last_ltc low (Tag g ∷ rest) = last_ltc low rest
last_ltc low (Msg k g v ∷ rest) = last_ltc low rest

-- what federate i may have there, all of it from this place on
abbrev pub IsUp : Network → ℕ → ℕ → List Signal → Type 0
IsUp n i low [] = Unit {0}
IsUp n i low (Net g ∷ rest) = IsLogicalTime g × (low ≤ place g) × IsTrue (is_at_most g n.stop || is_same g forever) × IsUp n i low rest
IsUp n i low (Ltc c ∷ rest) = IsLogicalTime c × (low ≤ place c) × IsTrue (is_at_most c n.stop) × IsUp n i (place c + 1) rest
IsUp n i low (Tag g ∷ rest) = ⊥
IsUp n i low (Msg k g v ∷ rest) = (source : LogicalTime) × (next_ltc rest ≡ Some source) × IsOver n i (slice_get n.connections k) source g × IsUp n i low rest

-- the least tag of the NETs and LTCs there
abbrev pub least_key : List Signal → ℕ
least_key [] = top
least_key (Net g ∷ rest) = min (place g) (least_key rest)
least_key (Ltc c ∷ rest) = min (place c) (least_key rest)
least_key (Tag g ∷ rest) = least_key rest
least_key (Msg k g v ∷ rest) = least_key rest

-- each NET there, or a tag in transit above all LTCs in front of it, is at most all that is undone and all behind it
abbrev pub AreNets : ℕ → List LogicalTime → ℕ → List Signal → Type 0
AreNets low transit undone [] = Unit {0}
AreNets low transit undone (Net g ∷ rest) = (min (place g) (least_above low transit) ≤ undone) × (min (place g) (least_above low transit) ≤ least_key rest) × AreNets low transit undone rest
AreNets low transit undone (Ltc c ∷ rest) = AreNets (place c + 1) transit undone rest
AreNets low transit undone (Tag g ∷ rest) = AreNets low transit undone rest
AreNets low transit undone (Msg k g v ∷ rest) = AreNets low transit undone rest

pub last_is_later : (n : Network) (i low : ℕ) (up : List Signal) → IsUp n i low up → low ≤ last_ltc low up
last_is_later n i low [] h = omega arith
last_is_later n i low (Net g ∷ rest) h = last_is_later n i low rest h.3
last_is_later n i low (Ltc c ∷ rest) h = let r = last_is_later n i (place c + 1) rest h.3 in let a = h.1 in omega arith
last_is_later n i low (Tag g ∷ rest) h = absurd h
last_is_later n i low (Msg k g v ∷ rest) h = last_is_later n i low rest h.3

pub last-append : (low : ℕ) (up more : List Signal) → last_ltc low (up ++ more) ≡ last_ltc (last_ltc low up) more
last-append low [] more = refl
last-append low (Net g ∷ rest) more = last-append low rest more
last-append low (Ltc c ∷ rest) more = last-append (place c + 1) rest more
last-append low (Tag g ∷ rest) more = last-append low rest more
last-append low (Msg k g v ∷ rest) more = last-append low rest more

pub next-append : (up more : List Signal) (s : LogicalTime) → next_ltc up ≡ Some s → next_ltc (up ++ more) ≡ Some s
next-append [] more s h = cc
next-append (Net g ∷ rest) more s h = cc
next-append (Ltc c ∷ rest) more s h = h
next-append (Tag g ∷ rest) more s h = cc
next-append (Msg k g v ∷ rest) more s h = next-append rest more s h

pub up-append : (n : Network) (i low : ℕ) (up more : List Signal) → IsUp n i low up → IsUp n i (last_ltc low up) more → IsUp n i low (up ++ more)
up-append n i low [] more h k = k
up-append n i low (Net g ∷ rest) more h k = (h.0, h.1, h.2, up-append n i low rest more h.3 k)
up-append n i low (Ltc c ∷ rest) more h k = (h.0, h.1, h.2, up-append n i (place c + 1) rest more h.3 k)
up-append n i low (Tag g ∷ rest) more h k = absurd h
up-append n i low (Msg m g v ∷ rest) more h k = (h.0, next-append rest more h.0 h.1, h.2, up-append n i low rest more h.3 k)

pub key_within : (up : List Signal) → least_key up ≤ top
key_within [] = omega arith
key_within (Net g ∷ rest) = let r = key_within rest in omega arith
key_within (Ltc c ∷ rest) = let r = key_within rest in omega arith
key_within (Tag g ∷ rest) = key_within rest
key_within (Msg k g v ∷ rest) = key_within rest

pub key-append : (up more : List Signal) → least_key (up ++ more) ≡ min (least_key up) (least_key more)
key-append [] more = let r = key_within more in omega arith
key-append (Net g ∷ rest) more = let r = key-append rest more in omega arith
key-append (Ltc c ∷ rest) more = let r = key-append rest more in omega arith
key-append (Tag g ∷ rest) more = key-append rest more
key-append (Msg k g v ∷ rest) more = key-append rest more

-- the turn of a message is at a tag that is still to be confirmed
pub source_at_least : (n : Network) (i low : ℕ) (up : List Signal) (s : LogicalTime) → IsUp n i low up → next_ltc up ≡ Some s → IsLogicalTime s × (low ≤ place s) × (least_key up ≤ place s)
source_at_least n i low [] s h e = cc
source_at_least n i low (Net g ∷ rest) s h e = cc
source_at_least n i low (Ltc c ∷ rest) s h e =
    let same : c ≡ s = cc in
    let P : LogicalTime → Type 0 = λ x. IsLogicalTime x × (low ≤ place x) × (min (place c) (least_key rest) ≤ place x) in
    subst P same (h.0, h.1, omega arith)
source_at_least n i low (Tag g ∷ rest) s h e = absurd h
source_at_least n i low (Msg k g v ∷ rest) s h e = source_at_least n i low rest s h.3 e

-- with more behind it, none of it before what was undone
pub nets-append : (low undone after : ℕ) (transit : List LogicalTime) (up more : List Signal) → AreNets low transit undone up → undone ≤ after → undone ≤ least_key more → AreNets (last_ltc low up) transit after more → AreNets low transit after (up ++ more)
nets-append low undone after transit [] more h l k m = m
nets-append low undone after transit (Net g ∷ rest) more h l k m =
    let a = h.0 in let b = h.1 in let e = key-append rest more in
    (omega arith, omega arith, nets-append low undone after transit rest more h.2 l k m)
nets-append low undone after transit (Ltc c ∷ rest) more h l k m = nets-append (place c + 1) undone after transit rest more h l k m
nets-append low undone after transit (Tag g ∷ rest) more h l k m = nets-append low undone after transit rest more h l k m
nets-append low undone after transit (Msg c g v ∷ rest) more h l k m = nets-append low undone after transit rest more h l k m

-- with other tags in transit, of which the least is no later
pub nets_in_transit : (n : Network) (i low undone : ℕ) (transit after : List LogicalTime) (up : List Signal) → ((b : ℕ) → low ≤ b → least_above b after ≤ least_above b transit) → IsUp n i low up → AreNets low transit undone up → AreNets low after undone up
nets_in_transit n i low undone transit after [] f u h = tt
nets_in_transit n i low undone transit after (Net g ∷ rest) f u h =
    let a = h.0 in let b = h.1 in let e = f low (omega arith) in
    (omega arith, omega arith, nets_in_transit n i low undone transit after rest f u.3 h.2)
nets_in_transit n i low undone transit after (Ltc c ∷ rest) f u h =
    let a = u.1 in nets_in_transit n i (place c + 1) undone transit after rest (λ b l. f b (omega arith)) u.3 h
nets_in_transit n i low undone transit after (Tag g ∷ rest) f u h = absurd u
nets_in_transit n i low undone transit after (Msg k g v ∷ rest) f u h = nets_in_transit n i low undone transit after rest f u.3 h

-- with one more undone event, whose tag is in transit
pub nets_one_more : (n : Network) (i low undone after : ℕ) (transit : List LogicalTime) (up : List Signal) (g : LogicalTime) → Covers transit g → last_ltc low up ≤ place g → min undone (place g) ≤ after → IsUp n i low up → AreNets low transit undone up → AreNets low transit after up
nets_one_more n i low undone after transit [] g c l m u h = tt
nets_one_more n i low undone after transit (Net x ∷ rest) g c l m u h =
    let a = h.0 in let b = h.1 in
    let r = last_is_later n i low rest u.3 in
    let e = c low (omega arith) in
    (omega arith, omega arith, nets_one_more n i low undone after transit rest g c l m u.3 h.2)
nets_one_more n i low undone after transit (Ltc x ∷ rest) g c l m u h = nets_one_more n i (place x + 1) undone after transit rest g c l m u.3 h
nets_one_more n i low undone after transit (Tag x ∷ rest) g c l m u h = absurd u
nets_one_more n i low undone after transit (Msg k x v ∷ rest) g c l m u h = nets_one_more n i low undone after transit rest g c l m u.3 h
