-- Through every step of a station the most that it may ever send to a peer in one step doesn't rise: an end's room stays,
-- and what the end keeps stays within it.
use Rattle.std.proofs.Common.{◌≡◌, ℕ, suc, zero, ◌≤◌, Bool, true, false, List, [], ◌∷◌, ◌++◌, set, slice_get, Option, None, Some, Result, Ok, Err, is_ok, if◌then◌else◌, refl, arith, length-drop}
use Rattle.std.specs.Prelude.{◌-◌}
use Rattle.std.proofs.lemmas.List.{length_push}
use Rattle.signal.specs.declared.signal.Signal.{Signal}
use Rattle.signal.specs.declared.frame.Frame.{Frame}
use Rattle.signal.specs.declared.frame.Frame.TheVariants.{Hello, Data, Ack, Refuse}
use Rattle.link.specs.declared.arrival.Arrival.{Arrival}
use Rattle.link.specs.declared.arrival.Arrival.TheVariants as arrival
use Rattle.link.specs.declared.fault.LinkFault.{LinkFault}
use Rattle.link.specs.Image.{Image, offer_of, after_offer, answer_of, after_frame, after_close}
use Rattle.protocol.specs.declared.post.Post.{Post}
use Rattle.protocol.specs.Outcome as outcome
use Rattle.protocol.specs.Refusals.{number_of}
use Rattle.node.specs.declared.event.Event.{Event}
use Rattle.node.specs.declared.event.Event.TheVariants as event
use Rattle.node.specs.Numbers.{closes}
use Rattle.node.specs.Core.{Core, Made, Ending, Refuses, LacksRoom, Stays, Moves, ending_of}
use Rattle.node.specs.Mail.{Mail, posted, offered_at, all_posted, framed, lacks_room}
use Rattle.node.specs.Step.{Station, received_at, refused, acknowledging, unsent, step_of, frame_comes, comes, admits}
use Rattle.node.specs.Step.{takes, noted, acts, resends, greets}
use Rattle.world_stations.specs.Room.{most_ever_of, most_ever_to}
use Rattle.world_stations.proofs.Bound.{offer_takes}

-- the most that goes to a peer at these ends
abbrev pub ever_at : List Image → ℕ → ℕ
ever_at ends p = most_ever_to (slice_get ends p)

ever_set : (ends : List Image) (q p : ℕ) (e f : Image) → slice_get ends q ≡ Some e → most_ever_of f ≤ most_ever_of e → ever_at (set ends q f) p ≤ ever_at ends p
ever_set [] q p e f found less = omega arith
ever_set (a ∷ ends) zero zero e f found less = let same : a ≡ e = grind arith in rw same less
ever_set (a ∷ ends) zero (suc p) e f found less = omega arith
ever_set (a ∷ ends) (suc q) zero e f found less = omega arith
ever_set (a ∷ ends) (suc q) (suc p) e f found less = ever_set ends q p e f found less

frame_ever : (e : Image) (frame : Frame) → most_ever_of (after_frame e frame) ≤ most_ever_of e
frame_ever e (Hello hello) = let dropped = length-drop (hello.last_taken - e.acknowledged) e.kept in omega arith
frame_ever e (Data i n signal) = omega arith
frame_ever e (Ack i n) = let dropped = length-drop (n - e.acknowledged) e.kept in omega arith
frame_ever e (Refuse i number) = omega arith

received_ever : (ends : List Image) (peer p : ℕ) (frame : Frame) (o : Option Image) → slice_get ends peer ≡ o → ever_at (received_at ends peer frame o) p ≤ ever_at ends p
received_ever ends peer p frame None is = omega arith
received_ever ends peer p frame (Some e) is = ever_set ends peer p e (after_frame e frame) is (frame_ever e frame)

-- an offer that isn't refused finds room
offer_ever : (e : Image) (signal : Signal) → is_ok (offer_of e signal) ≡ true → most_ever_of (after_offer e signal) ≤ most_ever_of e
offer_ever e signal ok =
    let took = offer_takes e signal ok in
    let more = length_push e.kept signal in
    omega arith

offered_ever : (m : Mail) (q : ℕ) (signal : Signal) (p : ℕ) (e : Image) (b : Bool) → is_ok (offer_of e signal) ≡ b → slice_get m.ends q ≡ Some e →
    ever_at (if b then record { ends = set m.ends q (after_offer e signal); frames = m.frames ++ framed q (offer_of e signal) } else m).ends p ≤ ever_at m.ends p
offered_ever m q signal p e true ok found = ever_set m.ends q p e (after_offer e signal) found (offer_ever e signal ok)
offered_ever m q signal p e false ok found = omega arith

posted_ever : (m : Mail) (post : Post) (p : ℕ) (o : Option Image) → slice_get m.ends post.peer ≡ o → ever_at (offered_at m post.peer post.signal o).ends p ≤ ever_at m.ends p
posted_ever m post p None is = omega arith
posted_ever m post p (Some e) is = offered_ever m post.peer post.signal p e (is_ok (offer_of e post.signal)) refl is

all_posted_ever : (m : Mail) (posts : List Post) (p : ℕ) → ever_at (all_posted m posts).ends p ≤ ever_at m.ends p
all_posted_ever m [] p = omega arith
all_posted_ever m (post ∷ posts) p =
    let first = posted_ever m post p (slice_get m.ends post.peer) refl in
    let rest = all_posted_ever (posted m post) posts p in
    omega arith

-- what a call of the node comes to: where it sends, no end may send more than before
abbrev pub EndsNoMore : {View : Type 0} → List Image → ℕ → Ending View → Type 0
EndsNoMore ends p (Refuses refusal) = Unit {0}
EndsNoMore ends p LacksRoom = Unit {0}
EndsNoMore ends p Stays = Unit {0}
EndsNoMore ends p (Moves after mail) = ever_at mail.ends p ≤ ever_at ends p

sent_ever : {View : Type 0} (m : Mail) (made : Made View) (p : ℕ) (b : Bool) → EndsNoMore m.ends p (if b then LacksRoom else Moves made.after (all_posted m made.sent))
sent_ever m made p true = tt
sent_ever m made p false = all_posted_ever m made.sent p

ended_ever : {View : Type 0} (m : Mail) (o : outcome.Outcome (Made View)) (p : ℕ) → EndsNoMore m.ends p (ending_of m o)
ended_ever m (outcome.Refused refusal) p = tt
ended_ever m outcome.Nothing p = tt
ended_ever m (outcome.Done made) p = sent_ever m made p (lacks_room m.ends made.sent)

acts_ever : {View : Type 0} (s : Station View) (ending : Ending View) (p : ℕ) → EndsNoMore s.ends p ending → ever_at (acts s ending).station.ends p ≤ ever_at s.ends p
acts_ever s (Refuses refusal) p less = omega arith
acts_ever s LacksRoom p less = omega arith
acts_ever s Stays p less = omega arith
acts_ever s (Moves after mail) p less = less

refused_ever : {View : Type 0} (s : Station View) (peer p : ℕ) (e : Image) (number : ℕ) (closing : Bool) → slice_get s.ends peer ≡ Some e →
    ever_at (refused s peer e number closing).station.ends p ≤ ever_at s.ends p
refused_ever s peer p e number true found = ever_set s.ends peer p e (after_close e) found (omega arith)
refused_ever s peer p e number false found = omega arith

takes_ever : {View : Type 0} (s : Station View) (peer p : ℕ) (e : Image) (frame : Frame) (ending : Ending View) → slice_get s.ends peer ≡ Some e → EndsNoMore s.ends p ending →
    ever_at (takes s peer e frame (acknowledging s peer e frame) ending).station.ends p ≤ ever_at s.ends p
takes_ever s peer p e frame (Refuses refusal) found less = refused_ever s peer p e (number_of refusal) (closes refusal) found
takes_ever s peer p e frame LacksRoom found less = omega arith
takes_ever s peer p e frame Stays found less = received_ever s.ends peer p frame (slice_get s.ends peer) refl
takes_ever s peer p e frame (Moves after mail) found less =
    let taken = received_ever mail.ends peer p frame (slice_get mail.ends peer) refl in
    omega arith

noted_ever : {View : Type 0} (s : Station View) (peer p : ℕ) (e : Image) (frame : Frame) → slice_get s.ends peer ≡ Some e → ever_at (noted s peer e frame).station.ends p ≤ ever_at s.ends p
noted_ever s peer p e frame found = ever_set s.ends peer p e (after_frame e frame) found (frame_ever e frame)

admits_ever : {View Row : Type 0} (core : Core View Row) (s : Station View) (peer p : ℕ) (e : Image) (frame : Frame) (arrival : Arrival) → slice_get s.ends peer ≡ Some e →
    ever_at (admits core s peer e frame arrival).station.ends p ≤ ever_at s.ends p
admits_ever core s peer p e (Data i n signal) arrival.Signal found =
    takes_ever s peer p e (Data i n signal) (ending_of (acknowledging s peer e (Data i n signal)) (core.accept s.node peer signal)) found
    (ended_ever (acknowledging s peer e (Data i n signal)) (core.accept s.node peer signal) p)
admits_ever core s peer p e frame arrival found = noted_ever s peer p e frame found

comes_ever : {View Row : Type 0} (core : Core View Row) (is_coordinator : Bool) (s : Station View) (peer p : ℕ) (e : Image) (frame : Frame) (r : Result Arrival LinkFault) →
    slice_get s.ends peer ≡ Some e → ever_at (comes core is_coordinator s peer e frame r).station.ends p ≤ ever_at s.ends p
comes_ever core is_coordinator s peer p e frame (Ok arrival) found = admits_ever core s peer p e frame arrival found
comes_ever core is_coordinator s peer p e frame (Err fault) found = omega arith

frame_comes_ever : {View Row : Type 0} (core : Core View Row) (is_coordinator : Bool) (s : Station View) (peer p : ℕ) (frame : Frame) (o : Option Image) → slice_get s.ends peer ≡ o →
    ever_at (frame_comes core is_coordinator s peer frame o).station.ends p ≤ ever_at s.ends p
frame_comes_ever core is_coordinator s peer p frame None is = omega arith
frame_comes_ever core is_coordinator s peer p frame (Some e) is = comes_ever core is_coordinator s peer p e frame (answer_of e frame) is

resends_ever : {View : Type 0} (s : Station View) (peer p : ℕ) (o : Option Image) → ever_at (resends s peer o).station.ends p ≤ ever_at s.ends p
resends_ever s peer p None = omega arith
resends_ever s peer p (Some e) = omega arith

greets_ever : {View : Type 0} (s : Station View) (peer p : ℕ) (o : Option Image) → ever_at (greets s peer o).station.ends p ≤ ever_at s.ends p
greets_ever s peer p None = omega arith
greets_ever s peer p (Some e) = omega arith

-- no step lets a peer be sent more in a later one, whatever the core
pub never_more : {View Row : Type 0} (core : Core View Row) (is_coordinator : Bool) (s : Station View) (e : Event) (p : ℕ) →
    most_ever_to (slice_get (step_of core is_coordinator s e).station.ends p) ≤ most_ever_to (slice_get s.ends p)
never_more core is_coordinator s (event.Frame peer frame) p = frame_comes_ever core is_coordinator s peer p frame (slice_get s.ends peer) refl
never_more core is_coordinator s (event.Resend peer) p = resends_ever s peer p (slice_get s.ends peer)
never_more core is_coordinator s (event.Hello peer) p = greets_ever s peer p (slice_get s.ends peer)
never_more core is_coordinator s event.Announce p = acts_ever s (ending_of (unsent s) (core.announce s.node)) p (ended_ever (unsent s) (core.announce s.node) p)
never_more core is_coordinator s event.Advance p = acts_ever s (ending_of (unsent s) (core.advance s.node)) p (ended_ever (unsent s) (core.advance s.node) p)
