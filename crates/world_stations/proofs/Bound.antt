-- How many frames a step sends to a peer at most, whatever the core.
use Rattle.std.proofs.Common.{◌≡◌, ◌≢◌, ℕ, ◌+◌, ◌≤◌, Bool, true, false, List, [], ◌∷◌, ◌++◌, length, set, slice_get, refl, ap, subst, ◌∙◌, arith, Option, None, Some, Result, Ok, Err, is_ok, if◌then◌else◌}
use Rattle.std.specs.Prelude.{nat_eq, ◌-◌, ◌&&◌, not}
use Rattle.std.proofs.lemmas.Bool.Decides.{nat_tests}
use Rattle.std.proofs.lemmas.List.{length_push, length-set, length-map}
use Rattle.signal.proofs.Numbered.{length-numbered}
use Rattle.node.proofs.Posts.{all_posted_bare}
use Rattle.node.specs.Mail.{bare}
use Rattle.std.proofs.Common.{length-drop}
use Rattle.signal.specs.declared.signal.Signal.{Signal}
use Rattle.signal.specs.declared.frame.Frame.{Frame}
use Rattle.signal.specs.declared.frame.Frame.TheVariants.{Hello, Data, Ack, Refuse}
use Rattle.link.specs.declared.arrival.Arrival.{Arrival}
use Rattle.link.specs.declared.arrival.Arrival.TheVariants as arrival
use Rattle.link.specs.declared.fault.LinkFault.{LinkFault}
use Rattle.link.specs.Fault.{number_of as number_of_fault}
use Rattle.signal.specs.Batch.{numbered}
use Rattle.link.specs.Image.{Image, room_left, offer_of, after_offer, answer_of, after_frame, after_close, resent_by, ack_of, hello_of}
use Rattle.protocol.specs.declared.post.Post.{Post}
use Rattle.node.specs.declared.outgoing.Outgoing.{Outgoing}
use Rattle.node.specs.declared.event.Event.{Event}
use Rattle.node.specs.declared.event.Event.TheVariants as event
use Rattle.protocol.specs.Outcome as outcome
use Rattle.protocol.specs.Refusals.{number_of}
use Rattle.node.specs.Numbers.{closes}
use Rattle.node.specs.Core.{Core, Made, Ending, Refuses, LacksRoom, Stays, Moves, ending_of}
use Rattle.node.specs.Mail.{Mail, posted, offered_at, all_posted, framed, lacks_room}
use Rattle.node.specs.Step.{Station, Stepped, refused, acknowledging, unsent, addressed, step_of, frame_comes, comes}
use Rattle.node.specs.Step.{admits, takes, noted, acts, resends, greets, greeting, turned_away, returned, changes}
use Rattle.network.proofs.Items.{get_set_here, get_set_other}
use Rattle.world_stations.specs.World.{frames_of}
use Rattle.world_stations.specs.Room.{count_to, most_of, most_to}
use Rattle.world_stations.proofs.Courses.{frames_with, received_size}

-- no more frames go to a peer than it may be sent in a step
abbrev pub IsBounded : List Image → List Outgoing → Type 0
IsBounded ends outs = (p : ℕ) → count_to p outs ≤ most_to (slice_get ends p)

pub count_append : (p : ℕ) (xs ys : List Outgoing) → count_to p (xs ++ ys) ≡ count_to p xs + count_to p ys
count_append p [] ys = omega arith
count_append p (x ∷ xs) ys = let rest = count_append p xs ys in omega arith

count_other : (p q : ℕ) (frames : List Frame) → nat_eq q p ≡ false → count_to p (addressed q frames) ≡ 0
count_other p q [] other = refl
count_other p q (frame ∷ frames) other = grind (arith, count_other p q frames other, other)

count_least : (p q : ℕ) (frames : List Frame) → count_to p (addressed q frames) ≤ length frames
count_least p q [] = omega arith
count_least p q (frame ∷ frames) = let rest = count_least p q frames in grind (arith, rest)

-- frames for one peer that is there
addressed_if : (ends : List Image) (p q : ℕ) (e : Image) (frames : List Frame) (b : Bool) → nat_eq q p ≡ b → slice_get ends q ≡ Some e → length frames ≤ most_of e →
    count_to p (addressed q frames) ≤ most_to (slice_get ends p)
addressed_if ends p q e frames true is found few =
    let same : q ≡ p = grind (arith, nat_tests) in
    let here : slice_get ends p ≡ Some e = subst (λ (k : ℕ). slice_get ends k ≡ Some e) same found in
    let least = count_least p q frames in
    rw here (omega arith)
addressed_if ends p q e frames false is found few = let none = count_other p q frames is in omega arith

to_one : (ends : List Image) (q : ℕ) (e : Image) (frames : List Frame) → slice_get ends q ≡ Some e → length frames ≤ most_of e → IsBounded ends (addressed q frames)
to_one ends q e frames found few p = addressed_if ends p q e frames (nat_eq q p) refl found few

-- the room left at an end, none where there is no end
abbrev pub room_of : Option Image → ℕ
room_of None = 0
room_of (Some e) = room_left e

-- an offer takes one of the places left
pub offer_takes : (e : Image) (signal : Signal) → is_ok (offer_of e signal) ≡ true → room_left (after_offer e signal) + 1 ≡ room_left e
offer_takes e signal ok = grind (arith, nat_tests, length_push e.kept signal)

framed_one : (p q : ℕ) (r : Result Frame LinkFault) → count_to p (framed q r) ≤ (if nat_eq q p then 1 else 0)
framed_one p q (Ok frame) = omega arith
framed_one p q (Err fault) = omega arith

room_set : (ends : List Image) (q p : ℕ) (e f : Image) (b : Bool) → nat_eq q p ≡ b → slice_get ends q ≡ Some e → room_left f + 1 ≡ room_left e →
    (if b then 1 else 0) + room_of (slice_get (set ends q f) p) ≤ room_of (slice_get ends p)
room_set ends q p e f true is found less =
    let same : q ≡ p = grind (arith, nat_tests) in
    let before : slice_get ends p ≡ Some e = subst (λ (k : ℕ). slice_get ends k ≡ Some e) same found in
    let after : slice_get (set ends q f) p ≡ Some f = subst (λ (k : ℕ). slice_get (set ends q f) k ≡ Some f) same (get_set_here ends q e f found) in
    rw (before, after) (omega arith)
room_set ends q p e f false is found less =
    let apart : p ≢ q = λ same. (let bad : ⊥ = grind (arith, nat_tests) in bad) in
    rw (get_set_other ends q p f apart) (omega arith)

-- what posts make of the ends: each frame for a peer takes a place there
offered_bound : (m : Mail) (q : ℕ) (signal : Signal) (p : ℕ) (e : Image) (b : Bool) → is_ok (offer_of e signal) ≡ b → slice_get m.ends q ≡ Some e →
    count_to p (if b then record { ends = set m.ends q (after_offer e signal); frames = m.frames ++ framed q (offer_of e signal) } else m).frames +
    room_of (slice_get (if b then record { ends = set m.ends q (after_offer e signal); frames = m.frames ++ framed q (offer_of e signal) } else m).ends p) ≤
    count_to p m.frames + room_of (slice_get m.ends p)
offered_bound m q signal p e true ok found =
    let more = count_append p m.frames (framed q (offer_of e signal)) in
    let one = framed_one p q (offer_of e signal) in
    let room = room_set m.ends q p e (after_offer e signal) (nat_eq q p) refl found (offer_takes e signal ok) in
    omega arith
offered_bound m q signal p e false ok found = omega arith

posted_at : (m : Mail) (post : Post) (p : ℕ) (o : Option Image) → slice_get m.ends post.peer ≡ o →
    count_to p (offered_at m post.peer post.signal o).frames + room_of (slice_get (offered_at m post.peer post.signal o).ends p) ≤ count_to p m.frames + room_of (slice_get m.ends p)
posted_at m post p None is = omega arith
posted_at m post p (Some e) is = offered_bound m post.peer post.signal p e (is_ok (offer_of e post.signal)) refl is

all_posted_bound : (m : Mail) (posts : List Post) (p : ℕ) →
    count_to p (all_posted m posts).frames + room_of (slice_get (all_posted m posts).ends p) ≤ count_to p m.frames + room_of (slice_get m.ends p)
all_posted_bound m [] p = omega arith
all_posted_bound m (post ∷ posts) p =
    let first = posted_at m post p (slice_get m.ends post.peer) refl in
    let rest = all_posted_bound (posted m post) posts p in
    omega arith

-- what a node sends by its posts, after these frames
pub posts_bound : (ends : List Image) (frames : List Outgoing) (posts : List Post) → ((p : ℕ) → count_to p frames + room_of (slice_get ends p) ≤ most_to (slice_get ends p)) →
    IsBounded ends (all_posted (record { ends = ends; frames = frames }) posts).frames
posts_bound ends frames posts few p =
    let all = all_posted_bound (record { ends = ends; frames = frames }) posts p in
    let here = few p in
    omega arith

room_less : (o : Option Image) → room_of o ≤ most_to o
room_less None = omega arith
room_less (Some e) = omega arith

one_and_room : (ends : List Image) (q p : ℕ) (e : Image) (frame : Frame) (b : Bool) → nat_eq q p ≡ b → slice_get ends q ≡ Some e →
    count_to p (addressed q (frame ∷ [])) + room_of (slice_get ends p) ≤ most_to (slice_get ends p)
one_and_room ends q p e frame true is found =
    let same : q ≡ p = grind (arith, nat_tests) in
    let here : slice_get ends p ≡ Some e = subst (λ (k : ℕ). slice_get ends k ≡ Some e) same found in
    let least = count_least p q (frame ∷ []) in
    rw here (omega arith)
one_and_room ends q p e frame false is found =
    let none = count_other p q (frame ∷ []) is in
    let less = room_less (slice_get ends p) in
    omega arith

no_frames : (ends : List Image) → IsBounded ends []
no_frames ends p = omega arith

-- a step keeps to the bound, and has as many ends after it as before
pub record IsWithin {View : Type 0} (ends : List Image) (stepped : Stepped View) : Type 0 where
  pub bounded : IsBounded ends (frames_of stepped.answer)
  pub ends_stay : length stepped.station.ends ≡ length ends

-- the same of what a call of the node comes to
abbrev pub EndsWithin : {View : Type 0} → List Image → Ending View → Type 0
EndsWithin ends (Refuses refusal) = Unit {0}
EndsWithin ends LacksRoom = Unit {0}
EndsWithin ends Stays = Unit {0}
EndsWithin ends (Moves after mail) = IsBounded ends mail.frames × (length mail.ends ≡ length ends)

ends_posted : (m : Mail) (posts : List Post) → length (all_posted m posts).ends ≡ length m.ends
ends_posted m posts =
    let same = ap length (all_posted_bare m posts) in
    let after = length-map (all_posted m posts).ends bare in
    let before = length-map m.ends bare in
    omega arith

ending_sent : {View : Type 0} (ends : List Image) (frames : List Outgoing) (made : Made View) (b : Bool) →
    ((p : ℕ) → count_to p frames + room_of (slice_get ends p) ≤ most_to (slice_get ends p)) →
    EndsWithin ends (if b then LacksRoom else Moves made.after (all_posted (record { ends = ends; frames = frames }) made.sent))
ending_sent ends frames made true few = tt
ending_sent ends frames made false few = (posts_bound ends frames made.sent few, ends_posted (record { ends = ends; frames = frames }) made.sent)

ending_within : {View : Type 0} (ends : List Image) (frames : List Outgoing) (o : outcome.Outcome (Made View)) →
    ((p : ℕ) → count_to p frames + room_of (slice_get ends p) ≤ most_to (slice_get ends p)) → EndsWithin ends (ending_of (record { ends = ends; frames = frames }) o)
ending_within ends frames (outcome.Refused refusal) few = tt
ending_within ends frames outcome.Nothing few = tt
ending_within ends frames (outcome.Done made) few = ending_sent ends frames made (lacks_room ends made.sent) few

silent : {View : Type 0} (ends : List Image) (stepped : Stepped View) → frames_of stepped.answer ≡ [] → length stepped.station.ends ≡ length ends → IsWithin ends stepped
silent ends stepped none same = record { bounded = λ p. rw none (no_frames ends p); ends_stay = same }

-- the node says or runs something by itself
acts_within : {View : Type 0} (s : Station View) (ending : Ending View) → EndsWithin s.ends ending → IsWithin s.ends (acts s ending)
acts_within s (Refuses refusal) within = record { bounded = no_frames s.ends; ends_stay = refl }
acts_within s LacksRoom within = record { bounded = no_frames s.ends; ends_stay = refl }
acts_within s Stays within = record { bounded = no_frames s.ends; ends_stay = refl }
acts_within s (Moves after mail) within = record { bounded = within.0; ends_stay = within.1 }

by_itself : {View : Type 0} (s : Station View) (o : outcome.Outcome (Made View)) → IsWithin s.ends (acts s (ending_of (unsent s) o))
by_itself s o = acts_within s (ending_of (unsent s) o) (ending_within s.ends [] o (λ p. let h = room_less (slice_get s.ends p) in omega arith))

refused_within : {View : Type 0} (s : Station View) (peer : ℕ) (e : Image) (number : ℕ) (closing : Bool) → slice_get s.ends peer ≡ Some e →
    IsWithin s.ends (refused s peer e number closing)
refused_within s peer e number true found = record {
  bounded = to_one s.ends peer e (Refuse e.incarnation number ∷ []) found (omega arith);
  ends_stay = length-set s.ends peer (after_close e);
}
refused_within s peer e number false found = record { bounded = no_frames s.ends; ends_stay = refl }

takes_within : {View : Type 0} (s : Station View) (peer : ℕ) (e : Image) (frame : Frame) (ending : Ending View) → slice_get s.ends peer ≡ Some e → EndsWithin s.ends ending →
    IsWithin s.ends (takes s peer e frame (acknowledging s peer e frame) ending)
takes_within s peer e frame (Refuses refusal) found within = refused_within s peer e (number_of refusal) (closes refusal) found
takes_within s peer e frame LacksRoom found within = record { bounded = no_frames s.ends; ends_stay = refl }
takes_within s peer e frame Stays found within = record {
  bounded = to_one s.ends peer e (ack_of (after_frame e frame) ∷ []) found (omega arith);
  ends_stay = received_size s.ends peer frame (slice_get s.ends peer);
}
takes_within s peer e frame (Moves after mail) found within = record {
  bounded = within.0;
  ends_stay = received_size mail.ends peer frame (slice_get mail.ends peer) ∙ within.1;
}

resent_few : (e : Image) → length (resent_by e) ≤ length e.kept
resent_few e = by_closed e.closed
  where
    by_closed : (b : Bool) → length (if b then [] else numbered e.incarnation (e.acknowledged + 1) e.kept) ≤ length e.kept
    by_closed true = omega arith
    by_closed false = let same = length-numbered e.incarnation (e.acknowledged + 1) e.kept in omega arith

returned_few : (e : Image) (frame : Frame) → length (returned (after_frame e frame) frame) ≤ most_of e
returned_few e (Hello hello) =
    let few = resent_few (after_frame e (Hello hello)) in
    let dropped = length-drop (hello.last_taken - e.acknowledged) e.kept in
    omega arith
returned_few e (Data i n signal) = omega arith
returned_few e (Ack i n) = omega arith
returned_few e (Refuse i n) = omega arith

noted_within : {View : Type 0} (s : Station View) (peer : ℕ) (e : Image) (frame : Frame) → slice_get s.ends peer ≡ Some e → IsWithin s.ends (noted s peer e frame)
noted_within s peer e frame found = record {
  bounded = λ p. rw (frames_with (changes e frame) (addressed peer (returned (after_frame e frame) frame)))
      (to_one s.ends peer e (returned (after_frame e frame) frame) found (returned_few e frame) p);
  ends_stay = length-set s.ends peer (after_frame e frame);
}

admits_within : {View Row : Type 0} (core : Core View Row) (s : Station View) (peer : ℕ) (e : Image) (frame : Frame) (arrival : Arrival) → slice_get s.ends peer ≡ Some e →
    IsWithin s.ends (admits core s peer e frame arrival)
admits_within core s peer e (Data i n signal) arrival.Signal found =
    takes_within s peer e (Data i n signal) (ending_of (acknowledging s peer e (Data i n signal)) (core.accept s.node peer signal)) found
    (ending_within s.ends (addressed peer (ack_of (after_frame e (Data i n signal)) ∷ [])) (core.accept s.node peer signal)
    (λ p. one_and_room s.ends peer p e (ack_of (after_frame e (Data i n signal))) (nat_eq peer p) refl found))
admits_within core s peer e frame arrival found = noted_within s peer e frame found

turned_if : (ends : List Image) (peer : ℕ) (e : Image) (i n : ℕ) (b : Bool) → slice_get ends peer ≡ Some e → IsBounded ends (if b then addressed peer (Refuse i n ∷ []) else [])
turned_if ends peer e i n true found = to_one ends peer e (Refuse i n ∷ []) found (omega arith)
turned_if ends peer e i n false found = no_frames ends

turned_few : (is_coordinator : Bool) (s : List Image) (peer : ℕ) (e : Image) (frame : Frame) → slice_get s peer ≡ Some e → IsBounded s (turned_away is_coordinator peer e frame)
turned_few is_coordinator s peer e (Hello hello) found = turned_if s peer e hello.incarnation (number_of_fault LinkFault.Stranger) (is_coordinator && not (nat_eq hello.incarnation e.incarnation)) found
turned_few is_coordinator s peer e (Data i n signal) found = no_frames s
turned_few is_coordinator s peer e (Ack i n) found = no_frames s
turned_few is_coordinator s peer e (Refuse i n) found = no_frames s

comes_within : {View Row : Type 0} (core : Core View Row) (is_coordinator : Bool) (s : Station View) (peer : ℕ) (e : Image) (frame : Frame) (r : Result Arrival LinkFault) →
    slice_get s.ends peer ≡ Some e → IsWithin s.ends (comes core is_coordinator s peer e frame r)
comes_within core is_coordinator s peer e frame (Ok arrival) found = admits_within core s peer e frame arrival found
comes_within core is_coordinator s peer e frame (Err fault) found = record { bounded = turned_few is_coordinator s.ends peer e frame found; ends_stay = refl }

frame_within : {View Row : Type 0} (core : Core View Row) (is_coordinator : Bool) (s : Station View) (peer : ℕ) (frame : Frame) (o : Option Image) → slice_get s.ends peer ≡ o →
    IsWithin s.ends (frame_comes core is_coordinator s peer frame o)
frame_within core is_coordinator s peer frame None is = record { bounded = no_frames s.ends; ends_stay = refl }
frame_within core is_coordinator s peer frame (Some e) is = comes_within core is_coordinator s peer e frame (answer_of e frame) is

resends_within : {View : Type 0} (s : Station View) (peer : ℕ) (o : Option Image) → slice_get s.ends peer ≡ o → IsWithin s.ends (resends s peer o)
resends_within s peer None is = record { bounded = no_frames s.ends; ends_stay = refl }
resends_within s peer (Some e) is = record {
  bounded = λ p. rw (frames_with false (addressed peer (resent_by e)))
      (to_one s.ends peer e (resent_by e) is (let few = resent_few e in omega arith) p);
  ends_stay = refl;
}

greeting_within : (ends : List Image) (peer : ℕ) (e : Image) (o : Option Frame) → slice_get ends peer ≡ Some e → IsBounded ends (greeting peer o)
greeting_within ends peer e None found = no_frames ends
greeting_within ends peer e (Some frame) found = to_one ends peer e (frame ∷ []) found (omega arith)

greets_within : {View : Type 0} (s : Station View) (peer : ℕ) (o : Option Image) → slice_get s.ends peer ≡ o → IsWithin s.ends (greets s peer o)
greets_within s peer None is = record { bounded = no_frames s.ends; ends_stay = refl }
greets_within s peer (Some e) is = record {
  bounded = λ p. rw (frames_with false (greeting peer (hello_of e))) (greeting_within s.ends peer e (hello_of e) is p);
  ends_stay = refl;
}

-- every step keeps to the bound, whatever the core
pub within : {View Row : Type 0} (core : Core View Row) (is_coordinator : Bool) (s : Station View) (e : Event) → IsWithin s.ends (step_of core is_coordinator s e)
within core is_coordinator s (event.Frame peer frame) = frame_within core is_coordinator s peer frame (slice_get s.ends peer) refl
within core is_coordinator s (event.Resend peer) = resends_within s peer (slice_get s.ends peer) refl
within core is_coordinator s (event.Hello peer) = greets_within s peer (slice_get s.ends peer) refl
within core is_coordinator s event.Announce = by_itself s (core.announce s.node)
within core is_coordinator s event.Advance = by_itself s (core.advance s.node)
