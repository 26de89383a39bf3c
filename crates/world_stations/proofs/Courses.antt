-- Each step of a station is a course of acts at the sides of its links.
use Rattle.std.proofs.Common.{◌≡◌, ◌≢◌, ℕ, zero, suc, ◌+◌, ◌<◌, ◌≤◌, ◌⊎◌, inl, inr, max, Bool, true, false, IsTrue, List, [], ◌∷◌, ◌++◌, length, set, slice_get, refl, sym, ap, subst, ◌∙◌, arith, Option, None, Some, Result, Ok, Err, is_ok, if◌then◌else◌}
use Rattle.std.specs.Prelude.{nat_eq, nat_lt, nat_le, ◌&&◌, not}
use Rattle.std.specs.List.{AllByRecursion}
use Rattle.std.proofs.lemmas.List.{append-nil, length-set}
use Rattle.std.proofs.lemmas.Bool.{leb-true, eqb-true, eqb-false}
use Rattle.network_laws.proofs.Lists.{each_append}
use Rattle.signal.specs.declared.signal.Signal.{Signal}
use Rattle.signal.specs.declared.frame.Frame.{Frame}
use Rattle.signal.specs.declared.frame.Hello as declared
use Rattle.signal.specs.declared.frame.Frame.TheVariants.{Hello, Data, Ack, Refuse}
use Rattle.link.specs.declared.arrival.Arrival.{Arrival}
use Rattle.link.specs.declared.arrival.Arrival.TheVariants as arrival
use Rattle.link.specs.declared.fault.LinkFault.{LinkFault}
use Rattle.link.specs.Fault.{number_of}
use Rattle.link.specs.Answer.{answer_when_open, is_own}
use Rattle.link.specs.Image.{Image, last_number, answer_of, after_frame, after_close, ack_of, hello_of, resent_by, offer_of, after_offer}
use Rattle.protocol.specs.declared.post.Post.{Post}
use Rattle.protocol.specs.Refusals as refusals
use Rattle.protocol.specs.Outcome as outcome
use Rattle.protocol.specs.Machine.{sent_to}
use Rattle.node.specs.declared.outgoing.Outgoing.{Outgoing}
use Rattle.node.specs.declared.event.Event.{Event}
use Rattle.node.specs.declared.event.Event.TheVariants as event
use Rattle.node.specs.Numbers.{closes}
use Rattle.node.specs.Mail.{Mail, posted, offered_at, all_posted, framed, lacks_room}
use Rattle.node.specs.Core.{Core, Made, ending_of, Moves, LacksRoom}
use Rattle.node.specs.Step.{Station, Answer, Silent, Declines, Stepped, addressed, answer_with, same, acts, received_at}
use Rattle.node.specs.Step.{received, refused, takes, acknowledging, changes, returned, noted, admits, turned_away}
use Rattle.node.specs.Step.{comes, frame_comes, resends, greets, greeting, unsent, step_of}
use Rattle.network.proofs.Items.{get_set_here, get_set_other}
use Rattle.node.proofs.Ends.{no_posts}
use Rattle.node.proofs.Notes.{open_for}
use Rattle.link_laws.specs.Link as link
use Rattle.link_laws.specs.Link.{Side, says, hears, gets, side_after, Act, Gets, Offers, Resends, Greets, Closes, TurnsAway, offers}
use Rattle.link_laws.proofs.Offers.{offers_open}
use Rattle.world_stations.specs.World.{frames_of}
use Rattle.world_stations.specs.Federation.{is_harmless}
use Rattle.world_stations.proofs.Posting.{IsSeen, SeenIn, all_seen, to_itself, to_others}
use Rattle.world_stations.proofs.Course.{acted, IsQuiet, TakesNone, IsHarmlessAnswer, only, taking, Comes, Speaks}
use Rattle.world_stations.proofs.Course.{announces, advances, IsHandedOn, quiet, takes as takes_kind, notes}
use Rattle.world_stations.proofs.Course.{says as says_kind, declines, cannot, IsCourse}

pub some_of : {X : Type 0} (x y : X) → Some x ≡ Some y → x ≡ y
some_of x y same = cc

some_end : (ends : List Image) (q : ℕ) (e f : Image) → slice_get ends q ≡ Some e → slice_get ends q ≡ Some f → e ≡ f
some_end ends q e f one other = some_of e f (sym one ∙ other)

-- acts at one peer, seen at each side
abbrev OwnSeen : List Image → List Image → ℕ → List Frame → List Frame → List Act → Type 0
OwnSeen ends after q coming frames own =
    (s : Side) → slice_get ends q ≡ Some s.end → (slice_get after q ≡ Some (acted s coming own).end) × ((acted s coming own).sent ≡ s.sent ++ frames)

one_seen : (ends after : List Image) (came : ℕ → List Frame) (q : ℕ) (frames : List Frame) (own : List Act) → ((p : ℕ) → p ≢ q → slice_get after p ≡ slice_get ends p) → OwnSeen ends after q (came q) frames own
    → (p : ℕ) (s : Side) → slice_get ends p ≡ Some s.end → IsSeen s.sent after (addressed q frames) p (acted s (came p) (only q own p))
one_seen ends after came q frames own others mine p s found = by_number (nat_eq p q) refl
  where
    by_number : (b : Bool) → nat_eq p q ≡ b → IsSeen s.sent after (addressed q frames) p (acted s (came p) (if b then own else []))
    by_number true e =
        let P : ℕ → Type 0 = λ x. IsSeen s.sent after (addressed q frames) x (acted s (came x) own) in
        let here = eqb-true p q e in
        let seen = mine s (ap (λ x. slice_get ends x) (sym here) ∙ found) in
        subst P (sym here) (record { end = seen.0; frames = seen.1 ∙ ap (λ (x : List Frame). s.sent ++ x) (sym (to_itself q frames)) })
    by_number false e =
        record {
          end = others p (eqb-false p q e) ∙ found;
          frames = sym (append-nil s.sent) ∙ ap (λ (x : List Frame). s.sent ++ x) (sym (to_others p q frames e));
        }

-- frames to a peer that is there
to_one : (q count : ℕ) (frames : List Frame) → q < count → AllByRecursion (λ (o : Outgoing). o.peer < count) (addressed q frames)
to_one q count [] l = tt
to_one q count (x ∷ xs) l = (l, to_one q count xs l)

pub place_there : (ends : List Image) (q : ℕ) (e : Image) → slice_get ends q ≡ Some e → q < length ends
place_there [] q e found = cc
place_there (x ∷ xs) zero e found = omega arith
place_there (x ∷ xs) (suc q) e found = let h = place_there xs q e found in omega arith

-- quiet acts at one peer
quiet_only : (is_coordinator : Bool) (s : List Image) (q : ℕ) (e : Image) (own : List Act) → slice_get s q ≡ Some e → AllByRecursion (IsQuiet is_coordinator e.incarnation) own → (p : ℕ) (i : Image) → slice_get s p ≡ Some i → AllByRecursion (IsQuiet is_coordinator i.incarnation) (only q own p)
quiet_only is_coordinator s q e own found are p i there = by_number (nat_eq p q) refl
  where
    by_number : (b : Bool) → nat_eq p q ≡ b → AllByRecursion (IsQuiet is_coordinator i.incarnation) (if b then own else [])
    by_number true is =
        let here : e ≡ i = some_end s q e i found (ap (λ x. slice_get s x) (sym (eqb-true p q is)) ∙ there) in
        let P : Image → Type 0 = λ x. AllByRecursion (IsQuiet is_coordinator x.incarnation) own in
        subst P here are
    by_number false is = tt

pub frames_with : (b : Bool) (frames : List Outgoing) → frames_of (answer_with b frames) ≡ frames
frames_with true frames = refl
frames_with false [] = refl
frames_with false (x ∷ xs) = refl

harmless_with : (b : Bool) (frames : List Outgoing) → IsHarmlessAnswer (answer_with b frames)
harmless_with true frames = tt
harmless_with false [] = tt
harmless_with false (x ∷ xs) = tt

-- a step by which the node isn't asked: at one peer's end
quiet_course : {View Row : Type 0} (core : Core View Row) (is_coordinator : Bool) (s : Station View) (event : Event) (came : ℕ → List Frame) (place : ℕ) (made : Stepped View) (q : ℕ) (e : Image) (frames : List Frame) (own : List Act) → slice_get s.ends q ≡ Some e → made.station.node ≡ s.node → length made.station.ends ≡ length s.ends → ((p : ℕ) → p ≢ q → slice_get made.station.ends p ≡ slice_get s.ends p) → OwnSeen s.ends made.station.ends q (came q) frames own → frames_of made.answer ≡ addressed q frames → IsHarmlessAnswer made.answer → AllByRecursion (IsQuiet is_coordinator e.incarnation) own → IsCourse core is_coordinator s event came place made
quiet_course core is_coordinator s event came place made q e frames own found node size others mine answered harmless are =
    let P : List Outgoing → Type 0 = λ x. (p : ℕ) (side : Side) → slice_get s.ends p ≡ Some side.end → IsSeen side.sent made.station.ends x p (acted side (came p) (only q own p)) in
    let Q : List Outgoing → Type 0 = λ x. AllByRecursion (λ (o : Outgoing). o.peer < length s.ends) x in
    record {
      acts = only q own;
      seen = subst P (sym answered) (one_seen s.ends made.station.ends came q frames own others mine);
      within = subst Q (sym answered) (to_one q (length s.ends) frames (place_there s.ends q e found));
      size = size;
      kind = quiet node harmless (quiet_only is_coordinator s.ends q e own found are);
    }

-- a step by which nothing changes and these frames go out
same_course : {View Row : Type 0} (core : Core View Row) (is_coordinator : Bool) (s : Station View) (event : Event) (came : ℕ → List Frame) (place : ℕ) (answer : Answer) (q : ℕ) (e : Image) (frames : List Frame) (own : List Act) → slice_get s.ends q ≡ Some e → ((t : Side) → t.end ≡ e → ((acted t (came q) own).end ≡ t.end) × ((acted t (came q) own).sent ≡ t.sent ++ frames)) → frames_of answer ≡ addressed q frames → IsHarmlessAnswer answer → AllByRecursion (IsQuiet is_coordinator e.incarnation) own → IsCourse core is_coordinator s event came place (same s answer)
same_course core is_coordinator s event came place answer q e frames own found mine answered harmless are =
    quiet_course core is_coordinator s event came place (same s answer) q e frames own found refl refl (λ p o. refl)
    (λ t there. (
    let is = mine t (some_end s.ends q t.end e there found) in
    (there ∙ ap (λ (x : Image). Some x) (sym is.0), is.1))) answered harmless are

-- a step by which nothing at all happens
still : {View Row : Type 0} (core : Core View Row) (is_coordinator : Bool) (s : Station View) (event : Event) (came : ℕ → List Frame) (place : ℕ) (answer : Answer) → frames_of answer ≡ [] → IsHarmlessAnswer answer → IsCourse core is_coordinator s event came place (same s answer)
still core is_coordinator s event came place answer answered harmless =
    let P : List Outgoing → Type 0 = λ x. (p : ℕ) (side : Side) → slice_get s.ends p ≡ Some side.end → IsSeen side.sent s.ends x p side in
    let Q : List Outgoing → Type 0 = λ x. AllByRecursion (λ (o : Outgoing). o.peer < length s.ends) x in
    record {
      acts = λ p. [];
      seen = subst P (sym answered) (λ p side found. record { end = found; frames = sym (append-nil side.sent) });
      within = subst Q (sym answered) tt;
      size = refl;
      kind = quiet refl harmless (λ p i found. tt);
    }

-- an end's refusals may come, but for an acknowledgement of what was never sent
abbrev HarmlessFault : Result Arrival LinkFault → Type 0
HarmlessFault (Ok arrived) = Unit {0}
HarmlessFault (Err fault) = fault ≢ LinkFault.AckOfUnsent → IsTrue (is_harmless (number_of fault))

if_open : (own closed : Bool) (r : Result Arrival LinkFault) → HarmlessFault r → HarmlessFault (if own then (if closed then Err LinkFault.Closed else r) else Err LinkFault.Stranger)
if_open true true r h = λ o. refl
if_open true false r h = h
if_open false closed r h = λ o. refl

if_unsent : (b : Bool) (arrived : Arrival) → HarmlessFault (if b then Err LinkFault.AckOfUnsent else Ok arrived)
if_unsent true arrived = λ o. absurd (o refl)
if_unsent false arrived = tt

if_ahead : (le eq : Bool) → HarmlessFault (if le then Ok arrival.Repeated else if eq then Ok arrival.Signal else Err LinkFault.Gap)
if_ahead true eq = tt
if_ahead false true = tt
if_ahead false false = λ o. refl

open_harmless : (offered taken : ℕ) (frame : Frame) → HarmlessFault (answer_when_open offered taken frame)
open_harmless offered taken (Hello hello) = if_unsent (nat_lt offered hello.last_taken) arrival.Resume
open_harmless offered taken (Data k n signal) = if_ahead (nat_le n taken) (nat_eq n (taken + 1))
open_harmless offered taken (Ack k n) = if_unsent (nat_lt offered n) arrival.Acked
open_harmless offered taken (Refuse k n) = tt

harmless_fault : (e : Image) (frame : Frame) (fault : LinkFault) → answer_of e frame ≡ Err fault → answer_of e frame ≢ Err LinkFault.AckOfUnsent → IsTrue (is_harmless (number_of fault))
harmless_fault e frame fault is sent =
    let P : Result Arrival LinkFault → Type 0 = λ r. HarmlessFault r in
    subst P is (if_open (is_own e.federate e.incarnation frame) e.closed (answer_when_open (last_number e) e.taken frame) (open_harmless (last_number e) e.taken frame))
    (λ same. sent (is ∙ ap (λ (x : LinkFault). Err x) same))

-- what an end that takes in a signal's frame answers
data_answer : (own closed le eq : Bool) (a : Arrival) → (if own then (if closed then Err LinkFault.Closed else if le then Ok arrival.Repeated else if eq then Ok arrival.Signal else Err LinkFault.Gap) else Err LinkFault.Stranger) ≡ Ok a → ((a ≡ arrival.Repeated) × (le ≡ true)) ⊎ (a ≡ arrival.Signal)
data_answer false closed le eq a is = cc
data_answer true true le eq a is = cc
data_answer true false true eq a is = inl (cc, refl)
data_answer true false false true a is = inr cc
data_answer true false false false a is = cc

-- what is done at a side at which such a frame comes and its signal isn't taken
pub gets_frame : (s : Side) (coming : List Frame) (place : ℕ) (is_taken : Bool) (frame : Frame) (r : Result Arrival LinkFault) → slice_get coming place ≡ Some frame → answer_of s.end frame ≡ r → side_after s coming (Gets place is_taken) ≡ hears is_taken s frame r
gets_frame s coming place is_taken frame r found is =
    ap (λ (o : Option Frame). gets is_taken s o) found ∙ ap (λ (x : Result Arrival LinkFault). hears is_taken s frame x) is

-- a frame that the end takes in by itself
abbrev Notes : Image → Frame → Arrival → Type 0
Notes e frame arrived = (t : Side) → t.end ≡ e → (link.admits false t frame arrived).end ≡ after_frame t.end frame × ((link.admits false t frame arrived).sent ≡ t.sent ++ returned (after_frame t.end frame) frame)

notes_hello : (e : Image) (hello : declared.Hello) (arrived : Arrival) → Notes e (Hello hello) arrived
notes_hello e hello arrived t is = (refl, refl)

notes_ack : (e : Image) (k n : ℕ) (arrived : Arrival) → Notes e (Ack k n) arrived
notes_ack e k n arrived t is = (refl, sym (append-nil t.sent))

notes_refuse : (e : Image) (k n : ℕ) (arrived : Arrival) → Notes e (Refuse k n) arrived
notes_refuse e k n arrived t is = (refl, sym (append-nil t.sent))

notes_repeated : (e : Image) (k n : ℕ) (signal : Signal) → n ≤ e.taken → Notes e (Data k n signal) arrival.Repeated
notes_repeated e k n signal l t is =
    let P : Image → Type 0 = λ x. n ≤ x.taken in
    let old : n ≤ t.end.taken = subst P (sym is) l in
    let same : t.end.taken ≡ max t.end.taken n = omega arith in
    (refl, ap (λ (x : ℕ). t.sent ++ Ack t.end.incarnation x ∷ []) same)

noted_course : {View Row : Type 0} (core : Core View Row) (is_coordinator : Bool) (s : Station View) (came : ℕ → List Frame) (place q : ℕ) (e : Image) (frame : Frame) (arrived : Arrival) → slice_get s.ends q ≡ Some e → slice_get (came q) place ≡ Some frame → answer_of e frame ≡ Ok arrived → Notes e frame arrived → IsCourse core is_coordinator s (event.Frame q frame) came place (noted s q e frame)
noted_course core is_coordinator s came place q e frame arrived found at is notes_so =
    quiet_course core is_coordinator s (event.Frame q frame) came place (noted s q e frame) q e (returned (after_frame e frame) frame) (Gets place false ∷ []) found refl (length-set s.ends q (after_frame e frame))
    (λ p o. get_set_other s.ends q p (after_frame e frame) o)
    (λ t there. (
    let same = some_end s.ends q e t.end found there in
    let P : Image → Type 0 = λ x. answer_of x frame ≡ Ok arrived in
    let heard = gets_frame t (came q) place false frame (Ok arrived) at (subst P same is) in
    let so = notes_so t (sym same) in
    let Q : Image → Type 0 = λ x. (link.admits false t frame arrived).sent ≡ t.sent ++ returned (after_frame x frame) frame in
    let R : Image → Type 0 = λ x. Some (after_frame x frame) ≡ Some (side_after t (came q) (Gets place false)).end in (
      get_set_here s.ends q e (after_frame e frame) found ∙
          subst R (sym same) (ap (λ (x : Image). Some x) (sym so.0) ∙ ap (λ (x : Side). Some x.end) (sym heard)),
      ap (λ (x : Side). x.sent) heard ∙ subst Q (sym same) so.1,
    )))
    (frames_with (changes e frame) (addressed q (returned (after_frame e frame) frame))) (harmless_with (changes e frame) (addressed q (returned (after_frame e frame) frame))) (refl, tt)

-- posts keep the number of ends, and go to peers that are there
abbrev AreWithin : ℕ → List Outgoing → Type 0
AreWithin count outs = AllByRecursion (λ (o : Outgoing). o.peer < count) outs

record IsPosted (m after : Mail) : Type 0 where
  size : length after.ends ≡ length m.ends
  within : AreWithin (length m.ends) m.frames → AreWithin (length m.ends) after.frames

nothing_posted : (m : Mail) → IsPosted m m
nothing_posted m = record { size = refl; within = λ w. w }

framed_within : (count q : ℕ) (r : Result Frame LinkFault) → q < count → AreWithin count (framed q r)
framed_within count q (Ok frame) l = (l, tt)
framed_within count q (Err fault) l = tt

one_posted : (m : Mail) (q : ℕ) (signal : Signal) (o : Option Image) → slice_get m.ends q ≡ o → IsPosted m (offered_at m q signal o)
one_posted m q signal None is = nothing_posted m
one_posted m q signal (Some e) is = by_offer (is_ok (offer_of e signal))
  where
    by_offer : (b : Bool) → IsPosted m (if b then record { ends = set m.ends q (after_offer e signal); frames = m.frames ++ framed q (offer_of e signal) } else m)
    by_offer true = record {
      size = length-set m.ends q (after_offer e signal);
      within = λ w. each_append (λ (o : Outgoing). o.peer < length m.ends) m.frames (framed q (offer_of e signal)) w (framed_within (length m.ends) q (offer_of e signal) (place_there m.ends q e is));
    }
    by_offer false = nothing_posted m

all_are_posted : (m : Mail) (posts : List Post) → IsPosted m (all_posted m posts)
all_are_posted m [] = nothing_posted m
all_are_posted m (post ∷ posts) =
    let first = one_posted m post.peer post.signal (slice_get m.ends post.peer) refl in
    let rest = all_are_posted (posted m post) posts in
    let P : ℕ → Type 0 = λ c. AreWithin c (posted m post).frames → AreWithin c (all_posted (posted m post) posts).frames in
    record { size = rest.size ∙ first.size; within = λ w. subst P first.size rest.within (first.within w) }

-- the signals of a station's node go out
spoken : {View Row : Type 0} (core : Core View Row) (is_coordinator : Bool) (s : Station View) (e : Event) (came : ℕ → List Frame) (place : ℕ) (o : outcome.Outcome (Made View)) → Speaks core s.node e o → IsCourse core is_coordinator s e came place (acts s (ending_of (unsent s) o))
spoken core is_coordinator s e came place (outcome.Refused refusal) speaks =
    record {
      acts = λ p. [];
      seen = λ p side found. record { end = found; frames = sym (append-nil side.sent) };
      within = tt;
      size = refl;
      kind = cannot refusal speaks (λ p. tt);
    }
spoken core is_coordinator s e came place outcome.Nothing speaks = still core is_coordinator s e came place Silent refl tt
spoken core is_coordinator s e came place (outcome.Done made) speaks = by_room (lacks_room s.ends made.sent) refl
  where
    by_room : (b : Bool) → lacks_room s.ends made.sent ≡ b → IsCourse core is_coordinator s e came place (acts s (if b then LacksRoom else Moves made.after (all_posted (unsent s) made.sent)))
    by_room true is = still core is_coordinator s e came place (Declines 60 []) refl refl
    by_room false is =
        let posts = all_are_posted (unsent s) made.sent in
        record {
          acts = λ p. Offers (sent_to p made.sent) ∷ [];
          seen = λ p side found. all_seen side.sent (unsent s) made.sent p side is (record { end = found; frames = sym (append-nil side.sent) });
          within = posts.within tt;
          size = posts.size;
          kind = says_kind made speaks refl tt (λ p. refl);
        }

-- a signal is taken, and the node's signals go out
taken_here : (t : Side) (k n : ℕ) (signal : Signal) (signals : List Signal) → t.end.closed ≡ false
    → (after_frame (offers (says t (ack_of (after_frame t.end (Data k n signal)) ∷ [])) signals).end (Data k n signal) ≡ (offers (link.takes t (Data k n signal) signal) signals).end)
    × ((offers (says t (ack_of (after_frame t.end (Data k n signal)) ∷ [])) signals).sent ≡ (offers (link.takes t (Data k n signal) signal) signals).sent)
taken_here t k n signal signals o =
    let before = offers_open (says t (ack_of (after_frame t.end (Data k n signal)) ∷ [])) signals o in
    let after = offers_open (link.takes t (Data k n signal) signal) signals o in (
      ap (λ (x : Side). after_frame x.end (Data k n signal)) before ∙ sym (ap (λ (x : Side). x.end) after),
      ap (λ (x : Side). x.sent) before ∙ sym (ap (λ (x : Side). x.sent) after),
    )

received_other : (ends : List Image) (q p : ℕ) (frame : Frame) (o : Option Image) → p ≢ q → slice_get (received_at ends q frame o) p ≡ slice_get ends p
received_other ends q p frame None other = refl
received_other ends q p frame (Some e) other = get_set_other ends q p (after_frame e frame) other

pub received_size : (ends : List Image) (q : ℕ) (frame : Frame) (o : Option Image) → length (received_at ends q frame o) ≡ length ends
received_size ends q frame None = refl
received_size ends q frame (Some e) = length-set ends q (after_frame e frame)

pub is_open : (e : Image) (frame : Frame) (a : Arrival) → answer_of e frame ≡ Ok a → e.closed ≡ false
is_open e frame a is = open_for e frame (grind (arith, is))

-- what is seen at each side where the node takes the signal
taken_seen : {View : Type 0} (s : Station View) (came : ℕ → List Frame) (place q : ℕ) (e : Image) (k n : ℕ) (signal : Signal) (posts : List Post) → slice_get s.ends q ≡ Some e → slice_get (came q) place ≡ Some (Data k n signal) → answer_of e (Data k n signal) ≡ Ok arrival.Signal → lacks_room s.ends posts ≡ false → (p : ℕ) (t : Side) → slice_get s.ends p ≡ Some t.end
    → IsSeen t.sent (received q (Data k n signal) (all_posted (acknowledging s q e (Data k n signal)) posts)).ends (all_posted (acknowledging s q e (Data k n signal)) posts).frames p (acted t (came p) (taking q place p (sent_to p posts)))
taken_seen s came place q e k n signal posts found at is room p t there = by_number (nat_eq p q) refl
  where
    by_number : (b : Bool) → nat_eq p q ≡ b → IsSeen t.sent (received q (Data k n signal) (all_posted (acknowledging s q e (Data k n signal)) posts)).ends (all_posted (acknowledging s q e (Data k n signal)) posts).frames p (acted t (came p) (if b then Gets place true ∷ Offers (sent_to p posts) ∷ [] else Offers (sent_to p posts) ∷ []))
    by_number false other =
        let seen : SeenIn t.sent (acknowledging s q e (Data k n signal)) p t = record { end = there; frames = sym (append-nil t.sent) ∙ ap (λ (x : List Frame). t.sent ++ x) (sym (to_others p q (ack_of (after_frame e (Data k n signal)) ∷ []) other)) } in
        let all = all_seen t.sent (acknowledging s q e (Data k n signal)) posts p t room seen in
        record { end = received_other (all_posted (acknowledging s q e (Data k n signal)) posts).ends q p (Data k n signal) (slice_get (all_posted (acknowledging s q e (Data k n signal)) posts).ends q) (eqb-false p q other) ∙ all.end; frames = all.frames }
    by_number true here =
        let same : p ≡ q = eqb-true p q here in
        let P : ℕ → Type 0 = λ x. slice_get s.ends x ≡ Some t.end in
        let mine : e ≡ t.end = some_end s.ends q e t.end found (subst P same there) in
        let acked = says t (ack_of (after_frame t.end (Data k n signal)) ∷ []) in
        let A : Image → Type 0 = λ x. answer_of x (Data k n signal) ≡ Ok arrival.Signal in
        let heard = gets_frame t (came q) place true (Data k n signal) (Ok arrival.Signal) at (subst A mine is) in
        let opened : t.end.closed ≡ false = is_open t.end (Data k n signal) arrival.Signal (subst A mine is) in
        let both = taken_here t k n signal (sent_to q posts) opened in
        let E : Image → Type 0 = λ x. SeenIn t.sent (acknowledging s q x (Data k n signal)) q acked in
        let seen : SeenIn t.sent (acknowledging s q e (Data k n signal)) q acked = subst E (sym mine) (record { end = subst P same there; frames = ap (λ (x : List Frame). t.sent ++ x) (sym (to_itself q (ack_of (after_frame t.end (Data k n signal)) ∷ []))) }) in
        let all = all_seen t.sent (acknowledging s q e (Data k n signal)) posts q acked room seen in
        let G : ℕ → Type 0 = λ x. IsSeen t.sent (received q (Data k n signal) (all_posted (acknowledging s q e (Data k n signal)) posts)).ends (all_posted (acknowledging s q e (Data k n signal)) posts).frames x (offers (side_after t (came x) (Gets place true)) (sent_to x posts)) in
        let H : Side → Type 0 = λ x. IsSeen t.sent (received q (Data k n signal) (all_posted (acknowledging s q e (Data k n signal)) posts)).ends (all_posted (acknowledging s q e (Data k n signal)) posts).frames q (offers x (sent_to q posts)) in
        subst G (sym same)
        (subst H (sym heard)
        (record {
          end =
              ap (λ (o : Option Image). slice_get (received_at (all_posted (acknowledging s q e (Data k n signal)) posts).ends q (Data k n signal) o) q) all.end ∙
              get_set_here (all_posted (acknowledging s q e (Data k n signal)) posts).ends q (offers acked (sent_to q posts)).end (after_frame (offers acked (sent_to q posts)).end (Data k n signal)) all.end ∙
              ap (λ (x : Image). Some x) both.0;
          frames = sym both.1 ∙ all.frames;
        }))

-- a signal in its turn
signal_course : {View Row : Type 0} (core : Core View Row) (is_coordinator : Bool) (s : Station View) (came : ℕ → List Frame) (place q : ℕ) (e : Image) (k n : ℕ) (signal : Signal) (o : outcome.Outcome (Made View)) → slice_get s.ends q ≡ Some e → slice_get (came q) place ≡ Some (Data k n signal) → answer_of e (Data k n signal) ≡ Ok arrival.Signal → core.accept s.node q signal ≡ o
    → IsCourse core is_coordinator s (event.Frame q (Data k n signal)) came place (takes s q e (Data k n signal) (acknowledging s q e (Data k n signal)) (ending_of (acknowledging s q e (Data k n signal)) o))
signal_course core is_coordinator s came place q e k n signal (outcome.Refused refusal) found at is does = by_closing (closes refusal)
  where
    handed : IsHandedOn core s (event.Frame q (Data k n signal)) q (outcome.Refused refusal)
    handed = record { image = e; incarnation = k; number = n; signal = signal; is_event = refl; found = found; in_turn = is; node = does }

    closes_only : (p : ℕ) (b : Bool) (number : ℕ) → AllByRecursion TakesNone (if b then Closes number ∷ [] else [])
    closes_only p true number = (tt, tt)
    closes_only p false number = tt

    by_closing : (b : Bool) → IsCourse core is_coordinator s (event.Frame q (Data k n signal)) came place (refused s q e (refusals.number_of refusal) b)
    by_closing true =
        let number = refusals.number_of refusal in
        record {
          acts = only q (Closes number ∷ []);
          seen = one_seen s.ends (set s.ends q (after_close e)) came q (Refuse e.incarnation number ∷ []) (Closes number ∷ []) (λ p other. get_set_other s.ends q p (after_close e) other)
              (λ t there. (
              let same = some_end s.ends q e t.end found there in (
                get_set_here s.ends q e (after_close e) found ∙ ap (λ (x : Image). Some (after_close x)) same,
                ap (λ (x : Image). t.sent ++ Refuse x.incarnation number ∷ []) (sym same),
              )));
          within = (place_there s.ends q e found, tt);
          size = length-set s.ends q (after_close e);
          kind = declines q refusal handed (λ p. closes_only p (nat_eq p q) number);
        }
    by_closing false =
        record {
          acts = λ p. [];
          seen = λ p side there. record { end = there; frames = sym (append-nil side.sent) };
          within = tt;
          size = refl;
          kind = declines q refusal handed (λ p. tt);
        }
signal_course core is_coordinator s came place q e k n signal outcome.Nothing found at is does =
    let P : Outgoing → Type 0 = λ o. o.peer < length s.ends in
    let none = (λ (p : ℕ) (t : Side) (there : slice_get s.ends p ≡ Some t.end).
    taken_seen s came place q e k n signal [] found at is (no_room s.ends) p t there) in
    record {
      acts = λ p. taking q place p (sent_to p []);
      seen = none;
      within = (place_there s.ends q e found, tt);
      size = received_size s.ends q (Data k n signal) (slice_get s.ends q);
      kind = notes q (record { image = e; incarnation = k; number = n; signal = signal; is_event = refl; found = found; in_turn = is; node = does }) (λ p. refl);
    }
  where
    no_room : (ends : List Image) → lacks_room ends [] ≡ false
    no_room ends = no_posts 0 ends
signal_course core is_coordinator s came place q e k n signal (outcome.Done made) found at is does = by_room (lacks_room s.ends made.sent) refl
  where
    by_room : (b : Bool) → lacks_room s.ends made.sent ≡ b
        → IsCourse core is_coordinator s (event.Frame q (Data k n signal)) came place (takes s q e (Data k n signal) (acknowledging s q e (Data k n signal)) (if b then LacksRoom else Moves made.after (all_posted (acknowledging s q e (Data k n signal)) made.sent)))
    by_room true room = still core is_coordinator s (event.Frame q (Data k n signal)) came place (Declines 60 []) refl refl
    by_room false room =
        let posts = all_are_posted (acknowledging s q e (Data k n signal)) made.sent in
        let mail = all_posted (acknowledging s q e (Data k n signal)) made.sent in
        record {
          acts = λ p. taking q place p (sent_to p made.sent);
          seen = taken_seen s came place q e k n signal made.sent found at is room;
          within = posts.within (place_there s.ends q e found, tt);
          size = received_size mail.ends q (Data k n signal) (slice_get mail.ends q) ∙ posts.size;
          kind = takes_kind q made (record { image = e; incarnation = k; number = n; signal = signal; is_event = refl; found = found; in_turn = is; node = does }) refl tt (λ p. refl);
        }

-- a frame that its end refuses
turned_course : {View Row : Type 0} (core : Core View Row) (is_coordinator : Bool) (s : Station View) (came : ℕ → List Frame) (place q : ℕ) (e : Image) (frame : Frame) (fault : LinkFault) → slice_get s.ends q ≡ Some e → IsTrue (is_harmless (number_of fault)) → IsCourse core is_coordinator s (event.Frame q frame) came place (same s (Declines (number_of fault) (turned_away is_coordinator q e frame)))
turned_course core is_coordinator s came place q e (Hello hello) fault found harmless = by_stranger (is_coordinator && not (nat_eq hello.incarnation e.incarnation)) refl
  where
    both : (a b : Bool) → (a && not b) ≡ true → (a ≡ true) × (b ≡ false)
    both true false h = (refl, refl)
    both true true h = cc
    both false b h = cc

    by_stranger : (b : Bool) → (is_coordinator && not (nat_eq hello.incarnation e.incarnation)) ≡ b → IsCourse core is_coordinator s (event.Frame q (Hello hello)) came place (same s (Declines (number_of fault) (if b then addressed q (Refuse hello.incarnation 51 ∷ []) else [])))
    by_stranger true is =
        let stranger = both is_coordinator (nat_eq hello.incarnation e.incarnation) is in
        same_course core is_coordinator s (event.Frame q (Hello hello)) came place (Declines (number_of fault) (addressed q (Refuse hello.incarnation 51 ∷ []))) q e (Refuse hello.incarnation 51 ∷ []) (TurnsAway hello.incarnation 51 ∷ []) found
        (λ t there. (refl, refl)) refl harmless ((stranger.0, eqb-false hello.incarnation e.incarnation stranger.1), tt)
    by_stranger false is = still core is_coordinator s (event.Frame q (Hello hello)) came place (Declines (number_of fault) []) refl harmless
turned_course core is_coordinator s came place q e (Data k n signal) fault found harmless = still core is_coordinator s (event.Frame q (Data k n signal)) came place (Declines (number_of fault) []) refl harmless
turned_course core is_coordinator s came place q e (Ack k n) fault found harmless = still core is_coordinator s (event.Frame q (Ack k n)) came place (Declines (number_of fault) []) refl harmless
turned_course core is_coordinator s came place q e (Refuse k n) fault found harmless = still core is_coordinator s (event.Frame q (Refuse k n)) came place (Declines (number_of fault) []) refl harmless

pub data_is : (e : Image) (k n : ℕ) (signal : Signal) (a : Arrival) → answer_of e (Data k n signal) ≡ Ok a → ((a ≡ arrival.Repeated) × (n ≤ e.taken)) ⊎ (a ≡ arrival.Signal)
data_is e k n signal a is =
    elim (data_answer (nat_eq k e.incarnation) e.closed (nat_le n e.taken) (nat_eq n (e.taken + 1)) a is) [
      | inl old ↦ inl (old.0, leb-true n e.taken old.1)
      | inr next ↦ inr next
    ]

-- a frame that its end doesn't refuse
admitted_course : {View Row : Type 0} (core : Core View Row) (is_coordinator : Bool) (s : Station View) (came : ℕ → List Frame) (place q : ℕ) (e : Image) (frame : Frame) (arrived : Arrival) → slice_get s.ends q ≡ Some e → slice_get (came q) place ≡ Some frame → answer_of e frame ≡ Ok arrived → IsCourse core is_coordinator s (event.Frame q frame) came place (admits core s q e frame arrived)
admitted_course core is_coordinator s came place q e (Hello hello) arrived found at is = noted_course core is_coordinator s came place q e (Hello hello) arrived found at is (notes_hello e hello arrived)
admitted_course core is_coordinator s came place q e (Ack k n) arrived found at is = noted_course core is_coordinator s came place q e (Ack k n) arrived found at is (notes_ack e k n arrived)
admitted_course core is_coordinator s came place q e (Refuse k n) arrived found at is = noted_course core is_coordinator s came place q e (Refuse k n) arrived found at is (notes_refuse e k n arrived)
admitted_course core is_coordinator s came place q e (Data k n signal) arrived found at is =
    let P : Arrival → Type 0 = λ a. IsCourse core is_coordinator s (event.Frame q (Data k n signal)) came place (admits core s q e (Data k n signal) a) in
    let Q : Arrival → Type 0 = λ a. answer_of e (Data k n signal) ≡ Ok a in
    elim (data_is e k n signal arrived is) [
      | inl old ↦ subst P (sym old.0) (noted_course core is_coordinator s came place q e (Data k n signal) arrival.Repeated found at (subst Q old.0 is) (notes_repeated e k n signal old.1))
      | inr next ↦ subst P (sym next) (signal_course core is_coordinator s came place q e k n signal (core.accept s.node q signal) found at (subst Q next is) refl)
    ]

comes_course : {View Row : Type 0} (core : Core View Row) (is_coordinator : Bool) (s : Station View) (came : ℕ → List Frame) (place q : ℕ) (e : Image) (frame : Frame) (r : Result Arrival LinkFault) → slice_get s.ends q ≡ Some e → slice_get (came q) place ≡ Some frame → answer_of e frame ≡ r → answer_of e frame ≢ Err LinkFault.AckOfUnsent → IsCourse core is_coordinator s (event.Frame q frame) came place (comes core is_coordinator s q e frame r)
comes_course core is_coordinator s came place q e frame (Ok arrived) found at is sent = admitted_course core is_coordinator s came place q e frame arrived found at is
comes_course core is_coordinator s came place q e frame (Err fault) found at is sent = turned_course core is_coordinator s came place q e frame fault found (harmless_fault e frame fault is sent)

frame_course : {View Row : Type 0} (core : Core View Row) (is_coordinator : Bool) (s : Station View) (came : ℕ → List Frame) (place q : ℕ) (frame : Frame) (o : Option Image) → slice_get s.ends q ≡ o → Comes s came place (event.Frame q frame) → IsCourse core is_coordinator s (event.Frame q frame) came place (frame_comes core is_coordinator s q frame o)
frame_course core is_coordinator s came place q frame None found h = still core is_coordinator s (event.Frame q frame) came place (Declines 51 []) refl refl
frame_course core is_coordinator s came place q frame (Some e) found h = comes_course core is_coordinator s came place q e frame (answer_of e frame) found h.0 refl (h.1 e found)

resends_course : {View Row : Type 0} (core : Core View Row) (is_coordinator : Bool) (s : Station View) (came : ℕ → List Frame) (place q : ℕ) (o : Option Image) → slice_get s.ends q ≡ o → IsCourse core is_coordinator s (event.Resend q) came place (resends s q o)
resends_course core is_coordinator s came place q None found = still core is_coordinator s (event.Resend q) came place (Declines 51 []) refl refl
resends_course core is_coordinator s came place q (Some e) found =
    same_course core is_coordinator s (event.Resend q) came place (answer_with false (addressed q (resent_by e))) q e (resent_by e) (Resends ∷ []) found
    (λ t there. (refl, ap (λ (x : Image). t.sent ++ resent_by x) there)) (frames_with false (addressed q (resent_by e))) (harmless_with false (addressed q (resent_by e))) (tt, tt)

greets_course : {View Row : Type 0} (core : Core View Row) (is_coordinator : Bool) (s : Station View) (came : ℕ → List Frame) (place q : ℕ) (o : Option Image) → slice_get s.ends q ≡ o → IsCourse core is_coordinator s (event.Hello q) came place (greets s q o)
greets_course core is_coordinator s came place q None found = still core is_coordinator s (event.Hello q) came place (Declines 51 []) refl refl
greets_course core is_coordinator s came place q (Some e) found =
    same_course core is_coordinator s (event.Hello q) came place (answer_with false (greeting q (hello_of e))) q e (link.greeting (hello_of e)) (Greets ∷ []) found
    (λ t there. (refl, ap (λ (x : Image). t.sent ++ link.greeting (hello_of x)) there)) (frames_with false (greeting q (hello_of e)) ∙ as_frames (hello_of e)) (harmless_with false (greeting q (hello_of e))) (tt, tt)
  where
    as_frames : (o : Option Frame) → greeting q o ≡ addressed q (link.greeting o)
    as_frames None = refl
    as_frames (Some frame) = refl

pub step_course : {View Row : Type 0} (core : Core View Row) (is_coordinator : Bool) (s : Station View) (e : Event) (came : ℕ → List Frame) (place : ℕ) → Comes s came place e → IsCourse core is_coordinator s e came place (step_of core is_coordinator s e)
step_course core is_coordinator s (event.Frame q frame) came place h = frame_course core is_coordinator s came place q frame (slice_get s.ends q) refl h
step_course core is_coordinator s (event.Resend q) came place h = resends_course core is_coordinator s came place q (slice_get s.ends q) refl
step_course core is_coordinator s (event.Hello q) came place h = greets_course core is_coordinator s came place q (slice_get s.ends q) refl
step_course core is_coordinator s event.Announce came place h = spoken core is_coordinator s event.Announce came place (core.announce s.node) (announces refl refl)
step_course core is_coordinator s event.Advance came place h = spoken core is_coordinator s event.Advance came place (core.advance s.node) (advances refl refl)
