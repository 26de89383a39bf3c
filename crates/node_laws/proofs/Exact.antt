-- A station answers Nothing to an event exactly where nothing happens.
use Rattle.std.proofs.Common.{◌≡◌, ◌≢◌, ℕ, zero, suc, ◌-◌, max, Bool, true, false, List, [], ◌∷◌, ◌++◌, set, slice_get, Option, None, Some, Result, Ok, Err, nat_lt, if◌then◌else◌, refl, sym, ap, ◌∙◌, arith}
use Rattle.std.specs.Prelude.{◌↔◌, is_ok}
use Rattle.std.proofs.lemmas.Bool.Decides.{nat_tests}
use Rattle.network.proofs.Items.{get_set_here}
use Rattle.signal.specs.declared.signal.Signal.{Signal}
use Rattle.signal.specs.declared.frame.Frame.{Frame}
use Rattle.signal.specs.declared.frame.Frame.TheVariants.{Hello, Data, Ack, Refuse}
use Rattle.link.specs.declared.arrival.Arrival.{Arrival}
use Rattle.link.specs.declared.fault.LinkFault.{LinkFault}
use Rattle.link.specs.Answer.{is_own, answer_when_open}
use Rattle.link.specs.Image.{Image, last_number, offer_of, after_offer, answer_of, after_frame, acknowledge, hello_of, resent_by}
use Rattle.protocol.specs.declared.post.Post.{Post}
use Rattle.protocol.specs.Outcome.{Outcome, Refused, Nothing, Done}
use Rattle.protocol.specs.Refusals.{number_of}
use Rattle.node.specs.declared.outgoing.Outgoing.{Outgoing}
use Rattle.node.specs.declared.event.Event.{Event}
use Rattle.node.specs.declared.event.Event.TheVariants as event
use Rattle.node.specs.Numbers.{closes}
use Rattle.node.specs.Mail.{Mail, framed, offered_at, posted, all_posted, lacks_room}
use Rattle.node.specs.Core.{Core, Made, LacksRoom, Moves, ending_of}
use Rattle.node.specs.Step.{Station, Silent, Says, Declines, Stepped, addressed, answer_with, with_end, acts, refused, takes, acknowledging}
use Rattle.node.specs.Step.{changes, returned, noted, admits, comes, frame_comes, resends, greeting, greets, unsent, step_of}
use Rattle.node_laws.specs.Nothing.{NothingHappens, ActsByChanging}

-- Nothing is answered exactly where nothing happens
abbrev pub Exact : {View : Type 0} → Station View → Stepped View → Type 0
Exact s made = (made.answer ≡ Silent) ↔ NothingHappens s made

-- of a refusal, of frames that go out or a change, and of neither
refuses : {View : Type 0} (s after : Station View) (number : ℕ) (frames : List Outgoing) →
    Exact s (record { station = after; answer = Declines number frames })
refuses s after number frames = (λ is. absurd (let no : Declines number frames ≡ Silent = is in cc), λ nothing. absurd nothing.refuses)

says : {View : Type 0} (s after : Station View) (frames : List Outgoing) → (frames ≡ [] → after ≢ s) →
    Exact s (record { station = after; answer = Says frames })
says s after frames changed = (λ is. absurd (let no : Says frames ≡ Silent = is in cc), λ nothing. absurd (changed nothing.sends nothing.stays))

silent : {View : Type 0} (s after : Station View) → after ≡ s → Exact s (record { station = after; answer = Silent })
silent s after same = (λ is. record { stays = same; sends = tt; refuses = tt }, λ nothing. refl)

-- a list that has something
not_none : {X : Type 0} (x : X) (xs : List X) → (x ∷ xs) ≢ []
not_none x xs none = cc

front_none : {X : Type 0} (xs ys : List X) → (xs ++ ys) ≡ [] → xs ≡ []
front_none [] ys none = refl
front_none (x ∷ xs) ys none = absurd (not_none x (xs ++ ys) none)

-- where nothing is changed but what is sent again
repeats : {View : Type 0} (s : Station View) (frames : List Outgoing) → Exact s (record { station = s; answer = answer_with false frames })
repeats s [] = silent s s refl
repeats s (frame ∷ frames) = says s s (frame ∷ frames) (λ none. absurd (not_none frame frames none))

-- what a node does by itself
acts_if : {View : Type 0} (s : Station View) (made : Made View) (b : Bool) → made.after ≢ s.node →
    Exact s (acts s (if b then LacksRoom else Moves made.after (all_posted (unsent s) made.sent)))
acts_if s made true changed = refuses s s _ []
acts_if s made false changed = says s _ _ (λ none same. changed (ap (λ (x : Station _). x.node) same))

acts_exact : {View : Type 0} (s : Station View) (o : Outcome (Made View)) → ((made : Made View) → o ≡ Done made → made.after ≢ s.node) →
    Exact s (acts s (ending_of (unsent s) o))
acts_exact s (Refused refusal) changed = refuses s s (number_of refusal) []
acts_exact s Nothing changed = silent s s refl
acts_exact s (Done made) changed = acts_if s made (lacks_room s.ends made.sent) (changed made refl)

-- what is to be sent already goes out, whatever is posted
offered_some : (m : Mail) (peer : ℕ) (signal : Signal) (o : Option Image) → m.frames ≢ [] → (offered_at m peer signal o).frames ≢ []
offered_some m peer signal None some = some
offered_some m peer signal (Some e) some = by_test (is_ok (offer_of e signal))
  where
    by_test : (b : Bool) → (if b then record { ends = set m.ends peer (after_offer e signal); frames = m.frames ++ framed peer (offer_of e signal) } else m).frames ≢ []
    by_test true none = some (front_none m.frames (framed peer (offer_of e signal)) none)
    by_test false none = some none

all_some : (m : Mail) (posts : List Post) → m.frames ≢ [] → (all_posted m posts).frames ≢ []
all_some m [] some = some
all_some m (post ∷ posts) some = all_some (posted m post) posts (offered_some m post.peer post.signal (slice_get m.ends post.peer) some)

-- a signal in its turn
refused_exact : {View : Type 0} (s : Station View) (peer : ℕ) (e : Image) (number : ℕ) (closing : Bool) → Exact s (refused s peer e number closing)
refused_exact s peer e number true = refuses s _ number _
refused_exact s peer e number false = refuses s s number []

takes_if : {View : Type 0} (s : Station View) (peer : ℕ) (e : Image) (frame : Frame) (m : Mail) (made : Made View) (b : Bool) → m.frames ≢ [] →
    Exact s (takes s peer e frame m (if b then LacksRoom else Moves made.after (all_posted m made.sent)))
takes_if s peer e frame m made true some = refuses s s _ []
takes_if s peer e frame m made false some = says s _ _ (λ none. absurd (all_some m made.sent some none))

takes_exact : {View : Type 0} (s : Station View) (peer : ℕ) (e : Image) (frame : Frame) (m : Mail) (o : Outcome (Made View)) → m.frames ≢ [] →
    Exact s (takes s peer e frame m (ending_of m o))
takes_exact s peer e frame m (Refused refusal) some = refused_exact s peer e (number_of refusal) (closes refusal)
takes_exact s peer e frame m Nothing some = says s _ _ (λ none. absurd (some none))
takes_exact s peer e frame m (Done made) some = takes_if s peer e frame m made (lacks_room m.ends made.sent) some

-- a peer's end is replaced by itself, or by another one
put_back : {X : Type 0} (xs : List X) (i : ℕ) (x : X) → slice_get xs i ≡ Some x → set xs i x ≡ xs
put_back [] i x found = refl
put_back (a ∷ xs) zero x found = grind arith
put_back (a ∷ xs) (suc i) x found = ap (λ rest. a ∷ rest) (put_back xs i x found)

end_stays : {View : Type 0} (s : Station View) (peer : ℕ) (e f : Image) → slice_get s.ends peer ≡ Some e → f ≡ e → with_end s peer f ≡ s
end_stays s peer e f found same = ap (λ ends. record s { ends = ends }) (ap (set s.ends peer) same ∙ put_back s.ends peer e found)

end_changes : {View : Type 0} (s : Station View) (peer : ℕ) (e f : Image) → slice_get s.ends peer ≡ Some e → f ≢ e → with_end s peer f ≢ s
end_changes s peer e f found other same =
    let both : Some f ≡ Some e = sym (get_set_here s.ends peer e f found) ∙ ap (λ (x : Station _). slice_get x.ends peer) same ∙ found in
    other cc

-- a frame that the end takes in by itself
noted_if : {View : Type 0} (s : Station View) (peer : ℕ) (e f : Image) (b : Bool) (frames : List Outgoing) → slice_get s.ends peer ≡ Some e →
    (b ≡ true → f ≢ e) → (b ≡ false → frames ≡ [] → f ≡ e) → Exact s (record { station = with_end s peer f; answer = answer_with b frames })
noted_if s peer e f true frames found other same = says s (with_end s peer f) frames (λ none. end_changes s peer e f found (other refl))
noted_if s peer e f false [] found other same = silent s (with_end s peer f) (end_stays s peer e f found (same refl refl))
noted_if s peer e f false (frame ∷ frames) found other same = says s (with_end s peer f) (frame ∷ frames) (λ none. absurd (not_none frame frames none))

more_acknowledged : (e : Image) (n : ℕ) → nat_lt e.acknowledged n ≡ true → acknowledge e n ≢ e
more_acknowledged e n more same =
    let most : max e.acknowledged n ≡ e.acknowledged = ap (λ i. i.acknowledged) same in
    grind (arith, nat_tests, most)

none_acknowledged : (e : Image) (n : ℕ) → nat_lt e.acknowledged n ≡ false → acknowledge e n ≡ e
none_acknowledged e n less =
    let below : n - e.acknowledged ≡ 0 = grind (arith, nat_tests) in
    let most : max e.acknowledged n ≡ e.acknowledged = grind (arith, nat_tests) in
    rw (below, most) refl

open_if : (own closed : Bool) (r : Result Arrival LinkFault) (arrival : Arrival) →
    (if own then (if closed then Err LinkFault.Closed else r) else Err LinkFault.Stranger) ≡ Ok arrival → closed ≡ false
open_if true true r arrival is = absurd cc
open_if true false r arrival is = refl
open_if false closed r arrival is = absurd cc

is_open : (e : Image) (frame : Frame) (arrival : Arrival) → answer_of e frame ≡ Ok arrival → e.closed ≡ false
is_open e frame arrival is = open_if (is_own e.federate e.incarnation frame) e.closed (answer_when_open (last_number e) e.taken frame) arrival is

noted_exact : {View : Type 0} (s : Station View) (peer : ℕ) (e : Image) (frame : Frame) → slice_get s.ends peer ≡ Some e → e.closed ≡ false →
    Exact s (noted s peer e frame)
noted_exact s peer e (Hello hello) found still =
    noted_if s peer e (acknowledge e hello.last_taken) (changes e (Hello hello)) (addressed peer (returned (acknowledge e hello.last_taken) (Hello hello))) found
    (more_acknowledged e hello.last_taken) (λ less none. none_acknowledged e hello.last_taken less)
noted_exact s peer e (Data i n signal) found still =
    let f : Image = after_frame e (Data i n signal) in
    noted_if s peer e f false (addressed peer (returned f (Data i n signal))) found (λ no. absurd cc) (λ yes none. absurd (not_none _ [] none))
noted_exact s peer e (Ack i n) found still =
    noted_if s peer e (acknowledge e n) (changes e (Ack i n)) [] found (more_acknowledged e n) (λ less none. none_acknowledged e n less)
noted_exact s peer e (Refuse i number) found still =
    noted_if s peer e (record e { closed = true }) true [] found
    (λ yes same. (let no : true ≡ false = ap (λ (x : Image). x.closed) same ∙ still in cc)) (λ no. absurd cc)

admits_exact : {View Row : Type 0} (core : Core View Row) (s : Station View) (peer : ℕ) (e : Image) (frame : Frame) (arrival : Arrival) →
    slice_get s.ends peer ≡ Some e → e.closed ≡ false → Exact s (admits core s peer e frame arrival)
admits_exact core s peer e (Data i n signal) Arrival.Signal found still =
    takes_exact s peer e (Data i n signal) (acknowledging s peer e (Data i n signal)) (core.accept s.node peer signal) (not_none _ [])
admits_exact core s peer e frame arrival found still = noted_exact s peer e frame found still

comes_exact : {View Row : Type 0} (core : Core View Row) (is_coordinator : Bool) (s : Station View) (peer : ℕ) (e : Image) (frame : Frame) (r : Result Arrival LinkFault) →
    slice_get s.ends peer ≡ Some e → answer_of e frame ≡ r → Exact s (comes core is_coordinator s peer e frame r)
comes_exact core is_coordinator s peer e frame (Ok arrival) found is = admits_exact core s peer e frame arrival found (is_open e frame arrival is)
comes_exact core is_coordinator s peer e frame (Err fault) found is = refuses s s _ _

frame_exact : {View Row : Type 0} (core : Core View Row) (is_coordinator : Bool) (s : Station View) (peer : ℕ) (frame : Frame) (o : Option Image) →
    slice_get s.ends peer ≡ o → Exact s (frame_comes core is_coordinator s peer frame o)
frame_exact core is_coordinator s peer frame None found = refuses s s _ []
frame_exact core is_coordinator s peer frame (Some e) found = comes_exact core is_coordinator s peer e frame (answer_of e frame) found refl

resends_exact : {View : Type 0} (s : Station View) (peer : ℕ) (o : Option Image) → Exact s (resends s peer o)
resends_exact s peer None = refuses s s _ []
resends_exact s peer (Some e) = repeats s (addressed peer (resent_by e))

greets_exact : {View : Type 0} (s : Station View) (peer : ℕ) (o : Option Image) → Exact s (greets s peer o)
greets_exact s peer None = refuses s s _ []
greets_exact s peer (Some e) = repeats s (greeting peer (hello_of e))

pub step_exact : {View Row : Type 0} (core : Core View Row) → ActsByChanging core → (is_coordinator : Bool) (s : Station View) (e : Event) →
    Exact s (step_of core is_coordinator s e)
step_exact core by is_coordinator s (event.Frame peer frame) = frame_exact core is_coordinator s peer frame (slice_get s.ends peer) refl
step_exact core by is_coordinator s (event.Resend peer) = resends_exact s peer (slice_get s.ends peer)
step_exact core by is_coordinator s (event.Hello peer) = greets_exact s peer (slice_get s.ends peer)
step_exact core by is_coordinator s event.Announce = acts_exact s (core.announce s.node) (by.announce s.node)
step_exact core by is_coordinator s event.Advance = acts_exact s (core.advance s.node) (by.advance s.node)

-- of a core of which nothing is known, in the one direction
acts_only : {View : Type 0} (s : Station View) (o : Outcome (Made View)) → (acts s (ending_of (unsent s) o)).answer ≡ Silent →
    NothingHappens s (acts s (ending_of (unsent s) o))
acts_only s (Refused refusal) is = (refuses s s (number_of refusal) []).0 is
acts_only s Nothing is = (silent s s refl).0 is
acts_only s (Done made) is = by_test (lacks_room s.ends made.sent) is
  where
    by_test : (b : Bool) → (acts s (if b then LacksRoom else Moves made.after (all_posted (unsent s) made.sent))).answer ≡ Silent →
        NothingHappens s (acts s (if b then LacksRoom else Moves made.after (all_posted (unsent s) made.sent)))
    by_test true is = absurd cc
    by_test false is = absurd cc

pub step_only : {View Row : Type 0} (core : Core View Row) (is_coordinator : Bool) (s : Station View) (e : Event) →
    (step_of core is_coordinator s e).answer ≡ Silent → NothingHappens s (step_of core is_coordinator s e)
step_only core is_coordinator s (event.Frame peer frame) is = (frame_exact core is_coordinator s peer frame (slice_get s.ends peer) refl).0 is
step_only core is_coordinator s (event.Resend peer) is = (resends_exact s peer (slice_get s.ends peer)).0 is
step_only core is_coordinator s (event.Hello peer) is = (greets_exact s peer (slice_get s.ends peer)).0 is
step_only core is_coordinator s event.Announce is = acts_only s (core.announce s.node) is
step_only core is_coordinator s event.Advance is = acts_only s (core.advance s.node) is
