-- Through every step what a station was made from stays: its node's initial state, and each end without its history.
use Rattle.std.proofs.Common.{◌≡◌, ℕ, suc, zero, ◌∙◌, sym, ap, Bool, true, false, List, [], ◌∷◌, map, set, slice_get, Option, None, Some, Result, Ok, Err, refl, arith}
use Rattle.signal.specs.declared.frame.Frame.{Frame}
use Rattle.signal.specs.declared.frame.Frame.TheVariants.{Hello, Data, Ack, Refuse}
use Rattle.link.specs.declared.arrival.Arrival.{Arrival}
use Rattle.link.specs.declared.fault.LinkFault.{LinkFault}
use Rattle.link.specs.Image.{Image, answer_of, after_frame, after_close}
use Rattle.protocol.specs.Outcome.{Outcome}
use Rattle.protocol.specs.Refusals.{number_of}
use Rattle.node.specs.declared.event.Event.{Event}
use Rattle.node.specs.declared.event.Event.TheVariants as event
use Rattle.node.specs.Numbers.{closes}
use Rattle.node.specs.Mail.{Mail, bare}
use Rattle.node.specs.Core.{Core, Made, IsCore, Ending, Refuses, LacksRoom, Stays, Moves, ending_of, mail_after}
use Rattle.node.specs.Step.{Station, fresh, initial_of, received, received_at, refused, acts, takes, noted, admits}
use Rattle.node.specs.Step.{comes, frame_comes, resends, greets, step_of, acknowledging, unsent}
use Rattle.node.proofs.Calls.{bare_after}
use Rattle.node.proofs.Ahead.{ahead}

-- what an end was made from doesn't depend on what it keeps
fresh_bare : (ends : List Image) → map fresh ends ≡ map fresh (map bare ends)
fresh_bare [] = refl
fresh_bare (e ∷ ends) = ap (λ l. fresh e ∷ l) (fresh_bare ends)

fresh_if_bare : (xs ys : List Image) → map bare xs ≡ map bare ys → map fresh xs ≡ map fresh ys
fresh_if_bare xs ys same = fresh_bare xs ∙ ap (map fresh) same ∙ sym (fresh_bare ys)

set_fresh : (ends : List Image) (i : ℕ) (e f : Image) → slice_get ends i ≡ Some e → fresh f ≡ fresh e → map fresh (set ends i f) ≡ map fresh ends
set_fresh [] i e f found same = refl
set_fresh (a ∷ ends) zero e f found same = grind arith
set_fresh (a ∷ ends) (suc i) e f found same = grind (arith, set_fresh ends i e f found same)

frame_fresh : (e : Image) (frame : Frame) → fresh (after_frame e frame) ≡ fresh e
frame_fresh e (Hello hello) = refl
frame_fresh e (Data i n signal) = refl
frame_fresh e (Ack i n) = refl
frame_fresh e (Refuse i number) = refl

received_at_fresh : (ends : List Image) (peer : ℕ) (frame : Frame) (o : Option Image) → slice_get ends peer ≡ o →
    map fresh (received_at ends peer frame o) ≡ map fresh ends
received_at_fresh ends peer frame None is = refl
received_at_fresh ends peer frame (Some e) is = set_fresh ends peer e (after_frame e frame) is (frame_fresh e frame)

received_fresh : (peer : ℕ) (frame : Frame) (m : Mail) → map fresh (received peer frame m).ends ≡ map fresh m.ends
received_fresh peer frame m = received_at_fresh m.ends peer frame (slice_get m.ends peer) refl

ended_fresh : {View : Type 0} (m : Mail) (made : Outcome (Made View)) → map fresh (mail_after m (ending_of m made)).ends ≡ map fresh m.ends
ended_fresh m made = fresh_if_bare (mail_after m (ending_of m made)).ends m.ends (bare_after m made)

acts_fresh : {View : Type 0} (s : Station View) (ending : Ending View) → map fresh (mail_after (unsent s) ending).ends ≡ map fresh s.ends →
    map fresh (acts s ending).station.ends ≡ map fresh s.ends
acts_fresh s (Refuses refusal) same = refl
acts_fresh s LacksRoom same = refl
acts_fresh s Stays same = refl
acts_fresh s (Moves after mail) same = same

refused_fresh : {View : Type 0} (s : Station View) (peer : ℕ) (e : Image) (number : ℕ) (closing : Bool) → slice_get s.ends peer ≡ Some e →
    map fresh (refused s peer e number closing).station.ends ≡ map fresh s.ends
refused_fresh s peer e number true is = set_fresh s.ends peer e (after_close e) is refl
refused_fresh s peer e number false is = refl

takes_fresh : {View : Type 0} (s : Station View) (peer : ℕ) (e : Image) (frame : Frame) (m : Mail) (ending : Ending View) → slice_get s.ends peer ≡ Some e →
    m.ends ≡ s.ends → map fresh (mail_after m ending).ends ≡ map fresh m.ends → map fresh (takes s peer e frame m ending).station.ends ≡ map fresh s.ends
takes_fresh s peer e frame m (Refuses refusal) is here same = refused_fresh s peer e (number_of refusal) (closes refusal) is
takes_fresh s peer e frame m LacksRoom is here same = refl
takes_fresh s peer e frame m Stays is here same = received_fresh peer frame m ∙ ap (map fresh) here
takes_fresh s peer e frame m (Moves after mail) is here same = received_fresh peer frame mail ∙ same ∙ ap (map fresh) here

noted_fresh : {View : Type 0} (s : Station View) (peer : ℕ) (e : Image) (frame : Frame) → slice_get s.ends peer ≡ Some e →
    map fresh (noted s peer e frame).station.ends ≡ map fresh s.ends
noted_fresh s peer e frame is = set_fresh s.ends peer e (after_frame e frame) is (frame_fresh e frame)

lets_in_fresh : {View Row : Type 0} (core : Core View Row) (s : Station View) (peer : ℕ) (e : Image) (frame : Frame) (arrival : Arrival) →
    slice_get s.ends peer ≡ Some e → map fresh (admits core s peer e frame arrival).station.ends ≡ map fresh s.ends
lets_in_fresh core s peer e (Data i n signal) Arrival.Signal is =
    takes_fresh s peer e (Data i n signal) (acknowledging s peer e (Data i n signal))
    (ending_of (acknowledging s peer e (Data i n signal)) (core.accept s.node peer signal)) is refl
    (ended_fresh (acknowledging s peer e (Data i n signal)) (core.accept s.node peer signal))
lets_in_fresh core s peer e frame arrival is = noted_fresh s peer e frame is

comes_fresh : {View Row : Type 0} (core : Core View Row) (is_coordinator : Bool) (s : Station View) (peer : ℕ) (e : Image) (frame : Frame) (r : Result Arrival LinkFault) →
    slice_get s.ends peer ≡ Some e → map fresh (comes core is_coordinator s peer e frame r).station.ends ≡ map fresh s.ends
comes_fresh core is_coordinator s peer e frame (Ok arrival) is = lets_in_fresh core s peer e frame arrival is
comes_fresh core is_coordinator s peer e frame (Err fault) is = refl

frame_comes_fresh : {View Row : Type 0} (core : Core View Row) (is_coordinator : Bool) (s : Station View) (peer : ℕ) (frame : Frame) (o : Option Image) →
    slice_get s.ends peer ≡ o → map fresh (frame_comes core is_coordinator s peer frame o).station.ends ≡ map fresh s.ends
frame_comes_fresh core is_coordinator s peer frame None is = refl
frame_comes_fresh core is_coordinator s peer frame (Some e) is = comes_fresh core is_coordinator s peer e frame (answer_of e frame) is

resends_fresh : {View : Type 0} (s : Station View) (peer : ℕ) (o : Option Image) → map fresh (resends s peer o).station.ends ≡ map fresh s.ends
resends_fresh s peer None = refl
resends_fresh s peer (Some e) = refl

greets_fresh : {View : Type 0} (s : Station View) (peer : ℕ) (o : Option Image) → map fresh (greets s peer o).station.ends ≡ map fresh s.ends
greets_fresh s peer None = refl
greets_fresh s peer (Some e) = refl

step_fresh : {View Row : Type 0} (core : Core View Row) (is_coordinator : Bool) (s : Station View) (e : Event) → map fresh (step_of core is_coordinator s e).station.ends ≡ map fresh s.ends
step_fresh core is_coordinator s (event.Frame peer frame) = frame_comes_fresh core is_coordinator s peer frame (slice_get s.ends peer) refl
step_fresh core is_coordinator s (event.Resend peer) = resends_fresh s peer (slice_get s.ends peer)
step_fresh core is_coordinator s (event.Hello peer) = greets_fresh s peer (slice_get s.ends peer)
step_fresh core is_coordinator s event.Announce = acts_fresh s (ending_of (unsent s) (core.announce s.node)) (ended_fresh (unsent s) (core.announce s.node))
step_fresh core is_coordinator s event.Advance = acts_fresh s (ending_of (unsent s) (core.advance s.node)) (ended_fresh (unsent s) (core.advance s.node))

station_of : {View : Type 0} → View → List Image → Station View
station_of node ends = record { node = node; ends = ends }

pub initial_stays : {View Row : Type 0} (core : Core View Row) → IsCore core → (is_coordinator : Bool) (s : Station View) (e : Event) →
    initial_of core (step_of core is_coordinator s e).station ≡ initial_of core s
initial_stays core is is_coordinator s e = rw ((ahead core is is_coordinator s e).initial, step_fresh core is_coordinator s e) refl
