-- Through every step a station's node goes on.
use Rattle.std.proofs.Common.{◌≡◌, ℕ, Bool, true, false, [], slice_get, Option, None, Some, Result, Ok, Err, refl, sym}
use Rattle.std.proofs.lemmas.List.{append-nil}
use Rattle.signal.specs.declared.frame.Frame.{Frame}
use Rattle.signal.specs.declared.frame.Frame.TheVariants.{Data}
use Rattle.link.specs.declared.arrival.Arrival.{Arrival}
use Rattle.link.specs.declared.fault.LinkFault.{LinkFault}
use Rattle.link.specs.Image.{Image, answer_of}
use Rattle.protocol.specs.Outcome as outcome
use Rattle.node.specs.declared.event.Event.{Event}
use Rattle.node.specs.declared.event.Event.TheVariants as event
use Rattle.node.specs.Numbers.{closes}
use Rattle.node.specs.Mail.{Mail, lacks_room}
use Rattle.node.specs.Core.{Core, Made, IsCore, GoesOn, Ending, Refuses, LacksRoom, Stays, Moves, ending_of, node_after}
use Rattle.protocol.specs.Refusals.{number_of}
use Rattle.node.specs.Step.{Station, refused, acts, takes, admits, comes, frame_comes, resends, greets, step_of}
use Rattle.node.specs.Step.{acknowledging, unsent}

-- what stays as it is goes on
stays : {View Row : Type 0} (core : Core View Row) (v : View) → GoesOn core v v
stays core v = record { rows = ([], sym (append-nil (core.rows v))); initial = refl }

moves : {View Row : Type 0} (core : Core View Row) (v : View) (m : Mail) (made : Made View) (b : Bool) → lacks_room m.ends made.sent ≡ b → GoesOn core v made.after →
    GoesOn core v (node_after v (ending_of m (outcome.Done made)))
moves core v m made true is goes = rw is (stays core v)
moves core v m made false is goes = rw is goes

ends_ahead : {View Row : Type 0} (core : Core View Row) (v : View) (m : Mail) (o : outcome.Outcome (Made View)) →
    ((made : Made View) → o ≡ outcome.Done made → GoesOn core v made.after) → GoesOn core v (node_after v (ending_of m o))
ends_ahead core v m (outcome.Refused refusal) goes = stays core v
ends_ahead core v m outcome.Nothing goes = stays core v
ends_ahead core v m (outcome.Done made) goes = moves core v m made (lacks_room m.ends made.sent) refl (goes made refl)

acts_ahead : {View Row : Type 0} (core : Core View Row) (s : Station View) (ending : Ending View) → GoesOn core s.node (node_after s.node ending) →
    GoesOn core s.node (acts s ending).station.node
acts_ahead core s (Refuses refusal) goes = goes
acts_ahead core s LacksRoom goes = goes
acts_ahead core s Stays goes = goes
acts_ahead core s (Moves after mail) goes = goes

refused_ahead : {View Row : Type 0} (core : Core View Row) (s : Station View) (peer : ℕ) (e : Image) (number : ℕ) (closing : Bool) →
    GoesOn core s.node (refused s peer e number closing).station.node
refused_ahead core s peer e number true = stays core s.node
refused_ahead core s peer e number false = stays core s.node

takes_ahead : {View Row : Type 0} (core : Core View Row) (s : Station View) (peer : ℕ) (e : Image) (frame : Frame) (m : Mail) (ending : Ending View) →
    GoesOn core s.node (node_after s.node ending) → GoesOn core s.node (takes s peer e frame m ending).station.node
takes_ahead core s peer e frame m (Refuses refusal) goes = refused_ahead core s peer e (number_of refusal) (closes refusal)
takes_ahead core s peer e frame m LacksRoom goes = goes
takes_ahead core s peer e frame m Stays goes = goes
takes_ahead core s peer e frame m (Moves after mail) goes = goes

lets_in_ahead : {View Row : Type 0} (core : Core View Row) → IsCore core → (s : Station View) (peer : ℕ) (e : Image) (frame : Frame) (arrival : Arrival) →
    GoesOn core s.node (admits core s peer e frame arrival).station.node
lets_in_ahead core is s peer e (Data i n signal) Arrival.Signal =
    takes_ahead core s peer e (Data i n signal) (acknowledging s peer e (Data i n signal))
    (ending_of (acknowledging s peer e (Data i n signal)) (core.accept s.node peer signal))
    (ends_ahead core s.node (acknowledging s peer e (Data i n signal)) (core.accept s.node peer signal) (is.accept s.node peer signal))
lets_in_ahead core is s peer e frame arrival = stays core s.node

comes_ahead : {View Row : Type 0} (core : Core View Row) → IsCore core → (is_coordinator : Bool) (s : Station View) (peer : ℕ) (e : Image) (frame : Frame) (r : Result Arrival LinkFault) →
    GoesOn core s.node (comes core is_coordinator s peer e frame r).station.node
comes_ahead core is is_coordinator s peer e frame (Ok arrival) = lets_in_ahead core is s peer e frame arrival
comes_ahead core is is_coordinator s peer e frame (Err fault) = stays core s.node

frame_ahead : {View Row : Type 0} (core : Core View Row) → IsCore core → (is_coordinator : Bool) (s : Station View) (peer : ℕ) (frame : Frame) (o : Option Image) →
    GoesOn core s.node (frame_comes core is_coordinator s peer frame o).station.node
frame_ahead core is is_coordinator s peer frame None = stays core s.node
frame_ahead core is is_coordinator s peer frame (Some e) = comes_ahead core is is_coordinator s peer e frame (answer_of e frame)

resends_ahead : {View Row : Type 0} (core : Core View Row) (s : Station View) (peer : ℕ) (o : Option Image) → GoesOn core s.node (resends s peer o).station.node
resends_ahead core s peer None = stays core s.node
resends_ahead core s peer (Some e) = stays core s.node

greets_ahead : {View Row : Type 0} (core : Core View Row) (s : Station View) (peer : ℕ) (o : Option Image) → GoesOn core s.node (greets s peer o).station.node
greets_ahead core s peer None = stays core s.node
greets_ahead core s peer (Some e) = stays core s.node

pub ahead : {View Row : Type 0} (core : Core View Row) → IsCore core → (is_coordinator : Bool) (s : Station View) (e : Event) → GoesOn core s.node (step_of core is_coordinator s e).station.node
ahead core is is_coordinator s (event.Frame peer frame) = frame_ahead core is is_coordinator s peer frame (slice_get s.ends peer)
ahead core is is_coordinator s (event.Resend peer) = resends_ahead core s peer (slice_get s.ends peer)
ahead core is is_coordinator s (event.Hello peer) = greets_ahead core s peer (slice_get s.ends peer)
ahead core is is_coordinator s event.Announce =
    acts_ahead core s (ending_of (unsent s) (core.announce s.node)) (ends_ahead core s.node (unsent s) (core.announce s.node) (is.announce s.node))
ahead core is is_coordinator s event.Advance =
    acts_ahead core s (ending_of (unsent s) (core.advance s.node)) (ends_ahead core s.node (unsent s) (core.advance s.node) (is.advance s.node))
