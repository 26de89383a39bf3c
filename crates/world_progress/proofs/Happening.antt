-- What certain steps do in a world in which nobody forgot: what is sent again, a signal that comes once more, an acknowledgement, and a
-- signal in its turn where there is room for what its receiver sends.
use Rattle.std.proofs.Common.{◌≡◌, ℕ, suc, ◌<◌, max, Bool, true, false, List, [], ◌∷◌, ◌++◌, length, map, set, get_or, slice_get, refl, sym, ap, subst, ◌∙◌, arith, Option, None, Some, Ok, IsTrue, if◌then◌else◌}
use Rattle.std.proofs.lemmas.Bool.{lt-ltb}
use Rattle.network.proofs.Items.{get_set_here}
use Rattle.signal.specs.declared.signal.Signal.{Signal}
use Rattle.signal.specs.declared.frame.Frame.{Frame}
use Rattle.signal.specs.declared.frame.Frame.TheVariants.{Data, Ack}
use Rattle.link.specs.declared.arrival.Arrival.{Arrival}
use Rattle.link.specs.declared.arrival.Arrival.TheVariants as arrival
use Rattle.link.specs.Image.{Image, answer_of, after_frame, ack_of, resent_by}
use Rattle.plan.specs.declared.draft.Draft.{Draft}
use Rattle.plan.specs.declared.input.Input.{Input}
use Rattle.plan.specs.Federation.{federate_count}
use Rattle.reactor_program.specs.Behaviour.{Behaviour}
use Rattle.protocol.specs.declared.refusal.Refusal.{Refusal}
use Rattle.protocol.specs.declared.refusal.Refusal.TheVariants.{Late, OldGrant, WrongSignal, NotYours, BelowGrant, NotRising, AfterStop, NotForCoordinator}
use Rattle.protocol.specs.Refusals.{number_of}
use Rattle.protocol.specs.Outcome as machine
use Rattle.node.specs.declared.outgoing.Outgoing.{Outgoing}
use Rattle.node.specs.declared.event.Event.{Event}
use Rattle.node.specs.declared.event.Event.TheVariants as event
use Rattle.node.specs.declared.node_id.NodeId.TheVariants.{Coordinator, Federate}
use Rattle.node.specs.Numbers.{closes}
use Rattle.node.specs.Mail.{Mail, all_posted, bare, lacks_room}
use Rattle.node.specs.Core.{Core, Made, LacksRoom, Moves, ending_of}
use Rattle.node.specs.Step.{Station, Answer, Silent, Says, Declines, Stepped, addressed, answer_with, received}
use Rattle.node.specs.Step.{received_at, refused, takes, acknowledging, returned, changes, noted, admits, comes}
use Rattle.node.specs.Step.{frame_comes, resends, step_of}
use Rattle.node.proofs.Posts.{all_posted_bare, bare_at}
use Rattle.node_cores.specs.FederateCore.{FederateNode, federate_core}
use Rattle.node_cores.specs.CoordinatorCore.{CoordinatorNode, coordinator_core}
use Rattle.world_stations.specs.declared.dir.Dir.{Dir}
use Rattle.world_stations.specs.declared.dir.Dir.TheVariants.{Up, Down}
use Rattle.world_stations.specs.declared.step.Step.TheVariants.{Deliver, Resend}
use Rattle.world_stations.specs.World.{frames_in, federate_of, delivered, Occurrence, if_there, frames_of, sent_out, Applied, after_coordinator, after_federate, at_federate, happens, outcome_of}
use Rattle.world_stations.specs.Taken.{own_end, receiver, sender}
use Rattle.world_stations.specs.Federation.{Federation, IsHarmless, is_harmless, step_in}
use Rattle.world_stations.proofs.Posting.{frames_to, to_itself}
use Rattle.world_stations.proofs.Course.{IsHarmlessAnswer}
use Rattle.world_stations.proofs.Courses.{frames_with, some_of}
use Rattle.world_stations.proofs.Shown.{got, sent_out_at}
use Rattle.world_progress.proofs.Reached.{Reached}
use Rattle.world_progress.specs.Fair.{back}
use Rattle.world_progress.proofs.Facing.{side_out, side_in}

-- the frames of a station's answer, as they are appended
unaddressed : (q : ℕ) (frames : List Frame) → map (λ (out : Outgoing). out.frame) (addressed q frames) ≡ frames
unaddressed q [] = refl
unaddressed q (frame ∷ rest) = ap (λ (x : List Frame). frame ∷ x) (unaddressed q rest)

coordinator_sends : (w : Federation) (made : Stepped CoordinatorNode) (j : ℕ) (before frames : List Frame) → slice_get w.down j ≡ Some before → frames_of made.answer ≡ addressed j frames → frames_in (after_coordinator w made).world (Down j) ≡ before ++ frames
coordinator_sends w made j before frames found are =
    got (sent_out w.down (frames_of made.answer)) j (before ++ frames_to j (frames_of made.answer)) [] (sent_out_at w.down (frames_of made.answer) j before found) ∙
    ap (λ (x : List Frame). before ++ x) (ap (frames_to j) are ∙ to_itself j frames)

own_sends : (w : Federation) (made : Stepped FederateNode) (j : ℕ) (before frames : List Frame) → slice_get w.up j ≡ Some before → frames_of made.answer ≡ addressed 0 frames → frames_in (after_federate w j made).world (Up j) ≡ before ++ frames
own_sends w made j before frames found are =
    got (set w.up j (get_or w.up j [] ++ map (λ (out : Outgoing). out.frame) (frames_of made.answer))) j (get_or w.up j [] ++ map (λ (out : Outgoing). out.frame) (frames_of made.answer)) []
    (get_set_here w.up j before (get_or w.up j [] ++ map (λ (out : Outgoing). out.frame) (frames_of made.answer)) found) ∙
    ap (λ (x : List Frame). x ++ map (λ (out : Outgoing). out.frame) (frames_of made.answer)) (got w.up j before [] found) ∙
    ap (λ (x : List Frame). before ++ x) (ap (λ (x : List Outgoing). map (λ (out : Outgoing). out.frame) x) are ∙ unaddressed 0 frames)

-- what happens at the stations
pub at_own : (w : Federation) (j : ℕ) (s : Station FederateNode) (e : Event) → slice_get w.federates j ≡ Some s → at_federate federate_core w j e (slice_get w.federates j) ≡ after_federate w j (step_of federate_core false s e)
at_own w j s e there = ap (λ (o : Option (Station FederateNode)). at_federate federate_core w j e o) there

pub if_below : (w : Federation) (j : ℕ) (o : Occurrence) → j < length w.federates → happens coordinator_core federate_core w (if_there w j o) ≡ happens coordinator_core federate_core w (Some o)
if_below w j o below = ap (λ (b : Bool). happens coordinator_core federate_core w (if b then Some o else None)) (lt-ltb j (length w.federates) below)

-- a frame comes
frame_at_coordinator : (w : Federation) (j k : ℕ) (frame : Frame) → slice_get (frames_in w (Up j)) k ≡ Some frame → happens coordinator_core federate_core w (delivered (Up j) (slice_get (frames_in w (Up j)) k)) ≡ after_coordinator w (step_of coordinator_core true w.coordinator (event.Frame j frame))
frame_at_coordinator w j k frame found = ap (λ (o : Option Frame). happens coordinator_core federate_core w (delivered (Up j) o)) found

frame_at_own : (w : Federation) (j k : ℕ) (s : Station FederateNode) (frame : Frame) → slice_get w.federates j ≡ Some s → slice_get (frames_in w (Down j)) k ≡ Some frame → happens coordinator_core federate_core w (delivered (Down j) (slice_get (frames_in w (Down j)) k)) ≡ after_federate w j (step_of federate_core false s (event.Frame 0 frame))
frame_at_own w j k s frame there found = ap (λ (o : Option Frame). happens coordinator_core federate_core w (delivered (Down j) o)) found ∙ at_own w j s (event.Frame 0 frame) there

-- a station's step at a frame that its end takes in by itself
comes_at : {View Row : Type 0} (core : Core View Row) (is_coordinator : Bool) (s : Station View) (q : ℕ) (e : Image) (frame : Frame) (arrived : Arrival) → slice_get s.ends q ≡ Some e → answer_of e frame ≡ Ok arrived → step_of core is_coordinator s (event.Frame q frame) ≡ admits core s q e frame arrived
comes_at core is_coordinator s q e frame arrived found is = ap (frame_comes core is_coordinator s q frame) found ∙ ap (comes core is_coordinator s q e frame) is

noted_frames : {View : Type 0} (s : Station View) (q : ℕ) (e : Image) (frame : Frame) → frames_of (noted s q e frame).answer ≡ addressed q (returned (after_frame e frame) frame)
noted_frames s q e frame = frames_with (changes e frame) (addressed q (returned (after_frame e frame) frame))

-- the stations of a federate's link
own_place : (d : Draft) (programs : List Behaviour) (inputs : List Input) (w : Federation) (r : Reached d programs inputs w) (j : ℕ) (below : j < federate_count d) → slice_get (r.run.shown.each j below).station.ends 0 ≡ Some (r.links j).second.end
own_place d programs inputs w r j below = ap (λ (x : List Image). slice_get x 0) (r.run.shown.each j below).second

own_there : (d : Draft) (programs : List Behaviour) (inputs : List Input) (w : Federation) (r : Reached d programs inputs w) (j : ℕ) → j < federate_count d → j < length w.federates
own_there d programs inputs w r j below = let size = r.run.shown.federates in omega arith

-- a sender sends again what it keeps
pub sends_again : (d : Draft) (programs : List Behaviour) (inputs : List Input) (w : Federation) (r : Reached d programs inputs w) (dir : Dir) → federate_of dir < federate_count d → frames_in (step_in w (Resend dir)).world dir ≡ frames_in w dir ++ resent_by (side_out dir r.links).end
sends_again d programs inputs w r (Up j) below =
    let at = r.run.shown.each j below in
    let place = own_place d programs inputs w r j below in
    let here = own_there d programs inputs w r j below in
    let there : slice_get w.federates j ≡ Some at.station = at.there in
    let step : step_of federate_core false at.station (event.Resend 0) ≡ record { station = at.station; answer = answer_with false (addressed 0 (resent_by (r.links j).second.end)) } = ap (resends at.station 0) place in
    let frames : frames_of (step_of federate_core false at.station (event.Resend 0)).answer ≡ addressed 0 (resent_by (r.links j).second.end) = ap (λ (x : Stepped FederateNode). frames_of x.answer) step ∙ frames_with false (addressed 0 (resent_by (r.links j).second.end)) in
    let all = own_sends w (step_of federate_core false at.station (event.Resend 0)) j (r.links j).second.sent (resent_by (r.links j).second.end) at.up frames in
    ap (λ (x : Applied CoordinatorNode FederateNode). frames_in x.world (Up j)) (if_below w j (record { node = Federate j; event = event.Resend 0 }) here ∙ at_own w j at.station (event.Resend 0) there) ∙
    all ∙ ap (λ (x : List Frame). x ++ resent_by (r.links j).second.end) (sym (got w.up j (r.links j).second.sent [] at.up))
sends_again d programs inputs w r (Down j) below =
    let at = r.run.shown.each j below in
    let here = own_there d programs inputs w r j below in
    let step : step_of coordinator_core true w.coordinator (event.Resend j) ≡ record { station = w.coordinator; answer = answer_with false (addressed j (resent_by (r.links j).first.end)) } = ap (resends w.coordinator j) at.first in
    let frames : frames_of (step_of coordinator_core true w.coordinator (event.Resend j)).answer ≡ addressed j (resent_by (r.links j).first.end) = ap (λ (x : Stepped CoordinatorNode). frames_of x.answer) step ∙ frames_with false (addressed j (resent_by (r.links j).first.end)) in
    let all = coordinator_sends w (step_of coordinator_core true w.coordinator (event.Resend j)) j (r.links j).first.sent (resent_by (r.links j).first.end) at.down frames in
    ap (λ (x : Applied CoordinatorNode FederateNode). frames_in x.world (Down j)) (if_below w j (record { node = Coordinator; event = event.Resend j }) here) ∙
    all ∙ ap (λ (x : List Frame). x ++ resent_by (r.links j).first.end) (sym (got w.down j (r.links j).first.sent [] at.down))

-- a signal that comes once more is acknowledged again
pub repeats : (d : Draft) (programs : List Behaviour) (inputs : List Input) (w : Federation) (r : Reached d programs inputs w) (dir : Dir) (place k n : ℕ) (signal : Signal) → federate_of dir < federate_count d → slice_get (frames_in w dir) place ≡ Some (Data k n signal) → answer_of (side_in dir r.links).end (Data k n signal) ≡ Ok arrival.Repeated
    → frames_in (step_in w (Deliver dir (suc place))).world (back dir) ≡ frames_in w (back dir) ++ ack_of (after_frame (side_in dir r.links).end (Data k n signal)) ∷ []
repeats d programs inputs w r (Up j) place k n signal below found is =
    let at = r.run.shown.each j below in
    let step = comes_at coordinator_core true w.coordinator j (r.links j).first.end (Data k n signal) arrival.Repeated at.first is in
    let frames : frames_of (step_of coordinator_core true w.coordinator (event.Frame j (Data k n signal))).answer ≡ addressed j (ack_of (after_frame (r.links j).first.end (Data k n signal)) ∷ []) = ap (λ (x : Stepped CoordinatorNode). frames_of x.answer) step ∙ noted_frames w.coordinator j (r.links j).first.end (Data k n signal) in
    let all = coordinator_sends w (step_of coordinator_core true w.coordinator (event.Frame j (Data k n signal))) j (r.links j).first.sent (ack_of (after_frame (r.links j).first.end (Data k n signal)) ∷ []) at.down frames in
    ap (λ (x : Applied CoordinatorNode FederateNode). frames_in x.world (Down j)) (frame_at_coordinator w j place (Data k n signal) found) ∙
    all ∙ ap (λ (x : List Frame). x ++ ack_of (after_frame (r.links j).first.end (Data k n signal)) ∷ []) (sym (got w.down j (r.links j).first.sent [] at.down))
repeats d programs inputs w r (Down j) place k n signal below found is =
    let at = r.run.shown.each j below in
    let step = comes_at federate_core false at.station 0 (r.links j).second.end (Data k n signal) arrival.Repeated (own_place d programs inputs w r j below) is in
    let frames : frames_of (step_of federate_core false at.station (event.Frame 0 (Data k n signal))).answer ≡ addressed 0 (ack_of (after_frame (r.links j).second.end (Data k n signal)) ∷ []) = ap (λ (x : Stepped FederateNode). frames_of x.answer) step ∙ noted_frames at.station 0 (r.links j).second.end (Data k n signal) in
    let all = own_sends w (step_of federate_core false at.station (event.Frame 0 (Data k n signal))) j (r.links j).second.sent (ack_of (after_frame (r.links j).second.end (Data k n signal)) ∷ []) at.up frames in
    ap (λ (x : Applied CoordinatorNode FederateNode). frames_in x.world (Up j)) (frame_at_own w j place at.station (Data k n signal) at.there found) ∙
    all ∙ ap (λ (x : List Frame). x ++ ack_of (after_frame (r.links j).second.end (Data k n signal)) ∷ []) (sym (got w.up j (r.links j).second.sent [] at.up))

-- an acknowledgement comes
pub acknowledges : (d : Draft) (programs : List Behaviour) (inputs : List Input) (w : Federation) (r : Reached d programs inputs w) (dir : Dir) (place k n : ℕ) → federate_of dir < federate_count d → slice_get (frames_in w (back dir)) place ≡ Some (Ack k n) → answer_of (side_out dir r.links).end (Ack k n) ≡ Ok arrival.Acked
    → sender (step_in w (Deliver (back dir) (suc place))).world dir ≡ Some (after_frame (side_out dir r.links).end (Ack k n))
acknowledges d programs inputs w r (Up j) place k n below found is =
    let at = r.run.shown.each j below in
    let step = comes_at federate_core false at.station 0 (r.links j).second.end (Ack k n) arrival.Acked (own_place d programs inputs w r j below) is in
    ap (λ (x : Applied CoordinatorNode FederateNode). sender x.world (Up j)) (frame_at_own w j place at.station (Ack k n) at.there found) ∙
    ap own_end (get_set_here w.federates j at.station (step_of federate_core false at.station (event.Frame 0 (Ack k n))).station at.there) ∙
    ap (λ (x : Stepped FederateNode). slice_get x.station.ends 0) step ∙
    get_set_here at.station.ends 0 (r.links j).second.end (after_frame (r.links j).second.end (Ack k n)) (own_place d programs inputs w r j below)
acknowledges d programs inputs w r (Down j) place k n below found is =
    let at = r.run.shown.each j below in
    let step = comes_at coordinator_core true w.coordinator j (r.links j).first.end (Ack k n) arrival.Acked at.first is in
    ap (λ (x : Applied CoordinatorNode FederateNode). sender x.world (Down j)) (frame_at_coordinator w j place (Ack k n) found) ∙
    ap (λ (x : Stepped CoordinatorNode). slice_get x.station.ends j) step ∙
    get_set_here w.coordinator.ends j (r.links j).first.end (after_frame (r.links j).first.end (Ack k n)) at.first

-- no node's refusal is a link's
never_true : false ≡ true → ⊥
never_true e = cc

not_harmless : (refusal : Refusal) → IsTrue (is_harmless (number_of refusal)) → ⊥
not_harmless Late h = never_true h
not_harmless OldGrant h = never_true h
not_harmless WrongSignal h = never_true h
not_harmless NotYours h = never_true h
not_harmless BelowGrant h = never_true h
not_harmless NotRising h = never_true h
not_harmless AfterStop h = never_true h
not_harmless NotForCoordinator h = never_true h

harmless_answer : (answer : Answer) → IsHarmless (outcome_of answer) → IsHarmlessAnswer answer
harmless_answer Silent h = tt
harmless_answer (Says frames) h = tt
harmless_answer (Declines number frames) h = h

-- a signal in its turn is taken, where there is room for what the node sends
record IsRisen (e : Image) (ends : List Image) (q n : ℕ) : Type 0 where
  end : Image
  found : slice_get ends q ≡ Some end
  taken : end.taken ≡ max e.taken n

received_there : (m : Mail) (q k n : ℕ) (signal : Signal) (e y : Image) → slice_get m.ends q ≡ Some y → bare y ≡ bare e → IsRisen e (received q (Data k n signal) m).ends q n
received_there m q k n signal e y found same =
    record {
      end = after_frame y (Data k n signal);
      found = ap (λ (o : Option Image). slice_get (received_at m.ends q (Data k n signal) o) q) found ∙ get_set_here m.ends q y (after_frame y (Data k n signal)) found;
      taken = ap (λ (x : ℕ). max x n) (ap (λ (x : Image). x.taken) same);
    }

signal_taken : {View Row : Type 0} (core : Core View Row) (s : Station View) (q k n : ℕ) (signal : Signal) (e : Image) (o : machine.Outcome (Made View)) → slice_get s.ends q ≡ Some e → ((m : Made View) → o ≡ machine.Done m → lacks_room s.ends m.sent ≡ false)
    → IsHarmlessAnswer (takes s q e (Data k n signal) (acknowledging s q e (Data k n signal)) (ending_of (acknowledging s q e (Data k n signal)) o)).answer
    → IsRisen e (takes s q e (Data k n signal) (acknowledging s q e (Data k n signal)) (ending_of (acknowledging s q e (Data k n signal)) o)).station.ends q n
signal_taken core s q k n signal e (machine.Refused refusal) found room harmless = absurd (by_closing (closes refusal) harmless)
  where
    by_closing : (b : Bool) → IsHarmlessAnswer (refused s q e (number_of refusal) b).answer → ⊥
    by_closing true h = not_harmless refusal h
    by_closing false h = not_harmless refusal h
signal_taken core s q k n signal e machine.Nothing found room harmless = received_there (acknowledging s q e (Data k n signal)) q k n signal e e found refl
signal_taken core s q k n signal e (machine.Done m) found room harmless =
    let none = room m refl in
    let mail = all_posted (acknowledging s q e (Data k n signal)) m.sent in
    let at = bare_at s.ends (all_posted (acknowledging s q e (Data k n signal)) m.sent).ends (sym (all_posted_bare (acknowledging s q e (Data k n signal)) m.sent)) q e found in
    let P : Bool → Type 0 = λ b. IsRisen e (takes s q e (Data k n signal) (acknowledging s q e (Data k n signal)) (if b then LacksRoom else Moves m.after (all_posted (acknowledging s q e (Data k n signal)) m.sent))).station.ends q n in
    subst P (sym none) (received_there (all_posted (acknowledging s q e (Data k n signal)) m.sent) q k n signal e at.0 at.1 at.2)

in_turn_taken : {View Row : Type 0} (core : Core View Row) (is_coordinator : Bool) (s : Station View) (q k n : ℕ) (signal : Signal) (e : Image) → slice_get s.ends q ≡ Some e → answer_of e (Data k n signal) ≡ Ok arrival.Signal → ((m : Made View) → core.accept s.node q signal ≡ machine.Done m → lacks_room s.ends m.sent ≡ false)
    → IsHarmlessAnswer (step_of core is_coordinator s (event.Frame q (Data k n signal))).answer → IsRisen e (step_of core is_coordinator s (event.Frame q (Data k n signal))).station.ends q n
in_turn_taken {View = View} core is_coordinator s q k n signal e found is room harmless =
    let step = comes_at core is_coordinator s q e (Data k n signal) arrival.Signal found is in
    let P : Stepped View → Type 0 = λ x. IsHarmlessAnswer x.answer in
    let Q : Stepped View → Type 0 = λ x. IsRisen e x.station.ends q n in
    subst Q (sym step) (signal_taken core s q k n signal e (core.accept s.node q signal) found room (subst P step harmless))

-- what is taken is more by then
pub record IsTaken (w : Federation) (dir : Dir) (e : Image) (n : ℕ) : Type 0 where
  pub end : Image
  pub receiving : receiver w dir ≡ Some end
  pub taken : end.taken ≡ max e.taken n

pub taken_by_coordinator : (d : Draft) (programs : List Behaviour) (inputs : List Input) (w : Federation) (r : Reached d programs inputs w) (j place k n : ℕ) (signal : Signal) → j < federate_count d → slice_get (frames_in w (Up j)) place ≡ Some (Data k n signal) → answer_of (r.links j).first.end (Data k n signal) ≡ Ok arrival.Signal
    → ((m : Made CoordinatorNode) → coordinator_core.accept w.coordinator.node j signal ≡ machine.Done m → lacks_room w.coordinator.ends m.sent ≡ false) → IsHarmless (step_in w (Deliver (Up j) (suc place))).outcome → IsTaken (step_in w (Deliver (Up j) (suc place))).world (Up j) (r.links j).first.end n
taken_by_coordinator d programs inputs w r j place k n signal below found is room harmless =
    let at = r.run.shown.each j below in
    let does = frame_at_coordinator w j place (Data k n signal) found in
    let P : Applied CoordinatorNode FederateNode → Type 0 = λ x. IsHarmless x.outcome in
    let made = step_of coordinator_core true w.coordinator (event.Frame j (Data k n signal)) in
    let risen = in_turn_taken coordinator_core true w.coordinator j k n signal (r.links j).first.end at.first is room (harmless_answer (step_of coordinator_core true w.coordinator (event.Frame j (Data k n signal))).answer (subst P does harmless)) in
    record {
      end = risen.end;
      receiving = ap (λ (x : Applied CoordinatorNode FederateNode). receiver x.world (Up j)) does ∙ risen.found;
      taken = risen.taken;
    }

pub taken_by_federate : (d : Draft) (programs : List Behaviour) (inputs : List Input) (w : Federation) (r : Reached d programs inputs w) (j place k n : ℕ) (signal : Signal) (s : Station FederateNode) → slice_get w.federates j ≡ Some s → j < federate_count d → slice_get (frames_in w (Down j)) place ≡ Some (Data k n signal) → answer_of (r.links j).second.end (Data k n signal) ≡ Ok arrival.Signal
    → ((m : Made FederateNode) → federate_core.accept s.node 0 signal ≡ machine.Done m → lacks_room s.ends m.sent ≡ false) → IsHarmless (step_in w (Deliver (Down j) (suc place))).outcome → IsTaken (step_in w (Deliver (Down j) (suc place))).world (Down j) (r.links j).second.end n
taken_by_federate d programs inputs w r j place k n signal s there below found is room harmless =
    let at = r.run.shown.each j below in
    let same : at.station ≡ s = some_of at.station s (sym at.there ∙ there) in
    let E : Station FederateNode → Type 0 = λ x. slice_get x.ends 0 ≡ Some (r.links j).second.end in
    let place_of = subst E same (own_place d programs inputs w r j below) in
    let does = frame_at_own w j place s (Data k n signal) there found in
    let P : Applied CoordinatorNode FederateNode → Type 0 = λ x. IsHarmless x.outcome in
    let risen = in_turn_taken federate_core false s 0 k n signal (r.links j).second.end place_of is room (harmless_answer (step_of federate_core false s (event.Frame 0 (Data k n signal))).answer (subst P does harmless)) in
    record {
      end = risen.end;
      receiving = ap (λ (x : Applied CoordinatorNode FederateNode). receiver x.world (Down j)) does ∙ ap own_end (get_set_here w.federates j s (step_of federate_core false s (event.Frame 0 (Data k n signal))).station there) ∙ risen.found;
      taken = risen.taken;
    }
