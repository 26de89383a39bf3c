-- What a node says is read from its bytes: frames, events, and all of it.
use Rattle.std.proofs.Common.{◌≡◌, ℕ, ◌<◌, false, eqb, ltb, List, [], ◌++◌, length, Ok, refl, sym, ap, ◌∙◌, append_assoc, arith, lit<}
use Rattle.std.proofs.lemmas.Bool.{le-ltb}
use Rattle.std.proofs.lemmas.Bool.Decides.{nat_tests}
use Rattle.std.proofs.lemmas.List.{append-nil, take_at, drop_at, length-append}
use Rattle.byteorder.specs.Endian.{big_bytes}
use Rattle.network.specs.Undivided.{Row}
use Rattle.signal.specs.Frame.{body_of, frame_bytes, IsFrame}
use Rattle.node.specs.declared.event.Event.{Event}
use Rattle.node.specs.declared.event.Event.TheVariants.{Frame, Resend, Hello, Announce, Advance}
use Rattle.files_reports.specs.Said.{Said, by_coordinator, by_federate, IsEvent, IsRowOf, IsSaid, AreCounted}
use Rattle.files_reports.specs.Spelling.{counted, event_bytes, row_bytes, said_bytes}
use Rattle.files_reports.specs.Reading.{frame_part, arrival_part, event_of_kind, event_part, counted_part, row_part, coordinator_part, federate_part, said_of, said_at}
use Rattle.files_reports.proofs.Again.{ReadsBack, number_again, counted_again, row_again}
use Rattle.files_reports.proofs.Frames.{own_length, own_part}

frame_again : ReadsBack frame_part frame_bytes IsFrame
unfolding frame_part
frame_again frame rest h =
    let body = body_of 1 frame in
    let fits = own_length frame h in
    let below : length body < 1487 = grind (arith, nat_tests) in
    let long : ltb (length (body ++ rest)) (length body) ≡ false = le-ltb _ _ (omega (arith, length-append body rest)) in
    ap frame_part (append_assoc (big_bytes 4 (length body)) body rest)
    ∙ rw (number_again 4 (length body) (body ++ rest) (omega arith), long, take_at body rest (length body) refl, drop_at body rest (length body) refl, own_part frame h) refl

pub event_again : ReadsBack event_part event_bytes IsEvent
unfolding event_of_kind arrival_part
event_again (Frame peer frame) rest h =
    ap arrival_part (append_assoc (big_bytes 8 peer) (frame_bytes frame) rest) ∙ rw (number_again 8 peer (frame_bytes frame ++ rest) h.0, frame_again frame rest h.1) refl
event_again (Resend peer) rest h = rw (number_again 8 peer rest h) refl
event_again (Hello peer) rest h = rw (number_again 8 peer rest h) refl
event_again Announce rest h = refl
event_again Advance rest h = refl

abbrev journal : List Event → List ℕ
journal events = counted event_bytes events

abbrev rows_of : List Row → List ℕ
rows_of rows = counted row_bytes rows

coordinator_again : (events : List Event) → AreCounted IsEvent events → coordinator_part (journal events) ≡ Ok (by_coordinator events, [])
unfolding coordinator_part
coordinator_again events h =
    ap coordinator_part (sym (append-nil (journal events))) ∙ rw (counted_again event_part event_bytes IsEvent event_again events [] h) refl

federate_again : (federate : ℕ) (rows : List Row) (events : List Event) → AreCounted (IsRowOf federate) rows → AreCounted IsEvent events
    → federate_part federate (rows_of rows ++ journal events) ≡ Ok (by_federate federate rows events, [])
unfolding federate_part
federate_again federate rows events h k =
    let last : counted_part event_part (journal events) ≡ Ok (events, []) =
    ap (counted_part event_part) (sym (append-nil (journal events))) ∙ counted_again event_part event_bytes IsEvent event_again events [] k in
    rw (counted_again (row_part federate) row_bytes (IsRowOf federate) (row_again federate) rows (journal events) h, last) refl

pub said_again : (said : Said) → IsSaid said → said_at (said_bytes said) ≡ Ok said
unfolding said_at said_of
said_again (by_coordinator events) h = rw (number_again 2 0xffff (journal events) (lit< tt), coordinator_again events h) refl
said_again (by_federate federate rows events) h =
    let other : eqb federate 0xffff ≡ false = let below = h.0 in grind (arith, nat_tests) in
    rw (number_again 2 federate (rows_of rows ++ journal events) (omega (arith, h.0)), other, federate_again federate rows events h.1 h.2) refl

-- so there is one thing only that is said by these bytes
pub one_saying : (said other : Said) → IsSaid said → IsSaid other → said_bytes said ≡ said_bytes other → said ≡ other
one_saying said other h k e =
    let same = sym (said_again said h) ∙ ap said_at e ∙ said_again other k in
    cc
