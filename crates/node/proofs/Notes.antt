-- What an end makes of the frames that it takes in by itself.
use Rattle.std.proofs.Common.{◌≡◌, ℕ, suc, zero, ◌+◌, ◌-◌, ◌≤◌, max, Bool, true, false, ◌||◌, List, [], ◌∷◌, length, take, drop, slice_get, Some, Result, Ok, Err, IsOk, if◌then◌else◌, nat_lt, refl, sym, ap, ◌∙◌, arith, length-drop}
use Rattle.std.proofs.lemmas.List.{take_all}
use Rattle.signal.specs.declared.signal.Signal.{Signal}
use Rattle.signal.specs.declared.frame.Frame.{Frame}
use Rattle.signal.specs.declared.frame.Hello as declared
use Rattle.signal.specs.declared.frame.Frame.TheVariants.{Hello, Data, Ack, Refuse}
use Rattle.link.specs.declared.arrival.Arrival.{Arrival}
use Rattle.link.specs.declared.fault.LinkFault.{LinkFault}
use Rattle.signal.specs.Batch.{numbered}
use Rattle.link.specs.Answer.{answer_when_open, is_own}
use Rattle.link.specs.Image.{Image, answer_of, after_frame, resent_by, last_number}
use Rattle.node.specs.Mail.{Mail}
use Rattle.node.specs.Step.{changes, received, returned}
use Rattle.node.specs.Kinds.{IsHello}
use Rattle.network.proofs.Items.{get_set_here}
use Rattle.signal.proofs.Numbered.{length-numbered}

-- the end after a frame was taken in
pub received_here : (m : Mail) (peer : ℕ) (frame : Frame) (e : Image) → slice_get m.ends peer ≡ Some e →
    slice_get (received peer frame m).ends peer ≡ Some (after_frame e frame)
received_here m peer frame e found = rw found (get_set_here m.ends peer e (after_frame e frame) found)

unless_refused : (own closed : Bool) (r : Result Arrival LinkFault) →
    IsOk (if own then (if closed then Err LinkFault.Closed else r) else Err LinkFault.Stranger) → (closed ≡ false) × IsOk r
unless_refused true false r ok = (refl, ok)
unless_refused true true r ok = let bad : ⊥ = grind arith in absurd bad
unless_refused false closed r ok = let bad : ⊥ = grind arith in absurd bad

unless_more : (b : Bool) (fault : LinkFault) (arrival : Arrival) → IsOk (if b then Err fault else Ok arrival) → b ≡ false
unless_more true fault arrival ok = let bad : ⊥ = grind arith in absurd bad
unless_more false fault arrival ok = refl

-- of a frame that isn't refused: the end is open
pub open_for : (e : Image) (frame : Frame) → IsOk (answer_of e frame) → e.closed ≡ false
open_for e frame ok = (unless_refused (is_own e.federate e.incarnation frame) e.closed (answer_when_open (last_number e) e.taken frame) ok).0

-- a Hello that isn't refused acknowledges what was offered
pub hello_within : (e : Image) (hello : declared.Hello) → IsOk (answer_of e (Hello hello)) → hello.last_taken ≤ last_number e
hello_within e hello ok =
    let o = unless_refused (is_own e.federate e.incarnation (Hello hello)) e.closed (answer_when_open (last_number e) e.taken (Hello hello)) ok in
    let l = unless_more (nat_lt (last_number e) hello.last_taken) LinkFault.AckOfUnsent Arrival.Resume o.1 in
    grind (arith, l)

pub ack_within : (e : Image) (i n : ℕ) → IsOk (answer_of e (Ack i n)) → n ≤ last_number e
ack_within e i n ok =
    let o = unless_refused (is_own e.federate e.incarnation (Ack i n)) e.closed (answer_when_open (last_number e) e.taken (Ack i n)) ok in
    let l = unless_more (nat_lt (last_number e) n) LinkFault.AckOfUnsent Arrival.Acked o.1 in
    grind (arith, l)

forgotten : (acknowledged n kept : ℕ) → n ≤ acknowledged + kept → nat_lt (kept - (n - acknowledged)) kept ≡ nat_lt acknowledged n
forgotten acknowledged n kept within = grind arith

-- whether a frame changes an end, other than by a signal, shows in what is kept, and in whether it is closed
pub changes_shown : (e : Image) (frame : Frame) → IsOk (answer_of e frame) →
    ((after_frame e frame).closed || nat_lt (length (after_frame e frame).kept) (length e.kept)) ≡ changes e frame
changes_shown e (Hello hello) ok = rw (open_for e (Hello hello) ok, length-drop (hello.last_taken - e.acknowledged) e.kept) (forgotten e.acknowledged hello.last_taken (length e.kept) (hello_within e hello ok))
changes_shown e (Data i n signal) ok = rw (open_for e (Data i n signal) ok) (grind arith)
changes_shown e (Ack i n) ok = rw (open_for e (Ack i n) ok, length-drop (n - e.acknowledged) e.kept) (forgotten e.acknowledged n (length e.kept) (ack_within e i n ok))
changes_shown e (Refuse i n) ok = refl

numbered_drop : (k incarnation first : ℕ) (signals : List Signal) → drop k (numbered incarnation first signals) ≡ numbered incarnation (first + k) (drop k signals)
numbered_drop zero incarnation first signals = let z : first + 0 ≡ first = omega arith in rw z refl
numbered_drop (suc k) incarnation first [] = refl
numbered_drop (suc k) incarnation first (signal ∷ signals) =
    let s : first + suc k ≡ (first + 1) + k = omega arith in rw s (numbered_drop k incarnation (first + 1) signals)

-- how much is kept after a Hello
pub hello_keeps : (e : Image) (frame : Frame) → IsHello frame → IsOk (answer_of e frame) → length (after_frame e frame).kept ≤ length (resent_by e)
hello_keeps e (Hello greeted) hello ok =
    rw (open_for e (Hello greeted) ok, length-numbered e.incarnation (e.acknowledged + 1) e.kept, length-drop (greeted.last_taken - e.acknowledged) e.kept) (omega arith)
hello_keeps e (Data _ _ _) hello ok = elim hello [ ]
hello_keeps e (Ack _ _) hello ok = elim hello [ ]
hello_keeps e (Refuse _ _) hello ok = elim hello [ ]

-- what is sent again after a Hello is the rest of what would have been sent before it
pub resent_after : (e : Image) (frame : Frame) → IsHello frame → IsOk (answer_of e frame) →
    drop (length (resent_by e) - length (after_frame e frame).kept) (resent_by e) ≡ resent_by (after_frame e frame)
resent_after e (Hello greeted) hello ok =
    let within = hello_within e greeted ok in
    let gone : length e.kept - (length e.kept - (greeted.last_taken - e.acknowledged)) ≡ greeted.last_taken - e.acknowledged = omega (arith, within) in
    let first : (e.acknowledged + 1) + (greeted.last_taken - e.acknowledged) ≡ max e.acknowledged greeted.last_taken + 1 = omega arith in
    rw (
      open_for e (Hello greeted) ok,
      length-numbered e.incarnation (e.acknowledged + 1) e.kept,
      length-drop (greeted.last_taken - e.acknowledged) e.kept,
      gone,
      numbered_drop (greeted.last_taken - e.acknowledged) e.incarnation (e.acknowledged + 1) e.kept,
      first,
    ) refl
resent_after e (Data _ _ _) hello ok = elim hello [ ]
resent_after e (Ack _ _) hello ok = elim hello [ ]
resent_after e (Refuse _ _) hello ok = elim hello [ ]

some_is : (x y : Image) → Some x ≡ Some y → x ≡ y
some_is x y same = grind arith

-- the end that is seen after a frame was taken in
pub seen : (m later : Mail) (peer : ℕ) (frame : Frame) (e image : Image) → slice_get m.ends peer ≡ Some e → later ≡ received peer frame m →
    slice_get later.ends peer ≡ Some image → image ≡ after_frame e frame
seen m later peer frame e image found is got =
    some_is image (after_frame e frame) (sym got ∙ (ap (λ x. slice_get x.ends peer) is ∙ received_here m peer frame e found))

pub closed_shown : (e image : Image) (frame : Frame) (closed : Bool) → IsOk (answer_of e frame) → image ≡ after_frame e frame → closed ≡ image.closed → closed ≡ true →
    closed ≡ changes e frame
closed_shown e image frame closed ok same is shut =
    let t : (after_frame e frame).closed ≡ true = ap (λ i. i.closed) (sym same) ∙ (sym is ∙ shut) in
    let k = changes_shown e frame ok in
    shut ∙ (rw t at k)

pub open_shown : (e first image : Image) (frame : Frame) (few many : ℕ) → IsOk (answer_of e frame) → image ≡ after_frame e frame → first ≡ e → image.closed ≡ false →
    few ≡ length image.kept → many ≡ length first.kept → nat_lt few many ≡ changes e frame
open_shown e first image frame few many ok same is unclosed left before =
    let t : (after_frame e frame).closed ≡ false = ap (λ i. i.closed) (sym same) ∙ unclosed in
    let k = changes_shown e frame ok in
    rw (left, before, same, is) (rw t at k)

pub same_end : (m : Mail) (peer : ℕ) (x y : Image) → slice_get m.ends peer ≡ Some x → slice_get m.ends peer ≡ Some y → x ≡ y
same_end m peer x y one other = some_is x y (sym one ∙ other)

pub returned_hello : (e : Image) (frame : Frame) → IsHello frame → returned e frame ≡ resent_by e
returned_hello e (Hello greeted) hello = refl
returned_hello e (Data _ _ _) hello = elim hello [ ]
returned_hello e (Ack _ _) hello = elim hello [ ]
returned_hello e (Refuse _ _) hello = elim hello [ ]

rest_of : (all part : List Frame) (k : ℕ) → part ≡ take (length all - k) (drop k all) → part ≡ drop k all
rest_of all part k is =
    let long : length (drop k all) ≤ length all - k = omega (arith, length-drop k all) in
    is ∙ take_all (length all - k) (drop k all) long

-- what is sent again
pub resumed : (e first image : Image) (frame : Frame) (kept slice : List Frame) (len few : ℕ) (sent : List Frame) → IsHello frame → IsOk (answer_of e frame) →
    first ≡ e → image ≡ after_frame e frame → kept ≡ resent_by first → slice ≡ kept → len ≡ length kept → few ≡ length image.kept →
    sent ≡ take (length slice - (len - few)) (drop (len - few) slice) → sent ≡ returned (after_frame e frame) frame
resumed e first image frame kept slice len few sent hello ok is after whole same all left cut =
    let there : kept ≡ resent_by e = whole ∙ ap resent_by is in
    let gone : len - few ≡ length (resent_by e) - length (after_frame e frame).kept = rw (all, left, there, after) refl in
    let part = rest_of slice sent (len - few) cut in
    rw (returned_hello (after_frame e frame) frame hello, part, same, gone, there) (resent_after e frame hello ok)
