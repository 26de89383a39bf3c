-- Whatever is done at both ends of a link, what each side took is a prefix of what the other offered.
use Rattle.std.proofs.Common.{◌≡◌, ◌≢◌, ℕ, zero, suc, ◌+◌, ◌-◌, ◌<◌, ◌≤◌, Bool, true, false, List, [], ◌∷◌, length, drop, refl, ap, subst, ◌∙◌, arith, Option, None, Some}
use Rattle.std.specs.Prelude.{slice_get, nat_eq, nat_le, nat_lt, if◌then◌else◌, ◌&&◌, Ok, Err}
use Rattle.std.specs.List.{AllByRecursion}
use Rattle.std.proofs.lemmas.Bool.{eqb-true, leb-true}
use Rattle.std.proofs.lemmas.Bool.Decides.{nat_tests}
use Rattle.signal.specs.declared.signal.Signal.{Signal}
use Rattle.signal.specs.declared.frame.Frame.{Frame}
use Rattle.signal.specs.declared.frame.Hello as declared
use Rattle.signal.specs.declared.frame.Frame.TheVariants.{Hello, Data, Ack, Refuse}
use Rattle.link.specs.declared.arrival.Arrival.{Arrival}
use Rattle.link.specs.declared.arrival.Arrival.TheVariants as arrival
use Rattle.link.specs.declared.fault.LinkFault.{LinkFault}
use Rattle.link.specs.Image.{last_number, answer_of, blank, after_close}
use Rattle.link_laws.specs.Direction.{offered_in, IsGenuine}
use Rattle.link_laws.specs.Link.{Side, notes, hears, gets, side_after, Gets, Offers, Resends, Greets, Closes, TurnsAway, Act, fresh, IsTakenInOrder, TellsNothingUnsent}
use Rattle.link_laws.proofs.Places.{length_of_rest}
use Rattle.link_laws.proofs.Carried.{IsLinked, linked_says, linked_offers, linked_acknowledges, linked_closes, linked_takes, linked_repeats, linked_resends, linked_greets}

pub at_place : (P : Frame → Type 0) (xs : List Frame) (k : ℕ) (x : Frame) → AllByRecursion P xs → slice_get xs k ≡ Some x → P x
at_place P [] k x a e = cc
at_place P (y ∷ ys) zero x a e = let same : y ≡ x = cc in subst P same a.0
at_place P (y ∷ ys) (suc k) x a e = at_place P ys k x a.1 e

-- a signal comes
data_heard : (i : ℕ) (s r : Side) (k n : ℕ) (signal : Signal) (is_taken own closed le eq : Bool) → (own ≡ true → k ≡ s.end.incarnation) → (le ≡ true → n ≤ s.end.taken) → (eq ≡ true → n ≡ s.end.taken + 1) → (k ≡ i → (0 < n) × (slice_get (offered_in i r.sent) (n - 1) ≡ Some signal)) → IsLinked i s r
    → IsLinked i (hears is_taken s (Data k n signal) (if own then (if closed then Err LinkFault.Closed else if le then Ok arrival.Repeated else if eq then Ok arrival.Signal else Err LinkFault.Gap) else Err LinkFault.Stranger)) r
data_heard i s r k n signal is_taken false closed le eq own is_old is_next genuine l = l
data_heard i s r k n signal is_taken true true le eq own is_old is_next genuine l = l
data_heard i s r k n signal true true false true eq own is_old is_next genuine l = linked_repeats i s r k n signal (is_old refl) l
data_heard i s r k n signal false true false true eq own is_old is_next genuine l = linked_repeats i s r k n signal (is_old refl) l
data_heard i s r k n signal false true false false true own is_old is_next genuine l = l
data_heard i s r k n signal true true false false true own is_old is_next genuine l =
    let next = is_next refl in
    let at = genuine (own refl ∙ l.here) in
    let place : n - 1 ≡ s.end.taken = omega arith in
    let P : ℕ → Type 0 = λ x. slice_get (offered_in i r.sent) x ≡ Some signal in
    linked_takes i s r k n signal next (subst P place at.1) l
data_heard i s r k n signal is_taken true false false false own is_old is_next genuine l = l

-- an acknowledgement comes
ack_heard : (i : ℕ) (s r : Side) (k n : ℕ) (is_taken own closed unsent : Bool) → (own ≡ true → k ≡ s.end.incarnation) → (k ≡ i → n ≤ r.end.taken) → IsLinked i s r
    → IsLinked i (hears is_taken s (Ack k n) (if own then (if closed then Err LinkFault.Closed else if unsent then Err LinkFault.AckOfUnsent else Ok arrival.Acked) else Err LinkFault.Stranger)) r
ack_heard i s r k n is_taken false closed unsent own genuine l = l
ack_heard i s r k n is_taken true true unsent own genuine l = l
ack_heard i s r k n is_taken true false true own genuine l = l
ack_heard i s r k n is_taken true false false own genuine l = linked_acknowledges i s r n (genuine (own refl ∙ l.here)) l

-- a greeting comes
hello_heard : (i : ℕ) (s r : Side) (hello : declared.Hello) (is_taken own closed unsent : Bool) → (own ≡ true → hello.incarnation ≡ s.end.incarnation) → (hello.incarnation ≡ i → hello.last_taken ≤ r.end.taken) → IsLinked i s r
    → IsLinked i (hears is_taken s (Hello hello) (if own then (if closed then Err LinkFault.Closed else if unsent then Err LinkFault.AckOfUnsent else Ok arrival.Resume) else Err LinkFault.Stranger)) r
hello_heard i s r hello is_taken false closed unsent own genuine l = l
hello_heard i s r hello is_taken true true unsent own genuine l = l
hello_heard i s r hello is_taken true false true own genuine l = l
hello_heard i s r hello is_taken true false false own genuine l =
    linked_resends i (notes s (Hello hello)) r (linked_acknowledges i s r hello.last_taken (genuine (own refl ∙ l.here)) l)

refuse_heard : (i : ℕ) (s r : Side) (k n : ℕ) (is_taken own closed : Bool) → IsLinked i s r
    → IsLinked i (hears is_taken s (Refuse k n) (if own then (if closed then Err LinkFault.Closed else Ok arrival.Closed) else Err LinkFault.Stranger)) r
refuse_heard i s r k n is_taken false closed l = l
refuse_heard i s r k n is_taken true true l = l
refuse_heard i s r k n is_taken true false l = linked_closes i s r l

pub own_hello : (i k f g : ℕ) → (nat_eq k i && nat_eq f g) ≡ true → k ≡ i
own_hello i k f g h = grind (arith, nat_tests)

heard : (i : ℕ) (s r : Side) (frame : Frame) (is_taken : Bool) → IsGenuine i (offered_in i r.sent) r.end.taken frame → IsLinked i s r → IsLinked i (gets is_taken s (Some frame)) r
heard i s r (Hello hello) is_taken genuine l = hello_heard i s r hello is_taken (nat_eq hello.incarnation s.end.incarnation && nat_eq hello.federate s.end.federate) s.end.closed (nat_lt (last_number s.end) hello.last_taken) (own_hello s.end.incarnation hello.incarnation hello.federate s.end.federate) genuine l
heard i s r (Data k n signal) is_taken genuine l =
    data_heard i s r k n signal is_taken (nat_eq k s.end.incarnation) s.end.closed (nat_le n s.end.taken) (nat_eq n (s.end.taken + 1)) (eqb-true k s.end.incarnation) (leb-true n s.end.taken) (eqb-true n (s.end.taken + 1)) genuine l
heard i s r (Ack k n) is_taken genuine l = ack_heard i s r k n is_taken (nat_eq k s.end.incarnation) s.end.closed (nat_lt (last_number s.end) n) (eqb-true k s.end.incarnation) genuine l
heard i s r (Refuse k n) is_taken genuine l = refuse_heard i s r k n is_taken (nat_eq k s.end.incarnation) s.end.closed l

gets_keeps : (i : ℕ) (s r : Side) (o : Option Frame) (place : ℕ) (is_taken : Bool) → slice_get r.sent place ≡ o → IsLinked i s r → IsLinked i (gets is_taken s o) r
gets_keeps i s r None place is_taken e l = l
gets_keeps i s r (Some frame) place is_taken e l = heard i s r frame is_taken (at_place (IsGenuine i (offered_in i r.sent) r.end.taken) r.sent place frame l.back.genuine e) l

-- each act keeps both directions
pub act_keeps : (i : ℕ) (s r : Side) (act : Act) → IsLinked i s r → IsLinked i (side_after s r.sent act) r
act_keeps i s r (Gets place is_taken) l = gets_keeps i s r (slice_get r.sent place) place is_taken refl l
act_keeps i s r (Offers signals) l = linked_offers i s r signals l
act_keeps i s r Resends l = linked_resends i s r l
act_keeps i s r Greets l = linked_greets i s r l
act_keeps i s r (Closes number) l = linked_says i (record s { end = after_close s.end }) r (Refuse s.end.incarnation number ∷ []) (refl, tt) (tt, tt) (linked_closes i s r l)
act_keeps i s r (TurnsAway incarnation number) l = linked_says i s r (Refuse incarnation number ∷ []) (refl, tt) (tt, tt) l

-- a link of which nothing was asked yet
pub fresh_is_linked : (i f g room other : ℕ) → IsLinked i (fresh (blank f i room)) (fresh (blank g i other))
fresh_is_linked i f g room other =
    record {
      here = refl;
      there = refl;
      out = record { kept_is = refl; acknowledged_taken = omega arith; taken_offered = omega arith; took_is = refl; genuine = tt };
      back = record { kept_is = refl; acknowledged_taken = omega arith; taken_offered = omega arith; took_is = refl; genuine = tt };
    }

pub in_order : (i : ℕ) (s r : Side) → IsLinked i s r → IsTakenInOrder i s r
in_order i s r l = record { offered = l.out.taken_offered; in_order = l.out.took_is }

-- nobody is told of what was never offered
pub told_offered : (arrived : Arrival) (own closed unsent : Bool) → (own ≡ true → unsent ≡ false) → (if own then (if closed then Err LinkFault.Closed else if unsent then Err LinkFault.AckOfUnsent else Ok arrived) else Err LinkFault.Stranger) ≢ Err LinkFault.AckOfUnsent
told_offered arrived false closed unsent h = λ e. cc
told_offered arrived true true unsent h = λ e. cc
told_offered arrived true false true h = let never = h refl in cc
told_offered arrived true false false h = λ e. cc

pub signal_offered : (own closed le eq : Bool) → (if own then (if closed then Err LinkFault.Closed else if le then Ok arrival.Repeated else if eq then Ok arrival.Signal else Err LinkFault.Gap) else Err LinkFault.Stranger) ≢ Err LinkFault.AckOfUnsent
signal_offered false closed le eq = λ e. cc
signal_offered true true le eq = λ e. cc
signal_offered true false true eq = λ e. cc
signal_offered true false false true = λ e. cc
signal_offered true false false false = λ e. cc

pub refuse_offered : (own closed : Bool) → (if own then (if closed then Err LinkFault.Closed else Ok arrival.Closed) else Err LinkFault.Stranger) ≢ Err LinkFault.AckOfUnsent
refuse_offered false closed = λ e. cc
refuse_offered true true = λ e. cc
refuse_offered true false = λ e. cc

not_below : (a b : ℕ) → b ≤ a → nat_lt a b ≡ false
not_below a b h = grind (arith, nat_tests)

-- a side's last number is that of the signals that it offered
pub last_is_offered : (i : ℕ) (s r : Side) → IsLinked i s r → last_number s.end ≡ length (offered_in i s.sent)
last_is_offered i s r l =
    let a = l.out.acknowledged_taken in
    let b = l.out.taken_offered in
    let rest = length_of_rest s.end.acknowledged (offered_in i s.sent) (omega arith) in
    let size : length s.end.kept ≡ length (drop s.end.acknowledged (offered_in i s.sent)) = ap length l.out.kept_is in
    omega arith

told_within : (i : ℕ) (s r : Side) (n : ℕ) → n ≤ r.end.taken → IsLinked i s r → nat_lt (last_number s.end) n ≡ false
told_within i s r n h l =
    let last = last_is_offered i s r l in
    let b = l.out.taken_offered in
    not_below (last_number s.end) n (omega arith)

frame_tells : (i : ℕ) (s r : Side) (frame : Frame) → IsGenuine i (offered_in i r.sent) r.end.taken frame → IsLinked i s r → answer_of s.end frame ≢ Err LinkFault.AckOfUnsent
frame_tells i s r (Hello hello) genuine l =
    told_offered arrival.Resume (nat_eq hello.incarnation s.end.incarnation && nat_eq hello.federate s.end.federate) s.end.closed (nat_lt (last_number s.end) hello.last_taken)
    (λ own. told_within i s r hello.last_taken (genuine (own_hello s.end.incarnation hello.incarnation hello.federate s.end.federate own ∙ l.here)) l)
frame_tells i s r (Data k n signal) genuine l = signal_offered (nat_eq k s.end.incarnation) s.end.closed (nat_le n s.end.taken) (nat_eq n (s.end.taken + 1))
frame_tells i s r (Ack k n) genuine l =
    told_offered arrival.Acked (nat_eq k s.end.incarnation) s.end.closed (nat_lt (last_number s.end) n) (λ own. told_within i s r n (genuine (eqb-true k s.end.incarnation own ∙ l.here)) l)
frame_tells i s r (Refuse k n) genuine l = refuse_offered (nat_eq k s.end.incarnation) s.end.closed

pub tells_nothing : (i : ℕ) (s r : Side) → IsLinked i s r → TellsNothingUnsent s r
tells_nothing i s r l place frame e = frame_tells i s r frame (at_place (IsGenuine i (offered_in i r.sent) r.end.taken) r.sent place frame l.back.genuine e) l
