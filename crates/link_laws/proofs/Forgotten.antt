-- A side that forgot all: the other goes on as if it were still there, and it takes nothing.
use Rattle.std.proofs.Common.{◌≡◌, ◌≢◌, ℕ, ◌+◌, ◌<◌, ◌≤◌, Bool, true, false, List, [], ◌∷◌, ◌++◌, refl, sym, subst, ◌∙◌, arith, Option, None, Some}
use Rattle.std.specs.Prelude.{slice_get, nat_eq, nat_le, nat_lt, if◌then◌else◌, not, ◌&&◌, ◌||◌, Result, Ok, Err}
use Rattle.std.specs.List.{AllByRecursion}
use Rattle.std.proofs.lemmas.Bool.Decides.{nat_tests}
use Rattle.std.proofs.lemmas.List.{append-nil}
use Rattle.std.proofs.lemmas.Bool.{ne_eqb}
use Rattle.network_laws.proofs.Lists.{each_append}
use Rattle.signal.specs.declared.signal.Signal.{Signal}
use Rattle.signal.specs.declared.frame.Frame.{Frame}
use Rattle.signal.specs.declared.frame.Frame.TheVariants.{Hello, Data, Ack, Refuse}
use Rattle.link.specs.declared.arrival.Arrival.{Arrival}
use Rattle.link.specs.declared.arrival.Arrival.TheVariants as arrival
use Rattle.link.specs.declared.fault.LinkFault.{LinkFault}
use Rattle.signal.specs.Batch.{numbered}
use Rattle.link.specs.Image.{Image, last_number, answer_of, after_frame, ack_of, hello_by, resent_by}
use Rattle.link_laws.specs.Direction.{offered_in, is_old, IsGenuine}
use Rattle.link_laws.specs.Link.{Side, says, admits, hears, gets, greeting, side_after, Gets, Offers, Resends, Greets}
use Rattle.link_laws.specs.Link.{Closes, TurnsAway, Act, replaced}
use Rattle.link_laws.proofs.Ways.{AreOld, AreGenuine}
use Rattle.link_laws.proofs.Carried.{IsLinked, linked_back, linked_says}
use Rattle.link_laws.proofs.Taken.{at_place}

-- a frame of this incarnation, or a refusal
abbrev pub IsOf : ℕ → Frame → Type 0
IsOf i (Hello hello) = hello.incarnation ≡ i
IsOf i (Data k n signal) = k ≡ i
IsOf i (Ack k n) = k ≡ i
IsOf i (Refuse k n) = Unit {0}

abbrev pub AreOf : ℕ → List Frame → Type 0
AreOf i frames = AllByRecursion (IsOf i) frames

-- a frame of another incarnation, or a refusal
abbrev pub IsForeign : ℕ → Frame → Type 0
IsForeign i (Hello hello) = hello.incarnation ≢ i
IsForeign i (Data k n signal) = k ≢ i
IsForeign i (Ack k n) = k ≢ i
IsForeign i (Refuse k n) = Unit {0}

abbrev pub AreForeign : ℕ → List Frame → Type 0
AreForeign i frames = AllByRecursion (IsForeign i) frames

-- a side sends frames of its incarnation
sends_of : (i : ℕ) (xs ys : List Frame) → AreOf i xs → AreOf i ys → AreOf i (xs ++ ys)
sends_of i xs ys a b = each_append (IsOf i) xs ys a b

numbered_of : (i k n : ℕ) (signals : List Signal) → k ≡ i → AreOf i (numbered k n signals)
numbered_of i k n [] e = tt
numbered_of i k n (signal ∷ rest) e = (e, numbered_of i k (n + 1) rest e)

resent_of : (i k n : ℕ) (signals : List Signal) (b : Bool) → k ≡ i → AreOf i (if b then [] else numbered k n signals)
resent_of i k n signals true e = tt
resent_of i k n signals false e = numbered_of i k n signals e

lets_of : (i : ℕ) (s : Side) (frame : Frame) (arrived : Arrival) (is_taken : Bool) → s.end.incarnation ≡ i → AreOf i s.sent → AreOf i (admits is_taken s frame arrived).sent
lets_of i s (Data k n signal) arrival.Signal true e h = sends_of i s.sent (ack_of (after_frame s.end (Data k n signal)) ∷ []) h (e, tt)
lets_of i s (Data k n signal) arrival.Signal false e h = h
lets_of i s (Data k n signal) arrival.Repeated true e h = sends_of i s.sent (ack_of s.end ∷ []) h (e, tt)
lets_of i s (Data k n signal) arrival.Repeated false e h = sends_of i s.sent (ack_of s.end ∷ []) h (e, tt)
lets_of i s (Data k n signal) arrival.Acked true e h = sends_of i s.sent (ack_of s.end ∷ []) h (e, tt)
lets_of i s (Data k n signal) arrival.Acked false e h = sends_of i s.sent (ack_of s.end ∷ []) h (e, tt)
lets_of i s (Data k n signal) arrival.Resume true e h = sends_of i s.sent (ack_of s.end ∷ []) h (e, tt)
lets_of i s (Data k n signal) arrival.Resume false e h = sends_of i s.sent (ack_of s.end ∷ []) h (e, tt)
lets_of i s (Data k n signal) arrival.Closed true e h = sends_of i s.sent (ack_of s.end ∷ []) h (e, tt)
lets_of i s (Data k n signal) arrival.Closed false e h = sends_of i s.sent (ack_of s.end ∷ []) h (e, tt)
lets_of i s (Hello hello) arrived is_taken e h =
    let again : Image = after_frame s.end (Hello hello) in
    sends_of i s.sent (resent_by (after_frame s.end (Hello hello))) h (resent_of i s.end.incarnation (again.acknowledged + 1) again.kept s.end.closed e)
lets_of i s (Ack k n) arrived is_taken e h = h
lets_of i s (Refuse k n) arrived is_taken e h = h

hears_of : (i : ℕ) (s : Side) (frame : Frame) (a : Result Arrival LinkFault) (is_taken : Bool) → s.end.incarnation ≡ i → AreOf i s.sent → AreOf i (hears is_taken s frame a).sent
hears_of i s frame (Ok arrived) is_taken e h = lets_of i s frame arrived is_taken e h
hears_of i s frame (Err fault) is_taken e h = h

gets_of : (i : ℕ) (s : Side) (o : Option Frame) (is_taken : Bool) → s.end.incarnation ≡ i → AreOf i s.sent → AreOf i (gets is_taken s o).sent
gets_of i s None is_taken e h = h
gets_of i s (Some frame) is_taken e h = hears_of i s frame (answer_of s.end frame) is_taken e h

offers_of : (i : ℕ) (s : Side) (signals : List Signal) (b : Bool) → s.end.incarnation ≡ i → AreOf i s.sent → AreOf i (if b then s else record { end = record s.end { kept = s.end.kept ++ signals }; sent = s.sent ++ numbered s.end.incarnation (last_number s.end + 1) signals; took = s.took }).sent
offers_of i s signals true e h = h
offers_of i s signals false e h = sends_of i s.sent (numbered s.end.incarnation (last_number s.end + 1) signals) h (numbered_of i s.end.incarnation (last_number s.end + 1) signals e)

greets_of : (i : ℕ) (s : Side) (b : Bool) → s.end.incarnation ≡ i → AreOf i s.sent → AreOf i (s.sent ++ greeting (if b then None else Some (hello_by s.end)))
greets_of i s true e h = sends_of i s.sent [] h tt
greets_of i s false e h = sends_of i s.sent (hello_by s.end ∷ []) h (e, tt)

pub act_of : (i : ℕ) (s : Side) (coming : List Frame) (act : Act) → s.end.incarnation ≡ i → AreOf i s.sent → AreOf i (side_after s coming act).sent
act_of i s coming (Gets place is_taken) e h = gets_of i s (slice_get coming place) is_taken e h
act_of i s coming (Offers signals) e h = offers_of i s signals s.end.closed e h
act_of i s coming Resends e h = sends_of i s.sent (resent_by s.end) h (resent_of i s.end.incarnation (s.end.acknowledged + 1) s.end.kept s.end.closed e)
act_of i s coming Greets e h = greets_of i s s.end.closed e h
act_of i s coming (Closes number) e h = sends_of i s.sent (Refuse s.end.incarnation number ∷ []) h (tt, tt)
act_of i s coming (TurnsAway incarnation number) e h = sends_of i s.sent (Refuse incarnation number ∷ []) h (tt, tt)

-- a side of another incarnation, which took nothing
pub record IsBlank (i : ℕ) (s : Side) : Type 0 where
  pub later : i < s.end.incarnation
  pub taken : s.end.taken ≡ 0
  pub took : s.took ≡ []

apart : (i : ℕ) (s : Side) → IsBlank i s → s.end.incarnation ≢ i
apart i s b = let l = b.later in λ e. omega arith

-- it stays so, and sends foreign frames
pub record StaysBlank (i : ℕ) (s after : Side) : Type 0 where
  pub blank : IsBlank i after
  pub more : List Frame
  pub sent : after.sent ≡ s.sent ++ more
  pub foreign : AreForeign i more

unchanged : (i : ℕ) (s : Side) → IsBlank i s → StaysBlank i s s
unchanged i s b = record { blank = b; more = []; sent = sym (append-nil s.sent); foreign = tt }

numbered_foreign : (i k n : ℕ) (signals : List Signal) → k ≢ i → AreForeign i (numbered k n signals)
numbered_foreign i k n [] e = tt
numbered_foreign i k n (signal ∷ rest) e = (e, numbered_foreign i k (n + 1) rest e)

resent_foreign : (i k n : ℕ) (signals : List Signal) (b : Bool) → k ≢ i → AreForeign i (if b then [] else numbered k n signals)
resent_foreign i k n signals true e = tt
resent_foreign i k n signals false e = numbered_foreign i k n signals e

-- frames of the other incarnation are strangers to it
not_own : (k i j : ℕ) → k ≡ i → j ≢ i → nat_eq k j ≡ false
not_own k i j e d = ne_eqb k j (λ q. d (sym q ∙ e))

closes_if : (i : ℕ) (s : Side) (k n : ℕ) (is_taken own closed : Bool) → IsBlank i s → StaysBlank i s (hears is_taken s (Refuse k n) (if own then (if closed then Err LinkFault.Closed else Ok arrival.Closed) else Err LinkFault.Stranger))
closes_if i s k n is_taken false closed b = unchanged i s b
closes_if i s k n is_taken true true b = unchanged i s b
closes_if i s k n is_taken true false b = record { blank = record { later = b.later; taken = b.taken; took = b.took }; more = []; sent = sym (append-nil s.sent); foreign = tt }

blank_hears : (i : ℕ) (s : Side) (frame : Frame) (is_taken : Bool) → IsOf i frame → IsBlank i s → StaysBlank i s (gets is_taken s (Some frame))
blank_hears i s (Hello hello) is_taken of b =
    let P : Bool → Type 0 = λ own. StaysBlank i s (hears is_taken s (Hello hello) (if own && nat_eq hello.federate s.end.federate then (if s.end.closed then Err LinkFault.Closed else if nat_lt (last_number s.end) hello.last_taken then Err LinkFault.AckOfUnsent else Ok arrival.Resume) else Err LinkFault.Stranger)) in
    subst P (sym (not_own hello.incarnation i s.end.incarnation of (apart i s b))) (unchanged i s b)
blank_hears i s (Data k n signal) is_taken of b =
    let P : Bool → Type 0 = λ own. StaysBlank i s (hears is_taken s (Data k n signal) (if own then (if s.end.closed then Err LinkFault.Closed else if nat_le n s.end.taken then Ok arrival.Repeated else if nat_eq n (s.end.taken + 1) then Ok arrival.Signal else Err LinkFault.Gap) else Err LinkFault.Stranger)) in
    subst P (sym (not_own k i s.end.incarnation of (apart i s b))) (unchanged i s b)
blank_hears i s (Ack k n) is_taken of b =
    let P : Bool → Type 0 = λ own. StaysBlank i s (hears is_taken s (Ack k n) (if own then (if s.end.closed then Err LinkFault.Closed else if nat_lt (last_number s.end) n then Err LinkFault.AckOfUnsent else Ok arrival.Acked) else Err LinkFault.Stranger)) in
    subst P (sym (not_own k i s.end.incarnation of (apart i s b))) (unchanged i s b)
blank_hears i s (Refuse k n) is_taken of b = closes_if i s k n is_taken (nat_eq k s.end.incarnation) s.end.closed b

blank_gets : (i : ℕ) (s : Side) (coming : List Frame) (o : Option Frame) (place : ℕ) (is_taken : Bool) → slice_get coming place ≡ o → AreOf i coming → IsBlank i s → StaysBlank i s (gets is_taken s o)
blank_gets i s coming None place is_taken e of b = unchanged i s b
blank_gets i s coming (Some frame) place is_taken e of b = blank_hears i s frame is_taken (at_place (IsOf i) coming place frame of e) b

blank_says : (i : ℕ) (s : Side) (more : List Frame) → AreForeign i more → IsBlank i s → StaysBlank i s (says s more)
blank_says i s more foreign b = record { blank = record { later = b.later; taken = b.taken; took = b.took }; more = more; sent = refl; foreign = foreign }

blank_offers : (i : ℕ) (s : Side) (signals : List Signal) (c : Bool) → IsBlank i s → StaysBlank i s (if c then s else record { end = record s.end { kept = s.end.kept ++ signals }; sent = s.sent ++ numbered s.end.incarnation (last_number s.end + 1) signals; took = s.took })
blank_offers i s signals true b = unchanged i s b
blank_offers i s signals false b =
    record {
      blank = record { later = b.later; taken = b.taken; took = b.took };
      more = numbered s.end.incarnation (last_number s.end + 1) signals;
      sent = refl;
      foreign = numbered_foreign i s.end.incarnation (last_number s.end + 1) signals (apart i s b);
    }

blank_greets : (i : ℕ) (s : Side) (c : Bool) → IsBlank i s → StaysBlank i s (says s (greeting (if c then None else Some (hello_by s.end))))
blank_greets i s true b = blank_says i s [] tt b
blank_greets i s false b = blank_says i s (hello_by s.end ∷ []) (apart i s b, tt) b

pub blank_acts : (i : ℕ) (s : Side) (coming : List Frame) (act : Act) → AreOf i coming → IsBlank i s → StaysBlank i s (side_after s coming act)
blank_acts i s coming (Gets place is_taken) of b = blank_gets i s coming (slice_get coming place) place is_taken refl of b
blank_acts i s coming (Offers signals) of b = blank_offers i s signals s.end.closed b
blank_acts i s coming Resends of b = blank_says i s (resent_by s.end) (resent_foreign i s.end.incarnation (s.end.acknowledged + 1) s.end.kept s.end.closed (apart i s b)) b
blank_acts i s coming Greets of b = blank_greets i s s.end.closed b
blank_acts i s coming (Closes number) of b = record { blank = record { later = b.later; taken = b.taken; took = b.took }; more = Refuse s.end.incarnation number ∷ []; sent = refl; foreign = (tt, tt) }
blank_acts i s coming (TurnsAway incarnation number) of b = blank_says i s (Refuse incarnation number ∷ []) (tt, tt) b

-- foreign frames bring nothing and say nothing
foreign_old : (i count : ℕ) (frame : Frame) → IsForeign i frame → is_old i count frame ≡ true
foreign_old i count (Hello hello) h = refl
foreign_old i count (Data k n signal) h = other_old k i n count h
  where
    other_old : (k i n count : ℕ) → (k ≡ i → ⊥) → (not (nat_eq k i) || nat_le n count) ≡ true
    other_old k i n count h = grind (arith, nat_tests)
foreign_old i count (Ack k n) h = refl
foreign_old i count (Refuse k n) h = refl

foreign_genuine : (i most : ℕ) (offered : List Signal) (frame : Frame) → IsForeign i frame → IsGenuine i offered most frame
foreign_genuine i most offered (Hello hello) h = λ e. absurd (h e)
foreign_genuine i most offered (Data k n signal) h = λ e. absurd (h e)
foreign_genuine i most offered (Ack k n) h = λ e. absurd (h e)
foreign_genuine i most offered (Refuse k n) h = tt

pub all_old : (i count : ℕ) (frames : List Frame) → AreForeign i frames → AreOld i count frames
all_old i count [] h = tt
all_old i count (x ∷ xs) h = (foreign_old i count x h.0, all_old i count xs h.1)

all_genuine : (i most : ℕ) (offered : List Signal) (frames : List Frame) → AreForeign i frames → AreGenuine i offered most frames
all_genuine i most offered [] h = tt
all_genuine i most offered (x ∷ xs) h = (foreign_genuine i most offered x h.0, all_genuine i most offered xs h.1)

pub foreign_says : (i : ℕ) (s r : Side) (more : List Frame) → AreForeign i more → IsLinked i s r → IsLinked i s (says r more)
foreign_says i s r more foreign l =
    linked_back i (says r more) s
    (linked_says i r s more (all_old i _ more foreign) (all_genuine i r.end.taken (offered_in i r.sent) more foreign) (linked_back i s r l))

pub replaced_is_blank : (i : ℕ) (s : Side) → i ≤ s.end.incarnation → IsBlank i (replaced s)
replaced_is_blank i s h = record { later = omega arith; taken = refl; took = refl }
