-- What acts leave as it was at a side: by quiet acts nothing is taken, offered or closed; and no side is told by its own incarnation's
-- refusal to close.
use Rattle.std.proofs.Common.{◌≡◌, ◌≢◌, ℕ, ◌+◌, ◌≤◌, inl, inr, max, Bool, true, false, List, [], ◌∷◌, ◌++◌, length, slice_get, refl, sym, ap, subst, ◌∙◌, arith, Option, None, Some, Result, Ok, Err, if◌then◌else◌}
use Rattle.std.specs.Prelude.{nat_eq, nat_lt, ◌&&◌}
use Rattle.std.specs.List.{AllByRecursion}
use Rattle.std.proofs.lemmas.Bool.{eqb-true}
use Rattle.network_laws.proofs.Lists.{each_append}
use Rattle.signal.specs.declared.signal.Signal.{Signal}
use Rattle.signal.specs.declared.frame.Frame.{Frame}
use Rattle.signal.specs.declared.frame.Frame.TheVariants.{Hello, Data, Ack, Refuse}
use Rattle.link.specs.declared.arrival.Arrival.{Arrival}
use Rattle.link.specs.declared.arrival.Arrival.TheVariants as arrival
use Rattle.link.specs.declared.fault.LinkFault.{LinkFault}
use Rattle.signal.specs.Batch.{numbered}
use Rattle.link.specs.Image.{Image, last_number, answer_of, after_frame, acknowledge, ack_of, hello_by, resent_by}
use Rattle.link_laws.specs.Direction.{offered_in}
use Rattle.link_laws.specs.Link.{Side, says, admits, hears, gets, greeting, side_after, Act, Gets, Offers, Resends}
use Rattle.link_laws.specs.Link.{Greets, Closes, TurnsAway, offers}
use Rattle.link_laws.proofs.Offers.{offers_open}
use Rattle.link_laws.proofs.Ways.{AreOld, offers_more, offers_same, resent_old}
use Rattle.link_laws.proofs.Carried.{IsLinked, linked_acknowledges}
use Rattle.link_laws.proofs.Taken.{at_place, act_keeps, own_hello, last_is_offered}
use Rattle.world_stations.proofs.Course.{acted, IsQuiet}
use Rattle.world_stations.proofs.Courses.{data_is}

-- a frame that doesn't close an end of this incarnation
abbrev pub IsCalm : ℕ → Frame → Type 0
IsCalm i (Hello hello) = Unit {0}
IsCalm i (Data k n signal) = Unit {0}
IsCalm i (Ack k n) = Unit {0}
IsCalm i (Refuse k n) = k ≢ i

abbrev pub AreCalm : ℕ → List Frame → Type 0
AreCalm i frames = AllByRecursion (IsCalm i) frames

-- an act that sends no other frames
abbrev pub IsCalmAct : ℕ → Act → Type 0
IsCalmAct i (Gets place is_taken) = Unit {0}
IsCalmAct i (Offers signals) = Unit {0}
IsCalmAct i Resends = Unit {0}
IsCalmAct i Greets = Unit {0}
IsCalmAct i (Closes number) = ⊥
IsCalmAct i (TurnsAway k number) = k ≢ i

sends_calm : (i : ℕ) (xs ys : List Frame) → AreCalm i xs → AreCalm i ys → AreCalm i (xs ++ ys)
sends_calm i xs ys a b = each_append (IsCalm i) xs ys a b

numbered_calm : (i k n : ℕ) (signals : List Signal) → AreCalm i (numbered k n signals)
numbered_calm i k n [] = tt
numbered_calm i k n (signal ∷ rest) = (tt, numbered_calm i k (n + 1) rest)

resent_calm : (i k n : ℕ) (signals : List Signal) (b : Bool) → AreCalm i (if b then [] else numbered k n signals)
resent_calm i k n signals true = tt
resent_calm i k n signals false = numbered_calm i k n signals

admits_calm : (i : ℕ) (s : Side) (frame : Frame) (arrived : Arrival) (is_taken : Bool) → AreCalm i s.sent → AreCalm i (admits is_taken s frame arrived).sent
admits_calm i s (Data k n signal) arrival.Signal true h = sends_calm i s.sent (ack_of (after_frame s.end (Data k n signal)) ∷ []) h (tt, tt)
admits_calm i s (Data k n signal) arrival.Signal false h = h
admits_calm i s (Data k n signal) arrival.Repeated true h = sends_calm i s.sent (ack_of s.end ∷ []) h (tt, tt)
admits_calm i s (Data k n signal) arrival.Repeated false h = sends_calm i s.sent (ack_of s.end ∷ []) h (tt, tt)
admits_calm i s (Data k n signal) arrival.Acked true h = sends_calm i s.sent (ack_of s.end ∷ []) h (tt, tt)
admits_calm i s (Data k n signal) arrival.Acked false h = sends_calm i s.sent (ack_of s.end ∷ []) h (tt, tt)
admits_calm i s (Data k n signal) arrival.Resume true h = sends_calm i s.sent (ack_of s.end ∷ []) h (tt, tt)
admits_calm i s (Data k n signal) arrival.Resume false h = sends_calm i s.sent (ack_of s.end ∷ []) h (tt, tt)
admits_calm i s (Data k n signal) arrival.Closed true h = sends_calm i s.sent (ack_of s.end ∷ []) h (tt, tt)
admits_calm i s (Data k n signal) arrival.Closed false h = sends_calm i s.sent (ack_of s.end ∷ []) h (tt, tt)
admits_calm i s (Hello hello) arrived is_taken h =
    let again : Image = after_frame s.end (Hello hello) in
    sends_calm i s.sent (resent_by (after_frame s.end (Hello hello))) h (resent_calm i s.end.incarnation (again.acknowledged + 1) again.kept s.end.closed)
admits_calm i s (Ack k n) arrived is_taken h = h
admits_calm i s (Refuse k n) arrived is_taken h = h

hears_calm : (i : ℕ) (s : Side) (frame : Frame) (a : Result Arrival LinkFault) (is_taken : Bool) → AreCalm i s.sent → AreCalm i (hears is_taken s frame a).sent
hears_calm i s frame (Ok arrived) is_taken h = admits_calm i s frame arrived is_taken h
hears_calm i s frame (Err fault) is_taken h = h

gets_calm : (i : ℕ) (s : Side) (o : Option Frame) (is_taken : Bool) → AreCalm i s.sent → AreCalm i (gets is_taken s o).sent
gets_calm i s None is_taken h = h
gets_calm i s (Some frame) is_taken h = hears_calm i s frame (answer_of s.end frame) is_taken h

offers_calm : (i : ℕ) (s : Side) (signals : List Signal) (b : Bool) → AreCalm i s.sent → AreCalm i (if b then s else record { end = record s.end { kept = s.end.kept ++ signals }; sent = s.sent ++ numbered s.end.incarnation (last_number s.end + 1) signals; took = s.took }).sent
offers_calm i s signals true h = h
offers_calm i s signals false h = sends_calm i s.sent (numbered s.end.incarnation (last_number s.end + 1) signals) h (numbered_calm i s.end.incarnation (last_number s.end + 1) signals)

greets_calm : (i : ℕ) (s : Side) (b : Bool) → AreCalm i s.sent → AreCalm i (s.sent ++ greeting (if b then None else Some (hello_by s.end)))
greets_calm i s true h = sends_calm i s.sent [] h tt
greets_calm i s false h = sends_calm i s.sent (hello_by s.end ∷ []) h (tt, tt)

pub act_calm : (i : ℕ) (s : Side) (coming : List Frame) (act : Act) → IsCalmAct i act → AreCalm i s.sent → AreCalm i (side_after s coming act).sent
act_calm i s coming (Gets place is_taken) c h = gets_calm i s (slice_get coming place) is_taken h
act_calm i s coming (Offers signals) c h = offers_calm i s signals s.end.closed h
act_calm i s coming Resends c h = sends_calm i s.sent (resent_by s.end) h (resent_calm i s.end.incarnation (s.end.acknowledged + 1) s.end.kept s.end.closed)
act_calm i s coming Greets c h = greets_calm i s s.end.closed h
act_calm i s coming (Closes number) c h = absurd c
act_calm i s coming (TurnsAway k number) c h = sends_calm i s.sent (Refuse k number ∷ []) h (c, tt)

-- nothing was taken
pub record TookNothing (s after : Side) : Type 0 where
  pub taken : after.end.taken ≡ s.end.taken
  pub took : after.took ≡ s.took
  pub incarnation : after.end.incarnation ≡ s.end.incarnation

pub as_it_was : (s : Side) → TookNothing s s
as_it_was s = record { taken = refl; took = refl; incarnation = refl }

admits_nothing : (s : Side) (frame : Frame) (arrived : Arrival) → answer_of s.end frame ≡ Ok arrived → TookNothing s (admits false s frame arrived)
admits_nothing s (Hello hello) arrived is = record { taken = refl; took = refl; incarnation = refl }
admits_nothing s (Ack k n) arrived is = record { taken = refl; took = refl; incarnation = refl }
admits_nothing s (Refuse k n) arrived is = record { taken = refl; took = refl; incarnation = refl }
admits_nothing s (Data k n signal) arrived is =
    let P : Arrival → Type 0 = λ a. TookNothing s (admits false s (Data k n signal) a) in
    elim (data_is s.end k n signal arrived is) [
      | inl old ↦ (let least = old.1 in let same : max s.end.taken n ≡ s.end.taken = omega arith in subst P (sym old.0) (record { taken = same; took = refl; incarnation = refl }))
      | inr next ↦ subst P (sym next) (as_it_was s)
    ]

hears_nothing : (s : Side) (frame : Frame) (r : Result Arrival LinkFault) → answer_of s.end frame ≡ r → TookNothing s (hears false s frame r)
hears_nothing s frame (Ok arrived) is = admits_nothing s frame arrived is
hears_nothing s frame (Err fault) is = as_it_was s

gets_nothing : (s : Side) (o : Option Frame) → TookNothing s (gets false s o)
gets_nothing s None = as_it_was s
gets_nothing s (Some frame) = hears_nothing s frame (answer_of s.end frame) refl

pub quiet_takes_nothing : (is_coordinator : Bool) (i : ℕ) (s : Side) (coming : List Frame) (act : Act) → IsQuiet is_coordinator i act → TookNothing s (side_after s coming act)
quiet_takes_nothing is_coordinator i s coming (Gets place is_taken) q =
    let P : Bool → Type 0 = λ b. TookNothing s (side_after s coming (Gets place b)) in
    subst P (sym q) (gets_nothing s (slice_get coming place))
quiet_takes_nothing is_coordinator i s coming (Offers signals) q = absurd q
quiet_takes_nothing is_coordinator i s coming Resends q = record { taken = refl; took = refl; incarnation = refl }
quiet_takes_nothing is_coordinator i s coming Greets q = record { taken = refl; took = refl; incarnation = refl }
quiet_takes_nothing is_coordinator i s coming (Closes number) q = absurd q
quiet_takes_nothing is_coordinator i s coming (TurnsAway k number) q = record { taken = refl; took = refl; incarnation = refl }

pub quiet_acts_take_nothing : (is_coordinator : Bool) (i : ℕ) (s : Side) (coming : List Frame) (acts : List Act) → AllByRecursion (IsQuiet is_coordinator i) acts → TookNothing s (acted s coming acts)
quiet_acts_take_nothing is_coordinator i s coming [] q = as_it_was s
quiet_acts_take_nothing is_coordinator i s coming (act ∷ rest) q =
    let first = quiet_takes_nothing is_coordinator i s coming act q.0 in
    let more = quiet_acts_take_nothing is_coordinator i (side_after s coming act) coming rest q.1 in
    record { taken = more.taken ∙ first.taken; took = more.took ∙ first.took; incarnation = more.incarnation ∙ first.incarnation }

-- nothing was offered or closed
pub record LeftOpen (i : ℕ) (s after : Side) : Type 0 where
  pub closed : after.end.closed ≡ s.end.closed
  pub offered : offered_in i after.sent ≡ offered_in i s.sent

left : (i : ℕ) (s : Side) → LeftOpen i s s
left i s = record { closed = refl; offered = refl }

old_left : (i : ℕ) (s : Side) (more : List Frame) → AreOld i (length (offered_in i s.sent)) more → LeftOpen i s (says s more)
old_left i s more old = record { closed = refl; offered = offers_same i s.sent more old }

old_again : (i : ℕ) (s r : Side) (b : Bool) → IsLinked i s r → AreOld i (length (offered_in i s.sent)) (if b then [] else numbered s.end.incarnation (s.end.acknowledged + 1) s.end.kept)
old_again i s r true l = tt
old_again i s r false l =
    let a = l.out.acknowledged_taken in
    let b = l.out.taken_offered in
    let P : ℕ → Type 0 = λ x. AreOld i (length (offered_in i s.sent)) (numbered x (s.end.acknowledged + 1) s.end.kept) in
    let Q : List Signal → Type 0 = λ x. AreOld i (length (offered_in i s.sent)) (numbered i (s.end.acknowledged + 1) x) in
    subst P (sym l.here) (subst Q (sym l.out.kept_is) (resent_old i s.end.acknowledged (offered_in i s.sent) (omega arith)))

hello_within : (i : ℕ) (s r : Side) (f k n : ℕ) (own closed unsent : Bool) (arrived : Arrival) → (own ≡ true → n ≤ r.end.taken) → (if own then (if closed then Err LinkFault.Closed else if unsent then Err LinkFault.AckOfUnsent else Ok arrival.Resume) else Err LinkFault.Stranger) ≡ Ok arrived → n ≤ r.end.taken
hello_within i s r f k n true closed unsent arrived h is = h refl
hello_within i s r f k n false closed unsent arrived h is = cc

refuse_within : (own closed : Bool) (arrived : Arrival) → (if own then (if closed then Err LinkFault.Closed else Ok arrival.Closed) else Err LinkFault.Stranger) ≡ Ok arrived → own ≡ true
refuse_within true closed arrived is = refl
refuse_within false closed arrived is = cc

admits_left : (i : ℕ) (s r : Side) (frame : Frame) (arrived : Arrival) (place : ℕ) → slice_get r.sent place ≡ Some frame → answer_of s.end frame ≡ Ok arrived → IsCalm i frame → IsLinked i s r → LeftOpen i s (admits false s frame arrived)
admits_left i s r (Hello hello) arrived place at is calm l =
    let genuine = at_place _ r.sent place (Hello hello) l.back.genuine at in
    let within : hello.last_taken ≤ r.end.taken = hello_within i s r hello.federate hello.incarnation hello.last_taken (nat_eq hello.incarnation s.end.incarnation && nat_eq hello.federate s.end.federate) s.end.closed (nat_lt (last_number s.end) hello.last_taken) arrived (λ own. genuine (own_hello s.end.incarnation hello.incarnation hello.federate s.end.federate own ∙ l.here)) is in
    let after = linked_acknowledges i s r hello.last_taken within l in
    let old = old_again i (record s { end = acknowledge s.end hello.last_taken }) r s.end.closed after in
    record { closed = refl; offered = offers_same i s.sent (resent_by (after_frame s.end (Hello hello))) old }
admits_left i s r (Data k n signal) arrival.Signal place at is calm l = left i s
admits_left i s r (Data k n signal) arrival.Repeated place at is calm l = record { closed = refl; offered = offers_same i s.sent (ack_of s.end ∷ []) (refl, tt) }
admits_left i s r (Data k n signal) arrival.Acked place at is calm l = record { closed = refl; offered = offers_same i s.sent (ack_of s.end ∷ []) (refl, tt) }
admits_left i s r (Data k n signal) arrival.Resume place at is calm l = record { closed = refl; offered = offers_same i s.sent (ack_of s.end ∷ []) (refl, tt) }
admits_left i s r (Data k n signal) arrival.Closed place at is calm l = record { closed = refl; offered = offers_same i s.sent (ack_of s.end ∷ []) (refl, tt) }
admits_left i s r (Ack k n) arrived place at is calm l = record { closed = refl; offered = refl }
admits_left i s r (Refuse k n) arrived place at is calm l =
    let own = refuse_within (nat_eq k s.end.incarnation) s.end.closed arrived is in
    absurd (calm (eqb-true k s.end.incarnation own ∙ l.here))

hears_left : (i : ℕ) (s r : Side) (frame : Frame) (a : Result Arrival LinkFault) (place : ℕ) → slice_get r.sent place ≡ Some frame → answer_of s.end frame ≡ a → IsCalm i frame → IsLinked i s r → LeftOpen i s (hears false s frame a)
hears_left i s r frame (Ok arrived) place at is calm l = admits_left i s r frame arrived place at is calm l
hears_left i s r frame (Err fault) place at is calm l = left i s

gets_left : (i : ℕ) (s r : Side) (o : Option Frame) (place : ℕ) → slice_get r.sent place ≡ o → AreCalm i r.sent → IsLinked i s r → LeftOpen i s (gets false s o)
gets_left i s r None place at calm l = left i s
gets_left i s r (Some frame) place at calm l = hears_left i s r frame (answer_of s.end frame) place at refl (at_place (IsCalm i) r.sent place frame calm at) l

greets_left : (i : ℕ) (s : Side) (b : Bool) → LeftOpen i s (says s (greeting (if b then None else Some (hello_by s.end))))
greets_left i s true = old_left i s [] tt
greets_left i s false = old_left i s (hello_by s.end ∷ []) (refl, tt)

quiet_left : (is_coordinator : Bool) (k i : ℕ) (s r : Side) (act : Act) → IsQuiet is_coordinator k act → AreCalm i r.sent → IsLinked i s r → LeftOpen i s (side_after s r.sent act)
quiet_left is_coordinator k i s r (Gets place is_taken) q calm l =
    let P : Bool → Type 0 = λ b. LeftOpen i s (side_after s r.sent (Gets place b)) in
    subst P (sym q) (gets_left i s r (slice_get r.sent place) place refl calm l)
quiet_left is_coordinator k i s r (Offers signals) q calm l = absurd q
quiet_left is_coordinator k i s r Resends q calm l = old_left i s (resent_by s.end) (old_again i s r s.end.closed l)
quiet_left is_coordinator k i s r Greets q calm l = greets_left i s s.end.closed
quiet_left is_coordinator k i s r (Closes number) q calm l = absurd q
quiet_left is_coordinator k i s r (TurnsAway m number) q calm l = old_left i s (Refuse m number ∷ []) (refl, tt)

quiet_calm : (is_coordinator : Bool) (i : ℕ) (act : Act) → IsQuiet is_coordinator i act → IsCalmAct i act
quiet_calm is_coordinator i (Gets place is_taken) q = tt
quiet_calm is_coordinator i (Offers signals) q = absurd q
quiet_calm is_coordinator i Resends q = tt
quiet_calm is_coordinator i Greets q = tt
quiet_calm is_coordinator i (Closes number) q = absurd q
quiet_calm is_coordinator i (TurnsAway k number) q = q.1

-- quiet acts at a side that is linked to another
pub record StaysQuiet (i : ℕ) (s after r : Side) : Type 0 where
  pub linked : IsLinked i after r
  pub nothing : TookNothing s after
  pub stays : LeftOpen i s after
  pub calm : AreCalm i s.sent → AreCalm i after.sent

pub quiet_acts : (is_coordinator : Bool) (i : ℕ) (s r : Side) (acts : List Act) → AllByRecursion (IsQuiet is_coordinator i) acts → AreCalm i r.sent → IsLinked i s r → StaysQuiet i s (acted s r.sent acts) r
quiet_acts is_coordinator i s r [] q calm l = record { linked = l; nothing = as_it_was s; stays = left i s; calm = λ h. h }
quiet_acts is_coordinator i s r (act ∷ rest) q calm l =
    let next = act_keeps i s r act l in
    let first = quiet_left is_coordinator i i s r act q.0 calm l in
    let nothing = quiet_takes_nothing is_coordinator i s r.sent act q.0 in
    let more = quiet_acts is_coordinator i (side_after s r.sent act) r rest q.1 calm next in
    record {
      linked = more.linked;
      nothing = record { taken = more.nothing.taken ∙ nothing.taken; took = more.nothing.took ∙ nothing.took; incarnation = more.nothing.incarnation ∙ nothing.incarnation };
      stays = record { closed = more.stays.closed ∙ first.closed; offered = more.stays.offered ∙ first.offered };
      calm = λ h. more.calm (act_calm i s r.sent act (quiet_calm is_coordinator i act q.0) h);
    }

-- signals are offered at an open side
pub offers_at : (i : ℕ) (s r : Side) (signals : List Signal) → s.end.closed ≡ false → IsLinked i s r → ((offers s signals).end.closed ≡ false) × ((offers s signals).end.taken ≡ s.end.taken) × ((offers s signals).took ≡ s.took) × (offered_in i (offers s signals).sent ≡ offered_in i s.sent ++ signals)
offers_at i s r signals o l =
    let with_all : Side = record { end = record s.end { kept = s.end.kept ++ signals }; sent = s.sent ++ numbered s.end.incarnation (last_number s.end + 1) signals; took = s.took } in
    let opened : offers s signals ≡ with_all = offers_open s signals o in
    let P : ℕ → Type 0 = λ x. offered_in i (s.sent ++ numbered x (last_number s.end + 1) signals) ≡ offered_in i s.sent ++ signals in
    let Q : ℕ → Type 0 = λ x. offered_in i (s.sent ++ numbered i (x + 1) signals) ≡ offered_in i s.sent ++ signals in (
      ap (λ (x : Side). x.end.closed) opened ∙ o,
      ap (λ (x : Side). x.end.taken) opened,
      ap (λ (x : Side). x.took) opened,
      ap (λ (x : Side). offered_in i x.sent) opened ∙ subst P (sym l.here) (subst Q (sym (last_is_offered i s r l)) (offers_more i s.sent signals)),
    )
