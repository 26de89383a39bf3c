-- Records as a list stand for records by number, and a step of the coordinator leaves those beyond the list's end alone.
use Rattle.std.proofs.Common.{◌≡◌, ℕ, zero, suc, ◌<◌, ◌≤◌, Bool, true, false, IsTrue, ◌↔◌, List, [], ◌∷◌, length, refl, sym, ap, subst, ◌∙◌, arith, inl, inr, Option, None, Some}
use Rattle.std.specs.Prelude.{slice_get, nat_eq, nat_lt, if◌then◌else◌, not, ◌&&◌, ◌||◌}
use Rattle.std.proofs.Math.Path.{fun_ext}
use Rattle.std.proofs.lemmas.Bool.{cases_lt}
use Rattle.std.proofs.lemmas.Bool.Decides.{nat_tests}
use Rattle.tag.specs.LogicalTime.{LogicalTime, forever, is_at_most, is_same, is_past}
use Rattle.tag.proofs.Order.{same_is_equal, same_itself}
use Rattle.network.specs.Connection.{Connection}
use Rattle.network.specs.Network.{Network}
use Rattle.network.specs.Wiring.{IsWired}
use Rattle.signal.specs.declared.signal.Signal.{Signal}
use Rattle.signal.specs.declared.signal.Signal.TheVariants.{Net, Ltc, Tag, Msg}
use Rattle.protocol.specs.declared.refusal.Refusal.{Refusal}
use Rattle.protocol.specs.declared.refusal.Refusal.TheVariants.{NotYours, BelowGrant, NotRising, AfterStop}
use Rattle.protocol.specs.Outcome.{Outcome, Refused, Nothing, Done, with_made, IfDone}
use Rattle.protocol.specs.FederateRecord.{FederateRecord, initial_federate_record, after_message, after_net, after_ltc, after_grant}
use Rattle.protocol.specs.Grant.{Rule}
use Rattle.protocol.specs.Coordinator.{Coordinated, with_federate_record, noted, route, coordinator_takes, grant_to, with_grants, coordinator_accepts}
use Rattle.protocol.specs.FederateRecords.{federate_record_at, federate_records_listed, is_finished}
use Rattle.protocol_laws.proofs.Backing.{below_at}
use Rattle.protocol_laws.proofs.Eligibility.{contains_at, between_is, all_below_from}
use Rattle.protocol_laws.proofs.Tests.{both_left, both_right, both_hold}

pub read_listed : (count : ℕ) (federate_records : ℕ → FederateRecord) (j : ℕ) → j < count → federate_record_at (federate_records_listed count federate_records) j ≡ federate_records j
read_listed zero federate_records j l = absurd (omega arith)
read_listed (suc count) federate_records zero l = refl
read_listed (suc count) federate_records (suc j) l = read_listed count (λ k. federate_records (suc k)) j (omega arith)

read_beyond : (count : ℕ) (federate_records : ℕ → FederateRecord) (j : ℕ) → count ≤ j → federate_record_at (federate_records_listed count federate_records) j ≡ initial_federate_record
read_beyond zero federate_records j l = refl
read_beyond (suc count) federate_records zero l = absurd (omega arith)
read_beyond (suc count) federate_records (suc j) l = read_beyond count (λ k. federate_records (suc k)) j (omega arith)

-- all stand as at the start
pub initial_read : (count j : ℕ) → federate_record_at (federate_records_listed count (λ k. initial_federate_record)) j ≡ initial_federate_record
initial_read zero j = refl
initial_read (suc count) zero = refl
initial_read (suc count) (suc j) = initial_read count j

pub list_read : (federate_records : List FederateRecord) → federate_records_listed (length federate_records) (federate_record_at federate_records) ≡ federate_records
list_read [] = refl
list_read (s ∷ rest) = ap (λ (x : List FederateRecord). s ∷ x) (list_read rest)

pub listed_length : (count : ℕ) (federate_records : ℕ → FederateRecord) → length (federate_records_listed count federate_records) ≡ count
listed_length zero federate_records = refl
listed_length (suc count) federate_records = ap suc (listed_length count (λ k. federate_records (suc k)))

initial_beyond : (federate_records : List FederateRecord) (j : ℕ) → length federate_records ≤ j → federate_record_at federate_records j ≡ initial_federate_record
initial_beyond [] j l = refl
initial_beyond (s ∷ rest) zero l = absurd (omega arith)
initial_beyond (s ∷ rest) (suc j) l = initial_beyond rest j (omega arith)

-- a step leaves those beyond the reactors alone
abbrev StaysBeyond : ℕ → (ℕ → FederateRecord) → Outcome Coordinated → Type 0
StaysBeyond reactors federate_records o = IfDone o (λ made. (j : ℕ) → reactors ≤ j → made.after j ≡ federate_records j)

other_stays : (federate_records : ℕ → FederateRecord) (i : ℕ) (mine : FederateRecord) (reactors j : ℕ) → i < reactors → reactors ≤ j → with_federate_record federate_records i mine j ≡ federate_records j
other_stays federate_records i mine reactors j l m =
    let e : nat_eq j i ≡ false = grind (arith, nat_tests) in
    ap (λ (b : Bool). if b then mine else federate_records j) e

beyond_if : (reactors : ℕ) (federate_records : ℕ → FederateRecord) (b : Bool) (refusal : Refusal) (o : Outcome Coordinated) → StaysBeyond reactors federate_records o → StaysBeyond reactors federate_records (if not b then Refused refusal else o)
beyond_if reactors federate_records true refusal o h = h
beyond_if reactors federate_records false refusal o h = tt

route_beyond : (n : Network) (federate_records : ℕ → FederateRecord) (i number : ℕ) (signal : Signal) (o : Option Connection) (tag : LogicalTime) → IsWired n → slice_get n.connections number ≡ o → StaysBeyond n.reactors federate_records (route n federate_records i signal o tag)
route_beyond n federate_records i number signal None tag wired e = tt
route_beyond n federate_records i number signal (Some c) tag wired e =
    let made : Coordinated = record { after = with_federate_record federate_records c.target (after_message (federate_records c.target) tag); sent = record { peer = c.target; signal = signal } ∷ [] } in
    let target = (between_is n c wired (contains_at n.connections number c e)).target in
    beyond_if n.reactors federate_records (nat_eq c.source i) NotYours (if not (is_at_most tag n.stop) then Refused AfterStop else if not (is_past (federate_records c.target).granted tag) then Refused BelowGrant else Done made)
    (beyond_if n.reactors federate_records (is_at_most tag n.stop) AfterStop (if not (is_past (federate_records c.target).granted tag) then Refused BelowGrant else Done made)
    (beyond_if n.reactors federate_records (is_past (federate_records c.target).granted tag) BelowGrant (Done made)
    (λ j m. other_stays federate_records c.target (after_message (federate_records c.target) tag) n.reactors j target m)))

takes_beyond : (n : Network) (federate_records : ℕ → FederateRecord) (i : ℕ) (signal : Signal) → IsWired n → i < n.reactors → StaysBeyond n.reactors federate_records (coordinator_takes n federate_records i signal)
takes_beyond n federate_records i (Net tag) wired l =
    let made = noted federate_records i (after_net (federate_records i) tag) in
    beyond_if n.reactors federate_records (is_at_most tag n.stop || is_same tag forever) AfterStop (if not (is_past (federate_records i).completed tag) then Refused NotRising else Done made)
    (beyond_if n.reactors federate_records (is_past (federate_records i).completed tag) NotRising (Done made) (λ j m. other_stays federate_records i (after_net (federate_records i) tag) n.reactors j l m))
takes_beyond n federate_records i (Ltc tag) wired l =
    let made = noted federate_records i (after_ltc (federate_records i) tag) in
    beyond_if n.reactors federate_records (is_at_most tag n.stop) AfterStop (if not (is_past (federate_records i).completed tag) then Refused NotRising else Done made)
    (beyond_if n.reactors federate_records (is_past (federate_records i).completed tag) NotRising (Done made) (λ j m. other_stays federate_records i (after_ltc (federate_records i) tag) n.reactors j l m))
takes_beyond n federate_records i (Tag tag) wired l = tt
takes_beyond n federate_records i (Msg k tag v) wired l = route_beyond n federate_records i k (Msg k tag v) (slice_get n.connections k) tag wired refl

no_grant_beyond : (n : Network) (rule : Rule) (federate_records : ℕ → FederateRecord) (j : ℕ) → n.reactors ≤ j → after_grant (federate_records j) (grant_to n rule federate_records j) ≡ federate_records j
no_grant_beyond n rule federate_records j m =
    let e : nat_lt j n.reactors ≡ false = grind (arith, nat_tests) in
    ap (λ (b : Bool). after_grant (federate_records j) (if b then rule federate_records j else None)) e

granted_beyond : (n : Network) (rule : Rule) (federate_records : ℕ → FederateRecord) (o : Outcome Coordinated) → StaysBeyond n.reactors federate_records o → StaysBeyond n.reactors federate_records (with_made (with_grants n rule) o)
granted_beyond n rule federate_records (Refused refusal) h = tt
granted_beyond n rule federate_records Nothing h = tt
granted_beyond n rule federate_records (Done made) h = λ j m. no_grant_beyond n rule made.after j m ∙ h j m

-- so the list after a step stands for the records after it
read_after : (reactors : ℕ) (federate_records : List FederateRecord) (after : ℕ → FederateRecord) → length federate_records ≡ reactors → ((j : ℕ) → reactors ≤ j → after j ≡ federate_record_at federate_records j) → (j : ℕ) → federate_record_at (federate_records_listed reactors after) j ≡ after j
read_after reactors federate_records after e beyond j =
    elim (cases_lt j reactors) [
      | inl l ↦ read_listed reactors after j l
      | inr m ↦ read_beyond reactors after j m ∙ sym (beyond j m ∙ initial_beyond federate_records j (omega arith))
    ]

stands_after : (reactors : ℕ) (federate_records : List FederateRecord) (o : Outcome Coordinated) → length federate_records ≡ reactors → StaysBeyond reactors (federate_record_at federate_records) o → IfDone o (λ made. federate_record_at (federate_records_listed reactors made.after) ≡ made.after)
stands_after reactors federate_records (Refused refusal) e h = tt
stands_after reactors federate_records Nothing e h = tt
stands_after reactors federate_records (Done made) e h = fun_ext (λ j. read_after reactors federate_records made.after e h j)

pub accepts_listed : (n : Network) (rule : Rule) (federate_records : List FederateRecord) (i : ℕ) (signal : Signal) → IsWired n → i < n.reactors → length federate_records ≡ n.reactors → IfDone (coordinator_accepts n rule (federate_record_at federate_records) i signal) (λ made. federate_record_at (federate_records_listed n.reactors made.after) ≡ made.after)
accepts_listed n rule federate_records i signal wired l e =
    stands_after n.reactors federate_records (coordinator_accepts n rule (federate_record_at federate_records) i signal) e
    (granted_beyond n rule (federate_record_at federate_records) (coordinator_takes n (federate_record_at federate_records) i signal) (takes_beyond n (federate_record_at federate_records) i signal wired l))

-- all is finished
pub finished_is : (n : Network) (federate_records : ℕ → FederateRecord) → IsTrue (is_finished n federate_records) ↔ ((j : ℕ) → j < n.reactors → IsTrue (federate_records j).announced × ((federate_records j).next ≡ forever))
finished_is n federate_records =
    let test : ℕ → Bool = λ j. (federate_records j).announced && is_same (federate_records j).next forever in (
      (λ h j l. (
          let at = below_at n.reactors test j h l in
          (both_left (federate_records j).announced (is_same (federate_records j).next forever) at, same_is_equal (federate_records j).next forever (both_right (federate_records j).announced (is_same (federate_records j).next forever) at)))),
      (λ h. all_below_from n.reactors test
          (λ j l. (
          let P : LogicalTime → Type 0 = λ x. is_same x forever ≡ true in
          both_hold (federate_records j).announced (is_same (federate_records j).next forever) (h j l).0 (subst P (sym (h j l).1) (same_itself forever))))),
    )
