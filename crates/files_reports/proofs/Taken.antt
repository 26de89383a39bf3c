-- Parts that were read one after the other are spelled so.
use Rattle.std.proofs.Common.{◌≡◌, ℕ, ◌^◌, ◌<◌, ◌≤◌, true, false, eqb, ltb, List, ◌++◌, length, take, drop, refl, sym, ap, subst, ◌∙◌, append_assoc, arith, inl, inr}
use Rattle.std.specs.List.{flat_map}
use Rattle.std.specs.Int.{w64, cast_signed, cast_unsigned}
use Rattle.std.specs.Prelude.{ℤ, FitsSigned}
use Rattle.std.proofs.lemmas.Bool.{cases_lt, lt-ltb, le-ltb, and_parts, eqb-true}
use Rattle.std.proofs.lemmas.List.{append-nil, nil_from_length, take-append-drop, length-take-le}
use Rattle.std.proofs.lemmas.Int.{of_z-to_z}
use Rattle.byteorder.specs.Endian.{big_bytes}
use Rattle.tag.specs.LogicalTime.{LogicalTime, IsLogicalTime, logical_time, forever}
use Rattle.network.specs.Undivided.{Row}
use Rattle.signal.specs.declared.frame.Frame as signals
use Rattle.signal.specs.Signal.{tag_bytes}
use Rattle.signal.specs.Frame.{framed, frame_bytes, IsFrame}
use Rattle.signal.specs.Fault.{is_tag}
use Rattle.signal.specs.Begun.{tag_of}
use Rattle.node.specs.declared.event.Event.{Event}
use Rattle.files_reports.specs.Said.{Said, by_coordinator, by_federate, AreSoMany, AreCounted, IsEntry, IsRowOf, IsEvent, IsSaid}
use Rattle.files_reports.specs.Spelling.{counted, entry_bytes, row_bytes, event_bytes, said_bytes}
use Rattle.files_reports.specs.Reading.{IsTaken}

-- one behind the other
pub both : (bytes first between second rest : List ℕ) → bytes ≡ first ++ between → between ≡ second ++ rest → bytes ≡ (first ++ second) ++ rest
both bytes first between second rest e f = e ∙ ap (λ (b : List ℕ). first ++ b) f ∙ sym (append_assoc first second rest)

-- ---- tags

-- the numbers of a tag spell it
record IsSpelled (time microstep : ℕ) : Type 0 where
  is_time : IsLogicalTime (tag_of time microstep)
  bytes : tag_bytes (tag_of time microstep) ≡ big_bytes 8 time ++ big_bytes 4 microstep

finite_spells : (time microstep : ℕ) → time < 2 ^ 62 → microstep < 2 ^ 32 → IsSpelled time microstep
finite_spells time microstep less m =
    let lt : ltb time (2 ^ 62) ≡ true = lt-ltb _ _ less in
    let same : tag_of time microstep ≡ logical_time time microstep = rw lt refl in
    let one : IsLogicalTime (logical_time time microstep) = record { time = omega arith; microstep = m; forever_alone = λ le. absurd (omega arith) } in
    let spelled : tag_bytes (logical_time time microstep) ≡ big_bytes 8 time ++ big_bytes 4 microstep = rw lt refl in
    record { is_time = subst IsLogicalTime (sym same) one; bytes = ap tag_bytes same ∙ spelled }

forever_spells : (time microstep : ℕ) → 2 ^ 62 ≤ time → is_tag true time microstep ≡ true → IsSpelled time microstep
forever_spells time microstep le good =
    let ge : ltb time (2 ^ 62) ≡ false = le-ltb _ _ le in
    let tests = and_parts (eqb time 0xffff_ffff_ffff_ffff) (eqb microstep 0xffff_ffff) (rw ge at good) in
    let t : time ≡ 0xffff_ffff_ffff_ffff = eqb-true time 0xffff_ffff_ffff_ffff tests.0 in
    let m : microstep ≡ 0xffff_ffff = eqb-true microstep 0xffff_ffff tests.1 in
    let same : tag_of time microstep ≡ forever = rw ge refl in
    let one : IsLogicalTime forever = record { time = omega arith; microstep = omega arith; forever_alone = λ _. refl } in
    record {
      is_time = subst IsLogicalTime (sym same) one;
      bytes = ap tag_bytes same ∙ sym (ap (λ (n : ℕ). big_bytes 8 n ++ big_bytes 4 microstep) t ∙ ap (λ (n : ℕ). big_bytes 8 0xffff_ffff_ffff_ffff ++ big_bytes 4 n) m);
    }

spells : (time microstep : ℕ) → microstep < 2 ^ 32 → is_tag true time microstep ≡ true → IsSpelled time microstep
spells time microstep m good =
    elim (cases_lt time (2 ^ 62)) [
      | inl less ↦ finite_spells time microstep less m
      | inr le ↦ forever_spells time microstep le good
    ]

pub tag_taken : (bytes between rest : List ℕ) (time microstep : ℕ) (tag : LogicalTime) → microstep < 2 ^ 32 → is_tag true time microstep ≡ true → tag ≡ tag_of time microstep
    → bytes ≡ big_bytes 8 time ++ between → between ≡ big_bytes 4 microstep ++ rest → IsTaken tag_bytes IsLogicalTime bytes tag rest
tag_taken bytes between rest time microstep tag m good same first second =
    let s = spells time microstep m good in
    record {
      is_one = subst IsLogicalTime (sym same) s.is_time;
      begins = both bytes (big_bytes 8 time) between (big_bytes 4 microstep) rest first second ∙ ap (λ (b : List ℕ). b ++ rest) (sym s.bytes ∙ ap tag_bytes (sym same));
    }

-- ---- entries, and lists

pub entry_taken : (bytes between rest : List ℕ) (place bits : ℕ) (value : ℤ) → place < 2 ^ 64 → bits < 2 ^ 64 → FitsSigned w64 value → value ≡ cast_signed w64 bits
    → bytes ≡ big_bytes 8 place ++ between → between ≡ big_bytes 8 bits ++ rest → IsTaken entry_bytes IsEntry bytes (record { place = place; value = value }) rest
entry_taken bytes between rest place bits value p b fits same first second =
    let back : cast_unsigned w64 value ≡ bits = ap (cast_unsigned w64) same ∙ of_z-to_z w64 bits b in
    record {
      is_one = record { place = p; value = fits };
      begins = both bytes (big_bytes 8 place) between (big_bytes 8 (cast_unsigned w64 value)) rest first (second ∙ ap (λ (n : ℕ). big_bytes 8 n ++ rest) (sym back));
    }

pub counted_taken : {X : Type 0} (spelling : X → List ℕ) (Is : X → Type 0) (bytes between rest : List ℕ) (count : ℕ) (xs : List X) → count < 2 ^ 64
    → bytes ≡ big_bytes 8 count ++ between → IsTaken (flat_map spelling) (AreSoMany Is count) between xs rest → IsTaken (counted spelling) (AreCounted Is) bytes xs rest
counted_taken spelling Is bytes between rest count xs fits first h = record {
  is_one = (omega (arith, h.is_one.0), h.is_one.1);
  begins = both bytes (big_bytes 8 count) between (flat_map spelling xs) rest first h.begins
      ∙ ap (λ (n : ℕ). (big_bytes 8 n ++ flat_map spelling xs) ++ rest) (sym h.is_one.0);
}

-- ---- frames

pub frame_taken : (bytes behind body rest : List ℕ) (size : ℕ) (frame : signals.Frame) → size ≤ length behind → body ≡ take size behind → rest ≡ drop size behind → bytes ≡ big_bytes 4 size ++ behind
    → IsFrame frame × (framed body ≡ frame_bytes frame) → IsTaken frame_bytes IsFrame bytes frame rest
frame_taken bytes behind body rest size frame there front back first h =
    let long : length body ≡ size = ap length front ∙ length-take-le size behind there in
    let parts : behind ≡ body ++ rest = sym (take-append-drop size behind) ∙ ap (λ (b : List ℕ). b ++ drop size behind) (sym front) ∙ ap (λ (b : List ℕ). body ++ b) (sym back) in
    record {
      is_one = h.0;
      begins = both bytes (big_bytes 4 size) behind body rest first parts ∙ ap (λ (n : ℕ). (big_bytes 4 n ++ body) ++ rest) (sym long) ∙ ap (λ (b : List ℕ). b ++ rest) h.1;
    }

-- ---- all that a node says

pub coordinator_taken : (bytes rest : List ℕ) (journal : List Event) → IsTaken (counted event_bytes) (AreCounted IsEvent) bytes journal rest
    → IsTaken said_bytes IsSaid (big_bytes 2 0xffff ++ bytes) (by_coordinator journal) rest
coordinator_taken bytes rest journal h = record {
  is_one = h.is_one;
  begins = both (big_bytes 2 0xffff ++ bytes) (big_bytes 2 0xffff) bytes (counted event_bytes journal) rest refl h.begins;
}

pub federate_taken : (federate : ℕ) (bytes between rest : List ℕ) (rows : List Row) (journal : List Event) → federate < 0xffff → IsTaken (counted row_bytes) (AreCounted (IsRowOf federate)) bytes rows between
    → IsTaken (counted event_bytes) (AreCounted IsEvent) between journal rest → IsTaken said_bytes IsSaid (big_bytes 2 federate ++ bytes) (by_federate federate rows journal) rest
federate_taken federate bytes between rest rows journal below r j = record {
  is_one = (below, r.is_one, j.is_one);
  begins = both (big_bytes 2 federate ++ bytes) (big_bytes 2 federate) bytes (counted row_bytes rows ++ counted event_bytes journal) rest refl
      (both bytes (counted row_bytes rows) between (counted event_bytes journal) rest r.begins j.begins);
}

-- nothing is left behind it
pub all_taken : (bytes between rest : List ℕ) (who : ℕ) (said : Said) → bytes ≡ big_bytes 2 who ++ between → IsTaken said_bytes IsSaid (big_bytes 2 who ++ between) said rest → length rest ≡ 0
    → IsSaid said × (bytes ≡ said_bytes said)
all_taken bytes between rest who said first h none =
    (h.is_one, first ∙ h.begins ∙ ap (λ (r : List ℕ). said_bytes said ++ r) (nil_from_length rest none) ∙ append-nil (said_bytes said))
