-- The body of a Batch: its parts, its faults, and what it is read as.
use Rattle.std.proofs.Common.{◌≡◌, ℕ, ◌+◌, ◌^◌, ◌<◌, ◌≤◌, true, false, ltb, List, [], ◌∷◌, ◌++◌, length, get_or, drop, Some, None, refl, sym, ap, subst, ◌∙◌, arith, ◌⊎◌, inl, inr}
use Rattle.std.specs.Prelude.{slice_index}
use Rattle.std.specs.List.{flat_map, AllByRecursion}
use Rattle.std.proofs.lemmas.Bool.{lt-ltb, le-ltb}
use Rattle.std.proofs.lemmas.Bool.Decides.{nat_tests}
use Rattle.std.proofs.lemmas.List.{append-nil, take_rest, drop-drop, get_or-drop}
use Rattle.byteorder.specs.Endian.{big_bytes, big_number}
use Rattle.byteorder.specs.Numbers.{big_number-reads_back}
use Rattle.signal.specs.declared.signal.Signal.{Signal}
use Rattle.signal.specs.declared.frame.Frame.{Frame}
use Rattle.signal.specs.declared.fault.FrameFault.{FrameFault}
use Rattle.signal.specs.declared.fault.FrameFault.TheVariants.{BadLength, BadKind}
use Rattle.signal.specs.Signal.{signal_bytes, IsSignal}
use Rattle.signal.specs.Batch.{numbered, batch_of, IsBatch}
use Rattle.signal.specs.Fault.{number_at, is_length, signals_fault, batch_fault, body_fault}
use Rattle.signal.specs.Begun.{signals_at}
use Rattle.signal.proofs.Parts.{from, headed, field_then, signal_place}
use Rattle.signal.proofs.Signals.{signals_again, signals_faultless, signals_length}

-- ---- its parts

-- what stands behind the number, the count, and the signals, by their places
pub record Places (body rest : List ℕ) : Type 0 where
  pub rest_is : rest ≡ drop 13 body
  pub count_is : slice_index rest 0 ≡ slice_index body 13
  pub signals_is : from 1 rest ≡ drop 14 body

pub places : (body numbers rest : List ℕ) → numbers ≡ drop 4 (from 1 body) → rest ≡ drop 8 numbers → Places body rest
places body numbers rest e f =
    let here = signal_place body numbers rest e f in
    record {
      rest_is = here;
      count_is = ap (λ (b : List ℕ). slice_index b 0) here ∙ get_or-drop 13 body 0 0;
      signals_is = take_rest rest 1 ∙ ap (drop 1) here ∙ drop-drop 1 13 body;
    }

-- the number of the first signal
pub number_place : (body numbers : List ℕ) → numbers ≡ drop 4 (from 1 body) → big_number 8 numbers ≡ number_at 5 8 body
number_place body numbers e = ap (big_number 8) (e ∙ ap (drop 4) (take_rest body 1) ∙ drop-drop 4 1 body)

pub batch_parts : (body numbers rest signals : List ℕ) (incarnation number count : ℕ) → 14 ≤ length body → get_or body 0 0 ≡ 5
    → from 1 body ≡ big_bytes 4 incarnation ++ numbers → numbers ≡ big_bytes 8 number ++ rest → 0 < length rest → get_or rest 0 0 ≡ count → from 1 rest ≡ signals
    → body ≡ 5 ∷ big_bytes 4 incarnation ++ big_bytes 8 number ++ count ∷ signals
batch_parts body numbers rest signals incarnation number count size kind first second there third fourth =
    let behind : rest ≡ count ∷ signals = headed rest signals count there third (sym (take_rest rest 1) ∙ fourth) in
    headed body (big_bytes 4 incarnation ++ big_bytes 8 number ++ count ∷ signals) 5 (omega arith) kind
    (field_then _ (big_bytes 4 incarnation) numbers _ (sym (take_rest body 1) ∙ first) (field_then _ (big_bytes 8 number) rest _ second behind))

-- ---- its faults

pub short_batch : (body : List ℕ) → get_or body 0 0 ≡ 5 → length body < 14 → body_fault body ≡ Some BadLength
short_batch body kind few =
    let short : ltb (length body) 14 ≡ true = lt-ltb _ _ few in
    rw (kind, short) refl

batch_fault_counts : (body : List ℕ) (fault : FrameFault) → get_or body 0 0 ≡ 5 → 14 ≤ length body → batch_fault body ≡ Some fault → body_fault body ≡ Some fault
batch_fault_counts body fault kind size h =
    let long : ltb (length body) 14 ≡ false = le-ltb _ _ size in
    rw (kind, long) h

pub bad_count : (body : List ℕ) (count : ℕ) → get_or body 0 0 ≡ 5 → 14 ≤ length body → count ≡ slice_index body 13 → (count < 2) ⊎ (64 < count) → body_fault body ≡ Some BadKind
bad_count body count kind size count-is h = batch_fault_counts body BadKind kind size (by h)
  where
    by : (count < 2) ⊎ (64 < count) → batch_fault body ≡ Some BadKind
    by (inl few) = let e : ltb (slice_index body 13) 2 ≡ true = lt-ltb _ _ (omega arith) in rw e refl
    by (inr many) =
        let e : ltb (slice_index body 13) 2 ≡ false = le-ltb _ _ (omega arith) in
        let f : ltb 64 (slice_index body 13) ≡ true = lt-ltb _ _ (omega arith) in
        rw (e, f) refl

pub bad_last : (body : List ℕ) (number count : ℕ) → get_or body 0 0 ≡ 5 → 14 ≤ length body → count ≡ slice_index body 13 → number ≡ number_at 5 8 body → 2 ≤ count → count ≤ 64
    → 2 ^ 64 < number + count → body_fault body ≡ Some BadKind
bad_last body number count kind size count-is number-is low high over =
    let e : ltb (slice_index body 13) 2 ≡ false = le-ltb _ _ (omega arith) in
    let f : ltb 64 (slice_index body 13) ≡ false = le-ltb _ _ (omega arith) in
    let g : ltb (2 ^ 64) (number_at 5 8 body + slice_index body 13) ≡ true = lt-ltb _ _ (omega arith) in
    batch_fault_counts body BadKind kind size (rw (e, f, g) refl)

pub bad_signals : (body signals : List ℕ) (number count : ℕ) (fault : FrameFault) → get_or body 0 0 ≡ 5 → 14 ≤ length body → count ≡ slice_index body 13 → number ≡ number_at 5 8 body → 2 ≤ count → count ≤ 64
    → number + count ≤ 2 ^ 64 → signals ≡ drop 14 body → signals_fault count signals ≡ Some fault → body_fault body ≡ Some fault
bad_signals body signals number count fault kind size count-is number-is low high under signals-is h =
    let e : ltb (slice_index body 13) 2 ≡ false = le-ltb _ _ (omega arith) in
    let f : ltb 64 (slice_index body 13) ≡ false = le-ltb _ _ (omega arith) in
    let g : ltb (2 ^ 64) (number_at 5 8 body + slice_index body 13) ≡ false = le-ltb _ _ (omega arith) in
    let there : signals_fault (slice_index body 13) (drop 14 body) ≡ Some fault = ap (λ (n : ℕ). signals_fault n (drop 14 body)) (sym count-is) ∙ ap (signals_fault count) (sym signals-is) ∙ h in
    batch_fault_counts body fault kind size (rw (e, f, g) there)

-- ---- what it is read as

-- the frames whose fields stand at these places
abbrev pub frames_in : List ℕ → List Frame
frames_in body = numbered (number_at 1 4 body) (number_at 5 8 body) (signals_at (slice_index body 13) (drop 14 body))

-- a body carries these frames by its places, and nothing is wrong with it
pub record Tells (body : List ℕ) (frames : List Frame) : Type 0 where
  pub frames_are : frames_in body ≡ frames
  pub faultless : body_fault body ≡ None
  pub length_fits : is_length (length body) ≡ true

tells : (incarnation number : ℕ) (signals : List Signal) → 2 ≤ length signals → length signals ≤ 64 → incarnation < 2 ^ 32 → number + length signals ≤ 2 ^ 64 → AllByRecursion IsSignal signals
    → Tells (batch_of incarnation number signals) (numbered incarnation number signals)
tells incarnation number signals low high i n each =
    let all = flat_map signal_bytes signals in
    let a : number_at 1 4 (batch_of incarnation number signals) ≡ incarnation = big_number-reads_back 4 incarnation (big_bytes 8 number ++ length signals ∷ all) i in
    let b : number_at 5 8 (batch_of incarnation number signals) ≡ number = big_number-reads_back 8 number (length signals ∷ all) (omega arith) in
    let again : signals_at (length signals) all ≡ signals = ap (signals_at (length signals)) (sym (append-nil all)) ∙ signals_again signals [] each in
    let size = signals_length signals each in
    let long : ltb (length (batch_of incarnation number signals)) 14 ≡ false = le-ltb _ _ (omega arith) in
    let e : ltb (length signals) 2 ≡ false = le-ltb _ _ low in
    let f : ltb 64 (length signals) ≡ false = le-ltb _ _ high in
    let g : ltb (2 ^ 64) (number_at 5 8 (batch_of incarnation number signals) + length signals) ≡ false = le-ltb _ _ (omega arith) in
    record {
      frames_are = rw (a, b, again) refl;
      faultless = rw (long, e, f, g) (signals_faultless signals each);
      length_fits = grind (arith, nat_tests);
    }

pub batch_tells : (body : List ℕ) (frames : List Frame) → IsBatch body frames → Tells body frames
batch_tells body frames h =
    subst (λ (b : List ℕ). Tells b frames) (sym h.is_body) (subst (λ (f : List Frame). Tells (batch_of h.incarnation h.first h.signals) f) (sym h.carries)
    (tells h.incarnation h.first h.signals h.several h.few h.incarnation_fits h.numbers_fit h.are_signals))
