-- Signals that are checked one after the other.
use Rattle.std.proofs.Common.{◌≡◌, ℕ, suc, ◌+◌, ◌-◌, ◌<◌, ◌≤◌, true, false, ltb, List, [], ◌∷◌, ◌++◌, length, take, drop, Some, None, refl, sym, ap, ◌∙◌, arith, inl, inr}
use Rattle.std.specs.Prelude.{slice_index, ◌==◌}
use Rattle.std.proofs.lemmas.Bool.{cases_lt, cases_Bool, lt-ltb, le-ltb}
use Rattle.std.proofs.lemmas.List.{nil_from_length, take-append-drop, length-take-le, drop-take, get_or-take}
use Rattle.byteorder.specs.Numbers.{big_from-take}
use Rattle.signal.specs.declared.signal.Signal.{Signal}
use Rattle.signal.specs.declared.fault.FrameFault.{FrameFault}
use Rattle.signal.specs.declared.fault.FrameFault.TheVariants.{BadLength, BadKind, BadTag, Trailing}
use Rattle.signal.specs.Signal.{signal_bytes, IsSignal}
use Rattle.signal.specs.Fault.{number_at, is_tag, is_kind, signal_size, tag_place, has_tag, signal_fault, shape_fault, tags_fault, signals_fault}
use Rattle.signal.specs.Begun.{AreSignals}
use Rattle.signal.proofs.Signals.{size_cases, signal_front}

-- ---- the shape of what is left

one_more : (left : ℕ) (bytes : List ℕ) → 0 < left → shape_fault left bytes ≡ shape_fault (suc (left - 1)) bytes
one_more left bytes some = let e : left ≡ suc (left - 1) = omega arith in ap (λ (n : ℕ). shape_fault n bytes) e

pub no_bytes : (left : ℕ) (bytes : List ℕ) → 0 < left → length bytes ≡ 0 → shape_fault left bytes ≡ Some BadLength
no_bytes left bytes some none =
    let short : ltb (length bytes) 1 ≡ true = lt-ltb _ _ (omega arith) in
    one_more left bytes some ∙ rw short refl

pub no_kind : (left : ℕ) (bytes : List ℕ) → 0 < left → 0 < length bytes → is_kind 4 (slice_index bytes 0) ≡ false → shape_fault left bytes ≡ Some BadKind
no_kind left bytes some there kind =
    let long : ltb (length bytes) 1 ≡ false = le-ltb _ _ there in
    one_more left bytes some ∙ rw (long, kind) refl

pub too_short : (left : ℕ) (bytes : List ℕ) → 0 < left → 0 < length bytes → is_kind 4 (slice_index bytes 0) ≡ true → length bytes < signal_size (slice_index bytes 0) → shape_fault left bytes ≡ Some BadLength
too_short left bytes some there kind few =
    let long : ltb (length bytes) 1 ≡ false = le-ltb _ _ there in
    let short : ltb (length bytes) (signal_size (slice_index bytes 0)) ≡ true = lt-ltb _ _ few in
    one_more left bytes some ∙ rw (long, kind, short) refl

pub shape_step : (left : ℕ) (bytes : List ℕ) → 0 < left → 0 < length bytes → is_kind 4 (slice_index bytes 0) ≡ true → signal_size (slice_index bytes 0) ≤ length bytes
    → shape_fault left bytes ≡ shape_fault (left - 1) (drop (signal_size (slice_index bytes 0)) bytes)
shape_step left bytes some there kind fits =
    let long : ltb (length bytes) 1 ≡ false = le-ltb _ _ there in
    let enough : ltb (length bytes) (signal_size (slice_index bytes 0)) ≡ false = le-ltb _ _ fits in
    one_more left bytes some ∙ rw (long, kind, enough) refl

pub something_left : (left : ℕ) (bytes : List ℕ) → left ≡ 0 → 0 < length bytes → shape_fault left bytes ≡ Some Trailing
something_left left bytes none some =
    let e : ltb 0 (length bytes) ≡ true = lt-ltb _ _ some in
    ap (λ (n : ℕ). shape_fault n bytes) none ∙ rw e refl

-- what a shape without a fault says of the first signal, and of the others
pub record Shape (left : ℕ) (bytes : List ℕ) : Type 0 where
  pub some : 0 < length bytes
  pub kind_is : is_kind 4 (slice_index bytes 0) ≡ true
  pub fits : signal_size (slice_index bytes 0) ≤ length bytes
  pub others : shape_fault (left - 1) (drop (signal_size (slice_index bytes 0)) bytes) ≡ None

pub shape_of : (left : ℕ) (bytes : List ℕ) → 0 < left → shape_fault left bytes ≡ None → Shape left bytes
shape_of left bytes some h =
    elim (cases_lt 0 (length bytes)) [
      | inr le ↦ absurd (let clash : None ≡ Some BadLength = sym h ∙ no_bytes left bytes some (omega arith) in cc)
      | inl there ↦ elim (cases_Bool (is_kind 4 (slice_index bytes 0))) [
        | inr kind ↦ absurd (let clash : None ≡ Some BadKind = sym h ∙ no_kind left bytes some there kind in cc)
        | inl kind ↦ elim (cases_lt (length bytes) (signal_size (slice_index bytes 0))) [
          | inl few ↦ absurd (let clash : None ≡ Some BadLength = sym h ∙ too_short left bytes some there kind few in cc)
          | inr fits ↦ record { some = there; kind_is = kind; fits = fits; others = sym (shape_step left bytes some there kind fits) ∙ h }
        ]
      ]
    ]

pub all_read : (bytes : List ℕ) → shape_fault 0 bytes ≡ None → bytes ≡ []
all_read bytes h =
    elim (cases_lt 0 (length bytes)) [
      | inr le ↦ nil_from_length bytes (omega arith)
      | inl some ↦ absurd (let clash : None ≡ Some Trailing = sym h ∙ something_left 0 bytes refl some in cc)
    ]

-- ---- the tags

-- the tag of a signal is read in its own bytes
number_within : (place n size : ℕ) (bytes : List ℕ) → place + n ≤ size → number_at place n (take size bytes) ≡ number_at place n bytes
number_within place n size bytes fits =
    let more : size ≡ place + (size - place) = omega arith in
    ap (λ (s : ℕ). number_at place n (take s bytes)) more ∙ ap (λ (b : List ℕ). number_at 0 n b) (drop-take place (size - place) bytes) ∙ big_from-take 0 n (size - place) (drop place bytes) (omega arith)

tag_ends : (kind : ℕ) → tag_place kind + 8 + 4 ≤ signal_size kind
tag_ends kind = grind (arith)

pub tag_within : (size : ℕ) (bytes : List ℕ) → size ≡ signal_size (slice_index bytes 0) → has_tag (take size bytes) ≡ has_tag bytes
tag_within size bytes e =
    let kind = slice_index bytes 0 in
    let place = tag_place kind in
    let sizes = size_cases kind in
    let ends = tag_ends kind in
    let same : slice_index (take size bytes) 0 ≡ kind = get_or-take size bytes 0 0 (omega arith) in
    let time : number_at place 8 (take size bytes) ≡ number_at place 8 bytes = number_within place 8 size bytes (omega arith) in
    let microstep : number_at (place + 8) 4 (take size bytes) ≡ number_at (place + 8) 4 bytes = number_within (place + 8) 4 size bytes (omega arith) in
    ap (λ (k : ℕ). is_tag (k == 1) (number_at (tag_place k) 8 (take size bytes)) (number_at (tag_place k + 8) 4 (take size bytes))) same
    ∙ ap (λ (n : ℕ). is_tag (kind == 1) n (number_at (place + 8) 4 (take size bytes))) time
    ∙ ap (λ (n : ℕ). is_tag (kind == 1) (number_at place 8 bytes) n) microstep

-- where a piece has its kind and its size, only its tag may be wrong
pub only_tag : (piece : List ℕ) (fault : FrameFault) → is_kind 4 (slice_index piece 0) ≡ true → length piece ≡ signal_size (slice_index piece 0) → signal_fault piece ≡ Some fault → (fault ≡ BadTag) × (has_tag piece ≡ false)
only_tag piece fault kind size h =
    let more : ltb (length piece) (signal_size (slice_index piece 0)) ≡ false = le-ltb _ _ (omega arith) in
    let less : ltb (signal_size (slice_index piece 0)) (length piece) ≡ false = le-ltb _ _ (omega arith) in
    elim (cases_Bool (has_tag piece)) [
      | inl good ↦ absurd (let e : signal_fault piece ≡ None = rw (kind, more, less, good) refl in let clash : None ≡ Some fault = sym e ∙ h in cc)
      | inr bad ↦ let e : signal_fault piece ≡ Some BadTag = rw (kind, more, less, bad) refl in let same : Some BadTag ≡ Some fault = sym e ∙ h in let f : fault ≡ BadTag = cc in (f, bad)
    ]

pub tags_bad : (left : ℕ) (bytes : List ℕ) → 0 < left → has_tag bytes ≡ false → tags_fault left bytes ≡ Some BadTag
tags_bad left bytes some bad =
    let e : left ≡ suc (left - 1) = omega arith in
    ap (λ (n : ℕ). tags_fault n bytes) e ∙ rw bad refl

tags_step : (left : ℕ) (bytes : List ℕ) → 0 < left → has_tag bytes ≡ true → tags_fault left bytes ≡ tags_fault (left - 1) (drop (signal_size (slice_index bytes 0)) bytes)
tags_step left bytes some good =
    let e : left ≡ suc (left - 1) = omega arith in
    ap (λ (n : ℕ). tags_fault n bytes) e ∙ rw good refl

-- the fault of a piece that has its shape is that of the tags
pub tag_fault_counts : (left size : ℕ) (bytes piece : List ℕ) (fault : FrameFault) → 0 < left → Shape left bytes → size ≡ signal_size (slice_index bytes 0) → piece ≡ take size bytes → signal_fault piece ≡ Some fault
    → tags_fault left bytes ≡ Some fault
tag_fault_counts left size bytes piece fault some shape size-is piece-is h =
    let sizes = size_cases (slice_index bytes 0) in
    let same : slice_index piece 0 ≡ slice_index bytes 0 = ap (λ (b : List ℕ). slice_index b 0) piece-is ∙ get_or-take size bytes 0 0 (omega arith) in
    let kind : is_kind 4 (slice_index piece 0) ≡ true = ap (is_kind 4) same ∙ shape.kind_is in
    let long : length piece ≡ size = ap length piece-is ∙ length-take-le size bytes (omega (arith, shape.fits)) in
    let only = only_tag piece fault kind (long ∙ size-is ∙ ap signal_size (sym same)) h in
    let bad : has_tag bytes ≡ false = sym (tag_within size bytes size-is) ∙ ap has_tag (sym piece-is) ∙ only.1 in
    tags_bad left bytes some bad ∙ ap (λ (f : FrameFault). Some f) (sym only.0)

-- a signal that was read, and what is left behind it
pub record Read (left : ℕ) (bytes behind : List ℕ) : Type 0 where
  pub tags : tags_fault left bytes ≡ tags_fault (left - 1) behind
  pub filled : AreSignals (left - 1) behind → AreSignals left bytes

pub read : (left size : ℕ) (bytes piece behind : List ℕ) (signal : Signal) → 0 < left → size ≡ signal_size (slice_index bytes 0) → piece ≡ take size bytes → behind ≡ drop size bytes
    → IsSignal signal → piece ≡ signal_bytes signal → Read left bytes behind
read left size bytes piece behind signal some size-is piece-is behind-is h spelled =
    let parts : bytes ≡ signal_bytes signal ++ behind =
    sym (take-append-drop size bytes) ∙ ap (λ (b : List ℕ). b ++ drop size bytes) (sym piece-is ∙ spelled) ∙ ap (λ (b : List ℕ). signal_bytes signal ++ b) (sym behind-is) in
    let front = signal_front signal behind h in
    let good : has_tag bytes ≡ true = ap has_tag parts ∙ front.tag_is in
    record {
      tags = tags_step left bytes some good ∙ ap (λ (n : ℕ). tags_fault (left - 1) (drop n bytes)) (sym size-is) ∙ ap (tags_fault (left - 1)) (sym behind-is);
      filled = λ others. record {
        signals = signal ∷ others.signals;
        count_is = let c = others.count_is in omega arith;
        each = (h, others.each);
        filled = parts ∙ ap (λ (b : List ℕ). signal_bytes signal ++ b) others.filled;
      };
    }

pub none_left : (left : ℕ) (bytes : List ℕ) → left ≡ 0 → shape_fault left bytes ≡ None → AreSignals left bytes
none_left left bytes none shape =
    record { signals = []; count_is = sym none; each = tt; filled = all_read bytes (ap (λ (n : ℕ). shape_fault n bytes) (sym none) ∙ shape) }

-- ---- shape and tags

pub shape_first : (n : ℕ) (bytes : List ℕ) (fault : FrameFault) → shape_fault n bytes ≡ Some fault → signals_fault n bytes ≡ Some fault
shape_first n bytes fault h = rw h refl

pub then_tags : (n : ℕ) (bytes : List ℕ) (fault : FrameFault) → shape_fault n bytes ≡ None → tags_fault n bytes ≡ Some fault → signals_fault n bytes ≡ Some fault
then_tags n bytes fault shape h = rw shape h
