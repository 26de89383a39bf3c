-- Signals at the front of some bytes: what they spell is read there again, and nothing is wrong with it.
use Rattle.std.proofs.Common.{◌≡◌, ℕ, suc, ◌+◌, ◌*◌, ◌^◌, ◌<◌, ◌≤◌, Bool, true, false, ltb, List, [], ◌∷◌, ◌++◌, length, drop, None, refl, sym, ap, subst, ◌∙◌, arith, inl, inr, lit<, append_assoc}
use Rattle.std.specs.Prelude.{ℤ, nat_lt, slice_index}
use Rattle.std.specs.List.{flat_map, AllByRecursion}
use Rattle.std.specs.Int.{w64, cast_unsigned}
use Rattle.std.proofs.lemmas.Bool.{cases_lt, lt-ltb, le-ltb}
use Rattle.std.proofs.lemmas.List.{append-nil, drop_at, length-append}
use Rattle.std.proofs.lemmas.Int.{to_z-of_z, ints}
use Rattle.byteorder.specs.Endian.{big_bytes}
use Rattle.byteorder.specs.Numbers.{big_number-reads_back}
use Rattle.tag.specs.LogicalTime.{LogicalTime, IsLogicalTime, IsFinite}
use Rattle.signal.specs.declared.signal.Signal.{Signal}
use Rattle.signal.specs.declared.signal.Signal.TheVariants.{Net, Ltc, Tag, Msg}
use Rattle.signal.specs.Signal.{tag_number_bytes, tag_bytes, signal_bytes, IsSignal}
use Rattle.signal.specs.Fault.{number_at, is_tag, is_kind, signal_size, has_tag, signal_fault, shape_fault, tags_fault, signals_fault}
use Rattle.signal.specs.Begun.{tag_of, signal_at, signals_at}

abbrev tag_of_numbers : ℕ → ℕ → LogicalTime
tag_of_numbers time microstep = record { time = time; microstep = microstep }

-- the tag in its twelve bytes, as two numbers
record TagNumbers (g : LogicalTime) (forever_too : Bool) : Type 0 where
  time : ℕ
  microstep : ℕ
  bytes : tag_bytes g ≡ tag_number_bytes time microstep
  time_fits : time < 2 ^ 64
  microstep_fits : microstep < 2 ^ 32
  again : tag_of time microstep ≡ g
  good : is_tag forever_too time microstep ≡ true

finite_numbers : (g : LogicalTime) (forever_too : Bool) → IsFinite g → TagNumbers g forever_too
finite_numbers g b h =
    let lt : nat_lt g.time (2 ^ 62) ≡ true = lt-ltb _ _ h.time in
    record {
      time = g.time;
      microstep = g.microstep;
      bytes = rw lt refl;
      time_fits = omega (arith, h.time);
      microstep_fits = h.microstep;
      again = rw lt refl;
      good = rw lt refl;
    }

tag_numbers : (g : LogicalTime) → IsLogicalTime g → TagNumbers g true
tag_numbers g h =
    elim (cases_lt g.time (2 ^ 62)) [
      | inl lt ↦ finite_numbers g true (record { time = lt; microstep = h.microstep })
      | inr le ↦
          let ge : nat_lt g.time (2 ^ 62) ≡ false = le-ltb _ _ le in
          let t : g.time ≡ 2 ^ 62 = omega (arith, h.time) in
          let m : g.microstep ≡ 0 = h.forever_alone le in
          record {
            time = 0xffff_ffff_ffff_ffff;
            microstep = 0xffff_ffff;
            bytes = rw ge refl;
            time_fits = lit< tt;
            microstep_fits = lit< tt;
            again = sym (ap (λ (a : ℕ). tag_of_numbers a g.microstep) t ∙ ap (λ (b : ℕ). tag_of_numbers (2 ^ 62) b) m);
            good = refl;
          }
    ]

-- a signal at the front of some bytes
pub record Front (signal : Signal) (bytes : List ℕ) : Type 0 where
  pub signal_is : signal_at bytes ≡ signal
  pub kind_is : is_kind 4 (slice_index bytes 0) ≡ true
  pub size_is : signal_size (slice_index bytes 0) ≡ length (signal_bytes signal)
  pub tag_is : has_tag bytes ≡ true

-- where the numbers of a NET, an LTC or a TAG stand
record TagPlaces (bytes : List ℕ) (time microstep : ℕ) : Type 0 where
  time_at : number_at 1 8 bytes ≡ time
  microstep_at : number_at 9 4 bytes ≡ microstep

tag_places : (kind time microstep : ℕ) (behind : List ℕ) → time < 2 ^ 64 → microstep < 2 ^ 32 → TagPlaces (kind ∷ tag_number_bytes time microstep ++ behind) time microstep
tag_places kind time microstep behind t m = record {
  time_at = big_number-reads_back 8 time (big_bytes 4 microstep ++ behind) t;
  microstep_at = big_number-reads_back 4 microstep behind m;
}

net_front : (g : LogicalTime) (behind : List ℕ) → IsLogicalTime g → Front (Net g) (signal_bytes (Net g) ++ behind)
net_front g behind h =
    let x = tag_numbers g h in
    let p = tag_places 1 x.time x.microstep behind x.time_fits x.microstep_fits in
    let at : List ℕ → List ℕ = λ b. 1 ∷ b ++ behind in
    record {
      signal_is = ap (λ (b : List ℕ). signal_at (at b)) x.bytes ∙ rw (p.time_at, p.microstep_at, x.again) refl;
      kind_is = refl;
      size_is = sym (ap (λ (b : List ℕ). suc (length b)) x.bytes);
      tag_is = ap (λ (b : List ℕ). has_tag (at b)) x.bytes ∙ rw (p.time_at, p.microstep_at, x.good) refl;
    }

ltc_front : (g : LogicalTime) (behind : List ℕ) → IsFinite g → Front (Ltc g) (signal_bytes (Ltc g) ++ behind)
ltc_front g behind h =
    let x = finite_numbers g false h in
    let p = tag_places 2 x.time x.microstep behind x.time_fits x.microstep_fits in
    let at : List ℕ → List ℕ = λ b. 2 ∷ b ++ behind in
    record {
      signal_is = ap (λ (b : List ℕ). signal_at (at b)) x.bytes ∙ rw (p.time_at, p.microstep_at, x.again) refl;
      kind_is = refl;
      size_is = sym (ap (λ (b : List ℕ). suc (length b)) x.bytes);
      tag_is = ap (λ (b : List ℕ). has_tag (at b)) x.bytes ∙ rw (p.time_at, x.good) refl;
    }

grant_front : (g : LogicalTime) (behind : List ℕ) → IsFinite g → Front (Tag g) (signal_bytes (Tag g) ++ behind)
grant_front g behind h =
    let x = finite_numbers g false h in
    let p = tag_places 3 x.time x.microstep behind x.time_fits x.microstep_fits in
    let at : List ℕ → List ℕ = λ b. 3 ∷ b ++ behind in
    record {
      signal_is = ap (λ (b : List ℕ). signal_at (at b)) x.bytes ∙ rw (p.time_at, p.microstep_at, x.again) refl;
      kind_is = refl;
      size_is = sym (ap (λ (b : List ℕ). suc (length b)) x.bytes);
      tag_is = ap (λ (b : List ℕ). has_tag (at b)) x.bytes ∙ rw (p.time_at, x.good) refl;
    }

-- where those of a MSG stand
record MessagePlaces (bytes : List ℕ) (connection time microstep value : ℕ) : Type 0 where
  connection_at : number_at 1 2 bytes ≡ connection
  time_at : number_at 3 8 bytes ≡ time
  microstep_at : number_at 11 4 bytes ≡ microstep
  value_at : number_at 15 8 bytes ≡ value

message_places : (connection time microstep value : ℕ) (behind : List ℕ) → connection < 2 ^ 16 → time < 2 ^ 64 → microstep < 2 ^ 32 → value < 2 ^ 64
    → MessagePlaces ((4 ∷ big_bytes 2 connection ++ tag_number_bytes time microstep ++ big_bytes 8 value) ++ behind) connection time microstep value
message_places connection time microstep value behind c t m v = record {
  connection_at = big_number-reads_back 2 connection (tag_number_bytes time microstep ++ big_bytes 8 value ++ behind) c;
  time_at = big_number-reads_back 8 time (big_bytes 4 microstep ++ big_bytes 8 value ++ behind) t;
  microstep_at = big_number-reads_back 4 microstep (big_bytes 8 value ++ behind) m;
  value_at = big_number-reads_back 8 value behind v;
}

message_front : (connection : ℕ) (g : LogicalTime) (value : ℤ) (behind : List ℕ) → IsSignal (Msg connection g value) → Front (Msg connection g value) (signal_bytes (Msg connection g value) ++ behind)
message_front connection g value behind h =
    let x = finite_numbers g false h.1 in
    let fits : cast_unsigned w64 value < 2 ^ 64 = omega (arith, ints) in
    let p = message_places connection x.time x.microstep (cast_unsigned w64 value) behind h.0 x.time_fits x.microstep_fits fits in
    let back = to_z-of_z w64 value h.2 in
    let at : List ℕ → List ℕ = λ b. (4 ∷ big_bytes 2 connection ++ b ++ big_bytes 8 (cast_unsigned w64 value)) ++ behind in
    record {
      signal_is = ap (λ (b : List ℕ). signal_at (at b)) x.bytes ∙ rw (p.connection_at, p.time_at, p.microstep_at, p.value_at, x.again, back) refl;
      kind_is = refl;
      size_is = sym (ap (λ (b : List ℕ). length (4 ∷ big_bytes 2 connection ++ b ++ big_bytes 8 (cast_unsigned w64 value))) x.bytes);
      tag_is = ap (λ (b : List ℕ). has_tag (at b)) x.bytes ∙ rw (p.time_at, x.good) refl;
    }

pub signal_front : (signal : Signal) (behind : List ℕ) → IsSignal signal → Front signal (signal_bytes signal ++ behind)
signal_front (Net g) behind h = net_front g behind h
signal_front (Ltc g) behind h = ltc_front g behind h
signal_front (Tag g) behind h = grant_front g behind h
signal_front (Msg connection g value) behind h = message_front connection g value behind h

-- a signal takes 13 bytes or 23
pub size_cases : (kind : ℕ) → (13 ≤ signal_size kind) × (signal_size kind ≤ 23)
size_cases kind = grind (arith)

-- nothing is wrong with a signal's own spelling
pub faultless_alone : (bytes : List ℕ) → is_kind 4 (slice_index bytes 0) ≡ true → signal_size (slice_index bytes 0) ≡ length bytes → has_tag bytes ≡ true → signal_fault bytes ≡ None
faultless_alone bytes kind size tag =
    let more : ltb (length bytes) (signal_size (slice_index bytes 0)) ≡ false = le-ltb _ _ (omega (arith, size)) in
    let less : ltb (signal_size (slice_index bytes 0)) (length bytes) ≡ false = le-ltb _ _ (omega (arith, size)) in
    rw (kind, more, less, tag) refl

pub alone : (signal : Signal) → IsSignal signal → Front signal (signal_bytes signal)
alone signal h = subst (λ (b : List ℕ). Front signal b) (append-nil (signal_bytes signal)) (signal_front signal [] h)

pub signal_faultless : (signal : Signal) → IsSignal signal → signal_fault (signal_bytes signal) ≡ None
signal_faultless signal h =
    let front = alone signal h in
    faultless_alone (signal_bytes signal) front.kind_is front.size_is front.tag_is

-- the signal of a piece at the front is that at the front
pub front_is : (bytes piece behind : List ℕ) (signal : Signal) → IsSignal signal → bytes ≡ piece ++ behind → piece ≡ signal_bytes signal → signal ≡ signal_at bytes
front_is bytes piece behind signal h whole alone =
    let front = signal_front signal behind h in
    sym (ap signal_at (whole ∙ ap (λ (b : List ℕ). b ++ behind) alone) ∙ front.signal_is)

-- a signal that begins the bytes is there
record Whole (bytes : List ℕ) : Type 0 where
  some : 0 < length bytes
  fits : signal_size (slice_index bytes 0) ≤ length bytes

whole_at : (signal : Signal) (behind : List ℕ) → IsSignal signal → Whole (signal_bytes signal ++ behind)
whole_at signal behind h =
    let front = signal_front signal behind h in
    let size = size_cases (slice_index (signal_bytes signal ++ behind) 0) in
    let long : length (signal_bytes signal ++ behind) ≡ length (signal_bytes signal) + length behind = length-append (signal_bytes signal) behind in
    record { some = omega (arith, long, front.size_is, size.0); fits = omega (arith, long, front.size_is) }

-- ---- signals one after the other

-- signals at the front of some bytes are read there again
pub signals_again : (signals : List Signal) (behind : List ℕ) → AllByRecursion IsSignal signals → signals_at (length signals) (flat_map signal_bytes signals ++ behind) ≡ signals
signals_again [] behind h = refl
signals_again (signal ∷ signals) behind h =
    let others = flat_map signal_bytes signals ++ behind in
    let front = signal_front signal others h.0 in
    let rest : drop (signal_size (slice_index (signal_bytes signal ++ others) 0)) (signal_bytes signal ++ others) ≡ others = drop_at (signal_bytes signal) others _ (sym front.size_is) in
    let again = signals_again signals behind h.1 in
    rw (append_assoc (signal_bytes signal) (flat_map signal_bytes signals) behind, front.signal_is, rest, again) refl

-- signals that fill some bytes have no fault
pub shape_faultless : (signals : List Signal) → AllByRecursion IsSignal signals → shape_fault (length signals) (flat_map signal_bytes signals) ≡ None
shape_faultless [] h = refl
shape_faultless (signal ∷ signals) h =
    let others = flat_map signal_bytes signals in
    let front = signal_front signal others h.0 in
    let there = whole_at signal others h.0 in
    let some : ltb (length (signal_bytes signal ++ others)) 1 ≡ false = le-ltb _ _ there.some in
    let fits : ltb (length (signal_bytes signal ++ others)) (signal_size (slice_index (signal_bytes signal ++ others) 0)) ≡ false = le-ltb _ _ there.fits in
    let rest : drop (signal_size (slice_index (signal_bytes signal ++ others) 0)) (signal_bytes signal ++ others) ≡ others = drop_at (signal_bytes signal) others _ (sym front.size_is) in
    rw (some, front.kind_is, fits, rest) (shape_faultless signals h.1)

pub tags_faultless : (signals : List Signal) → AllByRecursion IsSignal signals → tags_fault (length signals) (flat_map signal_bytes signals) ≡ None
tags_faultless [] h = refl
tags_faultless (signal ∷ signals) h =
    let others = flat_map signal_bytes signals in
    let front = signal_front signal others h.0 in
    let rest : drop (signal_size (slice_index (signal_bytes signal ++ others) 0)) (signal_bytes signal ++ others) ≡ others = drop_at (signal_bytes signal) others _ (sym front.size_is) in
    rw (front.tag_is, rest) (tags_faultless signals h.1)

pub signals_faultless : (signals : List Signal) → AllByRecursion IsSignal signals → signals_fault (length signals) (flat_map signal_bytes signals) ≡ None
signals_faultless signals h = rw (shape_faultless signals h) (tags_faultless signals h)

-- they take 13 to 23 bytes each
pub signals_length : (signals : List Signal) → AllByRecursion IsSignal signals → length (flat_map signal_bytes signals) ≤ 23 * length signals
signals_length [] h = omega arith
signals_length (signal ∷ signals) h =
    let front = alone signal h.0 in
    let size = size_cases (slice_index (signal_bytes signal) 0) in
    let others = signals_length signals h.1 in
    omega (arith, length-append (signal_bytes signal) (flat_map signal_bytes signals), front.size_is, size.1)
