-- A begun Batch: its next frame, and what is left of it.
use Rattle.std.proofs.Common.{◌≡◌, ℕ, suc, ◌+◌, ◌-◌, ◌<◌, ◌≤◌, List, [], ◌∷◌, ◌++◌, length, drop, sym, ap, ◌∙◌, arith, append_assoc}
use Rattle.std.specs.Prelude.{slice_index}
use Rattle.std.specs.List.{flat_map, AllByRecursion}
use Rattle.std.proofs.lemmas.List.{drop_at, drop-drop, length-append}
use Rattle.signal.specs.declared.signal.Signal.{Signal}
use Rattle.signal.specs.declared.frame.Frame.TheVariants.{Data}
use Rattle.signal.specs.declared.batch.Begun.{Begun}
use Rattle.signal.specs.Signal.{signal_bytes, IsSignal}
use Rattle.signal.specs.Batch.{numbered}
use Rattle.signal.specs.Fault.{signal_size}
use Rattle.signal.specs.Begun.{signal_at, signals_at, frames_at, BeginsSignal, HasSignals}
use Rattle.signal.proofs.Signals.{signal_front}

-- where signals are still to be given, the next one begins the bytes
pub next_begins : (begun : Begun) (bytes : List ℕ) → 0 < begun.count → HasSignals begun bytes → BeginsSignal bytes
next_begins begun bytes some h = by h.signals h.count_is h.each h.begins
  where
    by : (signals : List Signal) → length signals ≡ begun.count → AllByRecursion IsSignal signals → bytes ≡ flat_map signal_bytes signals ++ drop begun.size bytes → BeginsSignal bytes
    by [] count each begins = absurd (omega arith)
    by (signal ∷ signals) count each begins = record {
      signal = signal;
      behind = flat_map signal_bytes signals ++ drop begun.size bytes;
      is_signal = each.0;
      begins = begins ∙ append_assoc (signal_bytes signal) (flat_map signal_bytes signals) (drop begun.size bytes);
    }

-- the signals behind the first one
record Left (begun new : Begun) (bytes : List ℕ) (size : ℕ) : Type 0 where
  within : size ≤ begun.size
  others : HasSignals new (drop size bytes)

abbrev IsNext : (old new : Begun) → ℕ → Type 0
IsNext old new size = (new.count ≡ old.count - 1) × (new.size ≡ old.size - size) × (new.last ≡ old.last)

left_of : (begun new : Begun) (bytes : List ℕ) (signal : Signal) (signals : List Signal) (size : ℕ) → length (signal ∷ signals) ≡ begun.count → AllByRecursion IsSignal (signal ∷ signals)
    → bytes ≡ flat_map signal_bytes (signal ∷ signals) ++ drop begun.size bytes → length (flat_map signal_bytes (signal ∷ signals)) ≡ begun.size → begun.count ≤ begun.last + 1
    → size ≡ signal_size (slice_index bytes 0) → IsNext begun new size → Left begun new bytes size
left_of begun new bytes signal signals size count each begins size-is numbers first next =
    let others = flat_map signal_bytes signals in
    let rest = drop begun.size bytes in
    let whole : bytes ≡ signal_bytes signal ++ (others ++ rest) = begins ∙ append_assoc (signal_bytes signal) others rest in
    let front = signal_front signal (others ++ rest) each.0 in
    let same : size ≡ length (signal_bytes signal) = first ∙ ap (λ (b : List ℕ). signal_size (slice_index b 0)) whole ∙ front.size_is in
    let both : length (signal_bytes signal) + length others ≡ begun.size = sym (length-append (signal_bytes signal) others) ∙ size-is in
    let behind : drop size bytes ≡ others ++ rest = ap (drop size) whole ∙ drop_at (signal_bytes signal) (others ++ rest) size (sym same) in
    let sum : size + new.size ≡ begun.size = omega (arith, next.1) in
    let far : drop new.size (drop size bytes) ≡ rest = drop-drop new.size size bytes ∙ ap (λ (n : ℕ). drop n bytes) sum in
    record {
      within = omega arith;
      others = record {
        signals = signals;
        count_is = omega (arith, next.0);
        each = each.1;
        begins = behind ∙ ap (λ (r : List ℕ). others ++ r) (sym far);
        size_is = omega (arith, next.1);
        has_numbers = omega (arith, next.0, next.2);
      };
    }

pub left : (begun new : Begun) (bytes : List ℕ) (size : ℕ) → 0 < begun.count → HasSignals begun bytes → size ≡ signal_size (slice_index bytes 0)
    → new.count ≡ begun.count - 1 → new.size ≡ begun.size - size → new.last ≡ begun.last → (size ≤ begun.size) × HasSignals new (drop size bytes)
left begun new bytes size some h first count size-is last = by h.signals h.count_is h.each h.begins h.size_is
  where
    by : (signals : List Signal) → length signals ≡ begun.count → AllByRecursion IsSignal signals → bytes ≡ flat_map signal_bytes signals ++ drop begun.size bytes
        → length (flat_map signal_bytes signals) ≡ begun.size → (size ≤ begun.size) × HasSignals new (drop size bytes)
    by [] c each begins z = absurd (omega arith)
    by (signal ∷ signals) c each begins z =
        let l = left_of begun new bytes signal signals size c each begins z h.has_numbers first (count, size-is, last) in
        (l.within, l.others)

-- the next frame, and those behind it
pub next_frame : (begun new : Begun) (bytes : List ℕ) (size number : ℕ) (signal : Signal) → 0 < begun.count → begun.count ≤ begun.last + 1 → signal ≡ signal_at bytes → size ≡ signal_size (slice_index bytes 0)
    → number + begun.count ≡ begun.last + 1 → new.incarnation ≡ begun.incarnation → new.count + 1 ≡ begun.count → new.last ≡ begun.last
    → frames_at begun bytes ≡ Data begun.incarnation number signal ∷ frames_at new (drop size bytes)
next_frame begun new bytes size number signal some numbers signal-is size-is number-is incarnation count last =
    let more : begun.count ≡ suc new.count = omega arith in
    let here : begun.last + 1 - begun.count ≡ number = omega arith in
    let next : number + 1 ≡ new.last + 1 - new.count = omega arith in
    let inc = begun.incarnation in
    ap (λ (n : ℕ). numbered inc n (signals_at begun.count bytes)) here ∙ ap (λ (n : ℕ). numbered inc number (signals_at n bytes)) more
    ∙ ap (λ (s : Signal). Data inc number s ∷ numbered inc (number + 1) (signals_at new.count (drop (signal_size (slice_index bytes 0)) bytes))) (sym signal-is)
    ∙ ap (λ (n : ℕ). Data inc number signal ∷ numbered inc (number + 1) (signals_at new.count (drop n bytes))) (sym size-is)
    ∙ ap (λ (n : ℕ). Data inc number signal ∷ numbered inc n (signals_at new.count (drop size bytes))) next
    ∙ ap (λ (n : ℕ). Data inc number signal ∷ numbered n (new.last + 1 - new.count) (signals_at new.count (drop size bytes))) (sym incarnation)
