-- The first frame of a whole body, and what is begun behind it.
use Rattle.std.proofs.Common.{◌≡◌, ℕ, ◌+◌, ◌-◌, ◌≤◌, List, [], ◌∷◌, ◌++◌, length, get_or, drop, refl, sym, ap, subst, ◌∙◌, arith}
use Rattle.std.specs.List.{flat_map}
use Rattle.std.proofs.lemmas.List.{append-nil, drop-drop, length-drop}
use Rattle.signal.specs.declared.signal.Signal.{Signal}
use Rattle.signal.specs.declared.frame.Frame.{Frame}
use Rattle.signal.specs.declared.batch.Begun.{Begun}
use Rattle.signal.specs.Signal.{signal_bytes}
use Rattle.signal.specs.Batch.{numbered, IsBatch}
use Rattle.signal.specs.Frame.{IsBody, Carries, one, several}
use Rattle.signal.specs.Begun.{signals_at, frames_at, HasSignals, IsBegun, IsFirst}
use Rattle.signal.specs.Stream.{version_after}
use Rattle.signal.proofs.Signals.{signals_again}

-- ---- a Batch

-- its signals fill what stands behind the count
signals_are : (body : List ℕ) (begun : Begun) → (h : IsBegun body begun) → drop 14 body ≡ flat_map signal_bytes h.signals
signals_are body begun h = ap (drop 14) h.is_body

-- its frames are all still to be given
all_begun : (body : List ℕ) (begun : Begun) → IsBegun body begun → IsBatch body (frames_at begun (drop 14 body))
all_begun body begun h =
    let all = flat_map signal_bytes h.signals in
    let again : signals_at begun.count (drop 14 body) ≡ h.signals =
    ap (signals_at begun.count) (signals_are body begun h ∙ sym (append-nil all)) ∙ ap (λ (n : ℕ). signals_at n (all ++ [])) (sym h.count_is) ∙ signals_again h.signals [] h.each in
    let first : begun.last + 1 - begun.count ≡ h.first = omega (arith, h.last_is) in
    record {
      incarnation = begun.incarnation;
      first = h.first;
      signals = h.signals;
      several = omega (arith, h.several, h.count_is);
      few = omega (arith, h.few, h.count_is);
      incarnation_fits = h.incarnation_fits;
      numbers_fit = omega (arith, h.last_is, h.last_fits, h.count_is);
      are_signals = h.each;
      carries = ap (λ (s : List Signal). numbered begun.incarnation (begun.last + 1 - begun.count) s) again ∙ ap (λ (n : ℕ). numbered begun.incarnation n h.signals) first;
      is_body = h.is_body;
    }

pub first_of_batch : (before : ℕ) (body seen : List ℕ) (begun new : Begun) (frame : Frame) (size : ℕ) → IsBegun body begun → seen ≡ drop 14 body → 14 ≤ length body → get_or body 0 0 ≡ 5
    → frames_at begun seen ≡ frame ∷ frames_at new (drop size seen) → HasSignals new (drop size seen) → size ≤ begun.size → new.size ≡ begun.size - size
    → IsFirst before body (record { frame = frame; size = 14 + size; begun = new; version = before })
first_of_batch before body seen begun new frame size h e long kind frames left fits size-is =
    let there : drop size seen ≡ drop (14 + size) body = ap (drop size) e ∙ drop-drop size 14 body in
    let all : frames_at begun (drop 14 body) ≡ frame ∷ frames_at new (drop (14 + size) body) =
    ap (frames_at begun) (sym e) ∙ frames ∙ ap (λ (b : List ℕ). frame ∷ frames_at new b) there in
    let many : length (drop 14 body) ≡ begun.size = ap length (signals_are body begun h) ∙ h.size_is in
    let same : before ≡ version_after before body = rw kind refl in
    record {
      within = omega (arith, many, length-drop 14 body);
      carries = several (frame ∷ frames_at new (drop (14 + size) body)) (subst (IsBatch body) all (all_begun body begun h));
      begun = subst (HasSignals new) there left;
      ends = omega (arith, length-drop (14 + size) body, many, length-drop 14 body, size-is);
      version_is = same;
    }

-- ---- a frame by itself

pub first_of_frame : (before version : ℕ) (body : List ℕ) (frame : Frame) (none : Begun) → IsBody body frame → none.count ≡ 0 → none.size ≡ 0 → version ≡ version_after before body
    → IsFirst before body (record { frame = frame; size = length body; begun = none; version = version })
first_of_frame before version body frame none h count size version-is =
    let nothing : frames_at none (drop (length body) body) ≡ [] =
    ap (λ (n : ℕ). numbered none.incarnation (none.last + 1 - none.count) (signals_at n (drop (length body) body))) count in
    record {
      within = omega arith;
      carries = subst (λ (fs : List Frame). Carries body (frame ∷ fs)) (sym nothing) (one frame h);
      begun = record {
        signals = [];
        count_is = sym count;
        each = tt;
        begins = sym (ap (λ (n : ℕ). drop n (drop (length body) body)) size);
        size_is = sym size;
        has_numbers = omega arith;
      };
      ends = omega (arith, length-drop (length body) body);
      version_is = version-is;
    }
