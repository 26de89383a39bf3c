-- What stands at the front of a list of bytes: at most one spelling, and no fault where there is one.
use Rattle.std.proofs.Common.{◌≡◌, ℕ, ◌+◌, ◌-◌, ◌<◌, ◌≤◌, true, false, ltb, List, ◌∷◌, ◌++◌, length, take, drop, Some, None, refl, sym, ap, subst, ◌∙◌, arith, append_assoc}
use Rattle.std.specs.List.{flat_map}
use Rattle.std.proofs.lemmas.Bool.{le-ltb}
use Rattle.std.proofs.lemmas.Bool.Decides.{nat_tests}
use Rattle.std.proofs.lemmas.List.{take_at, drop_at, drop-drop, drop-append-le, length-append, length-drop, length-take-le, take-append-drop}
use Rattle.byteorder.specs.Endian.{big_bytes, big_number}
use Rattle.byteorder.specs.Numbers.{big_number-reads_back}
use Rattle.signal.specs.declared.signal.Signal.{Signal}
use Rattle.signal.specs.declared.frame.Frame.{Frame}
use Rattle.signal.specs.declared.fault.FrameFault.{FrameFault}
use Rattle.signal.specs.declared.batch.Begun.{Begun}
use Rattle.signal.specs.declared.front.Front as declared
use Rattle.signal.specs.Signal.{signal_bytes}
use Rattle.signal.specs.Batch.{numbered}
use Rattle.signal.specs.Frame.{framed, Carries, Spells}
use Rattle.signal.specs.Fault.{is_length, is_partial, body_fault, fault_at}
use Rattle.signal.specs.Begun.{signals_at, frames_at, HasSignals, IsFirst, IsFront}
use Rattle.signal.proofs.Signals.{signals_again}
use Rattle.signal.proofs.Bodies.{frames_of, Tells, body_tells}

-- the body at the front, if all of it is there
abbrev body_at : List ℕ → List ℕ
body_at bytes = take (big_number 4 bytes) (drop 4 bytes)

-- what stands behind it
abbrev behind : List ℕ → List ℕ
behind bytes = drop (big_number 4 bytes) (drop 4 bytes)

-- a body behind its length, whatever follows
record Front (bytes body rest : List ℕ) : Type 0 where
  body_is : body_at bytes ≡ body
  rest_is : behind bytes ≡ rest
  whole : is_partial bytes ≡ false
  fault_is : fault_at bytes ≡ body_fault body

framed_front : (body rest : List ℕ) → is_length (length body) ≡ true → Front (framed body ++ rest) body rest
framed_front body rest fits =
    let below : length body < 1487 = grind (arith, nat_tests) in
    let number : big_number 4 (framed body ++ rest) ≡ length body = big_number-reads_back 4 (length body) (body ++ rest) (omega (arith, below)) in
    let front : take (length body) (body ++ rest) ≡ body = take_at body rest (length body) refl in
    let back : drop (length body) (body ++ rest) ≡ rest = drop_at body rest (length body) refl in
    let long : ltb (length (framed body ++ rest)) (4 + length body) ≡ false = le-ltb _ _ (omega (arith, length-append body rest)) in
    let four : ltb (length (framed body ++ rest)) 4 ≡ false = le-ltb _ _ (omega arith) in
    let whole : is_partial (framed body ++ rest) ≡ false = rw (number, fits, long, four) refl in
    record {
      body_is = rw number front;
      rest_is = rw number back;
      whole = whole;
      fault_is = rw (whole, number, fits, front) (refl {a = body_fault body});
    }

-- a spelling stands at the front
pub record Begins (bytes body : List ℕ) (frames : List Frame) (rest : List ℕ) : Type 0 where
  pub body_is : body_at bytes ≡ body
  pub frames_are : frames_of (body_at bytes) ≡ frames
  pub rest_is : behind bytes ≡ rest
  pub whole : is_partial bytes ≡ false
  pub faultless : fault_at bytes ≡ None

begins_framed : (body rest : List ℕ) (frames : List Frame) → Carries body frames → Begins (framed body ++ rest) body frames rest
begins_framed body rest frames h =
    let tells : Tells body frames = body_tells body frames h in
    let front = framed_front body rest tells.length_fits in
    record {
      body_is = front.body_is;
      frames_are = ap frames_of front.body_is ∙ tells.frames_are;
      rest_is = front.rest_is;
      whole = front.whole;
      faultless = front.fault_is ∙ tells.faultless;
    }

pub begins : (bytes rest : List ℕ) (frames : List Frame) → (h : Spells bytes frames) → Begins (bytes ++ rest) h.body frames rest
begins bytes rest frames h = subst (λ (b : List ℕ). Begins (b ++ rest) h.body frames rest) (sym h.is_framed) (begins_framed h.body rest frames h.carries)

-- two readings of one list are one
pub record SameReading (frames others : List Frame) (x y body other : List ℕ) : Type 0 where
  pub frames_are : frames ≡ others
  pub rest_is : x ≡ y
  pub body_is : body ≡ other

pub same_reading : (a b x y : List ℕ) (frames others : List Frame) → (p : Spells a frames) → (q : Spells b others) → a ++ x ≡ b ++ y → SameReading frames others x y p.body q.body
same_reading a b x y frames others p q e =
    let s = begins a x frames p in
    let t = begins b y others q in
    record {
      frames_are = sym s.frames_are ∙ ap (λ (l : List ℕ). frames_of (body_at l)) e ∙ t.frames_are;
      rest_is = sym s.rest_is ∙ ap behind e ∙ t.rest_is;
      body_is = sym s.body_is ∙ ap body_at e ∙ t.body_is;
    }

-- what is wrong with a body that is there is wrong with the bytes
pub body_fault_counts : (bytes : List ℕ) (size : ℕ) (rest body : List ℕ) (fault : FrameFault) → 4 ≤ length bytes → size ≡ big_number 4 bytes → rest ≡ drop 4 bytes → body ≡ take size rest
    → 0 < size → size ≤ 1486 → size ≤ length rest → body_fault body ≡ Some fault → fault_at bytes ≡ Some fault
body_fault_counts bytes size rest body fault four size-is rest-is body-is low high there h =
    let long : ltb (length bytes) 4 ≡ false = le-ltb _ _ four in
    let fits : is_length size ≡ true = grind (arith, nat_tests) in
    let whole : ltb (length bytes) (4 + size) ≡ false = le-ltb _ _ (omega (arith, length-drop 4 bytes, ap length rest-is)) in
    let same : take size (drop 4 bytes) ≡ body = ap (take size) (sym rest-is) ∙ sym body-is in
    rw (long, ← size-is, fits, whole, same) h

pub partial_faultless : (bytes : List ℕ) → is_partial bytes ≡ true → fault_at bytes ≡ None
partial_faultless bytes h = rw h refl

-- ---- a begun Batch stays as it is, whatever comes behind it

pub frames_stay : (begun : Begun) (bytes more : List ℕ) → HasSignals begun bytes → frames_at begun (bytes ++ more) ≡ frames_at begun bytes
frames_stay begun bytes more h =
    let all = flat_map signal_bytes h.signals in
    let rest = drop begun.size bytes in
    let at : (b : List ℕ) → signals_at begun.count (all ++ b) ≡ h.signals =
    λ (b : List ℕ). ap (λ (n : ℕ). signals_at n (all ++ b)) (sym h.count_is) ∙ signals_again h.signals b h.each in
    let here : signals_at begun.count bytes ≡ h.signals = ap (signals_at begun.count) h.begins ∙ at rest in
    let later : signals_at begun.count (bytes ++ more) ≡ h.signals =
    ap (λ (b : List ℕ). signals_at begun.count (b ++ more)) h.begins ∙ ap (signals_at begun.count) (append_assoc all rest more) ∙ at (rest ++ more) in
    ap (λ (s : List Signal). numbered begun.incarnation (begun.last + 1 - begun.count) s) (later ∙ sym here)

pub within : (begun : Begun) (bytes : List ℕ) → HasSignals begun bytes → begun.size ≤ length bytes
within begun bytes h =
    omega (arith, ap length h.begins, length-append (flat_map signal_bytes h.signals) (drop begun.size bytes), h.size_is)

pub signals_stay : (begun : Begun) (bytes more : List ℕ) → HasSignals begun bytes → HasSignals begun (bytes ++ more)
signals_stay begun bytes more h =
    let all = flat_map signal_bytes h.signals in
    let rest = drop begun.size bytes in
    let later : drop begun.size (bytes ++ more) ≡ rest ++ more = drop-append-le begun.size bytes more (within begun bytes h) in
    record {
      signals = h.signals;
      count_is = h.count_is;
      each = h.each;
      begins = ap (λ (b : List ℕ). b ++ more) h.begins ∙ append_assoc all rest more ∙ ap (λ (b : List ℕ). all ++ b) (sym later);
      size_is = h.size_is;
      has_numbers = h.has_numbers;
    }

-- ---- what a whole body begins with, behind its length

pub front_is : (before : ℕ) (bytes rest body : List ℕ) (size : ℕ) (first : declared.Front) → bytes ≡ big_bytes 4 size ++ rest → body ≡ take size rest → size ≤ length rest → IsFirst before body first
    → IsFront before bytes (record first { size = 4 + first.size })
front_is before bytes rest body size first parts front there h =
    let after = drop size rest in
    let inside = drop first.size body in
    let long : length bytes ≡ 4 + length rest = ap length parts ∙ length-append (big_bytes 4 size) rest in
    let same : length body ≡ size = ap length front ∙ length-take-le size rest there in
    let halves : rest ≡ body ++ after = sym (take-append-drop size rest) ∙ ap (λ (r : List ℕ). r ++ after) (sym front) in
    let whole : bytes ≡ framed body ++ after = parts ∙ ap (λ (r : List ℕ). big_bytes 4 size ++ r) halves ∙ ap (λ (n : ℕ). big_bytes 4 n ++ (body ++ after)) (sym same) in
    let left : drop (4 + first.size) bytes ≡ inside ++ after =
    sym (drop-drop first.size 4 bytes) ∙ ap (λ (b : List ℕ). drop first.size (drop 4 b)) whole ∙ drop-append-le first.size body after h.within in
    let end : drop first.begun.size (drop (4 + first.size) bytes) ≡ after = ap (drop first.begun.size) left ∙ drop_at inside after first.begun.size h.ends in
    let frames : frames_at first.begun (drop (4 + first.size) bytes) ≡ frames_at first.begun inside = ap (frames_at first.begun) left ∙ frames_stay first.begun inside after h.begun in
    record {
      within = omega (arith, h.within);
      spelled = framed body;
      spelling = record { body = body; carries = subst (λ (fs : List Frame). Carries body (first.frame ∷ fs)) (sym frames) h.carries; is_framed = refl };
      begins = whole ∙ ap (λ (r : List ℕ). framed body ++ r) (sym end);
      begun = subst (HasSignals first.begun) (sym left) (signals_stay first.begun inside after h.begun);
      version_is = h.version_is;
    }
