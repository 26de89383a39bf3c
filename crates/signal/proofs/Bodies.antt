-- What a body carries is told by what stands at its places, and nothing is wrong with a body that carries frames.
use Rattle.std.proofs.Common.{◌≡◌, ℕ, ◌<◌, ◌≤◌, true, false, eqb, ltb, List, [], ◌∷◌, ◌++◌, length, drop, None, refl, sym, ap, subst, arith}
use Rattle.std.specs.Prelude.{if◌then◌else◌, ◌==◌, slice_index}
use Rattle.std.proofs.lemmas.Bool.{le-ltb}
use Rattle.std.proofs.lemmas.Bool.Decides.{nat_tests}
use Rattle.byteorder.specs.Endian.{big_bytes}
use Rattle.byteorder.specs.Numbers.{big_number-reads_back}
use Rattle.signal.specs.declared.signal.Signal.{Signal}
use Rattle.signal.specs.declared.frame.Frame.{Frame}
use Rattle.signal.specs.declared.frame.Hello as declared
use Rattle.signal.specs.declared.frame.Frame.TheVariants.{Hello, Data, Ack, Refuse}
use Rattle.signal.specs.Signal.{signal_bytes}
use Rattle.signal.specs.Frame.{body_of, IsFrame, Carries, one, several}
use Rattle.signal.specs.Fault.{number_at, is_length, body_fault}
use Rattle.signal.specs.Begun.{signal_at}
use Rattle.signal.proofs.Signals.{alone, size_cases, signal_faultless}
use Rattle.signal.proofs.Batches.{frames_in, batch_tells}

-- the frame whose fields stand at these places
abbrev frame_in : List ℕ → Frame
frame_in body =
    let kind = slice_index body 0 in
    if kind == 1 then Hello (record { federate = number_at 2 2 body; incarnation = number_at 4 4 body; last_taken = number_at 8 8 body })
    else if kind == 2 then Data (number_at 1 4 body) (number_at 5 8 body) (signal_at (drop 13 body))
    else if kind == 3 then Ack (number_at 1 4 body) (number_at 5 8 body)
    else Refuse (number_at 1 4 body) (number_at 5 2 body)

-- the frames that a body carries
abbrev pub frames_of : List ℕ → List Frame
frames_of body = if slice_index body 0 == 5 then frames_in body else frame_in body ∷ []

-- a body tells these frames by its places, and nothing is wrong with it
pub record Tells (body : List ℕ) (frames : List Frame) : Type 0 where
  pub frames_are : frames_of body ≡ frames
  pub faultless : body_fault body ≡ None
  pub length_fits : is_length (length body) ≡ true

pub long_enough : (n : ℕ) → 0 < n → n ≤ 1486 → is_length n ≡ true
long_enough n low high = grind (arith, nat_tests)

hello_tells : (version : ℕ) (hello : declared.Hello) → 0 < version → IsFrame (Hello hello) → Tells (body_of version (Hello hello)) (Hello hello ∷ [])
hello_tells version hello from_one h =
    let a = big_number-reads_back 2 hello.federate (big_bytes 4 hello.incarnation ++ big_bytes 8 hello.last_taken) h.0 in
    let b = big_number-reads_back 4 hello.incarnation (big_bytes 8 hello.last_taken) h.1 in
    let d = big_number-reads_back 8 hello.last_taken [] h.2 in
    let some : eqb version 0 ≡ false = grind (arith, nat_tests) in
    record { frames_are = rw (a, b, d) refl; faultless = rw some refl; length_fits = refl }

data_tells : (version incarnation number : ℕ) (signal : Signal) → IsFrame (Data incarnation number signal) → Tells (body_of version (Data incarnation number signal)) (Data incarnation number signal ∷ [])
data_tells version incarnation number signal h =
    let a = big_number-reads_back 4 incarnation (big_bytes 8 number ++ signal_bytes signal) h.0 in
    let b = big_number-reads_back 8 number (signal_bytes signal) h.1 in
    let front = alone signal h.2 in
    let sizes = size_cases (slice_index (signal_bytes signal) 0) in
    let long : ltb (length (body_of version (Data incarnation number signal))) 14 ≡ false = le-ltb _ _ (omega (arith, front.size_is)) in
    record {
      frames_are = rw (a, b, front.signal_is) refl;
      faultless = rw long (signal_faultless signal h.2);
      length_fits = long_enough (length (body_of version (Data incarnation number signal))) (omega arith) (omega (arith, front.size_is, sizes.1));
    }

ack_tells : (version incarnation last_taken : ℕ) → IsFrame (Ack incarnation last_taken) → Tells (body_of version (Ack incarnation last_taken)) (Ack incarnation last_taken ∷ [])
ack_tells version incarnation last_taken h =
    let a = big_number-reads_back 4 incarnation (big_bytes 8 last_taken) h.0 in
    let b = big_number-reads_back 8 last_taken [] h.1 in
    record { frames_are = rw (a, b) refl; faultless = refl; length_fits = refl }

refuse_tells : (version incarnation refusal : ℕ) → IsFrame (Refuse incarnation refusal) → Tells (body_of version (Refuse incarnation refusal)) (Refuse incarnation refusal ∷ [])
refuse_tells version incarnation refusal h =
    let a = big_number-reads_back 4 incarnation (big_bytes 2 refusal) h.0 in
    let b = big_number-reads_back 2 refusal [] h.1 in
    record { frames_are = rw (a, b) refl; faultless = refl; length_fits = refl }

-- a body that spells a frame tells it
frame_tells : (version : ℕ) (frame : Frame) → 0 < version → IsFrame frame → Tells (body_of version frame) (frame ∷ [])
frame_tells version (Hello hello) from_one h = hello_tells version hello from_one h
frame_tells version (Data incarnation number signal) from_one h = data_tells version incarnation number signal h
frame_tells version (Ack incarnation last_taken) from_one h = ack_tells version incarnation last_taken h
frame_tells version (Refuse incarnation refusal) from_one h = refuse_tells version incarnation refusal h

-- a body tells the frames that it carries
pub body_tells : (body : List ℕ) (frames : List Frame) → Carries body frames → Tells body frames
body_tells body frames (one frame h) = subst (λ (b : List ℕ). Tells b (frame ∷ [])) (sym h.is_body) (frame_tells h.version frame h.from_one h.is_frame)
body_tells body frames (several others h) =
    let told = batch_tells body others h in
    let kind : slice_index body 0 ≡ 5 = ap (λ (b : List ℕ). slice_index b 0) h.is_body in
    record { frames_are = rw kind told.frames_are; faultless = told.faultless; length_fits = told.length_fits }
