-- What a reader's fields make of its stream, call by call.
use Rattle.std.proofs.Common.{◌≡◌, ℕ, true, false, ◌+◌, ◌-◌, ◌≤◌, List, [], ◌∷◌, ◌++◌, length, drop, Option, Some, None, vec_len, refl, sym, ap, subst, ◌∙◌, arith}
use Rattle.std.specs.Prelude.{is_some}
use Rattle.std.specs.List.{flat_map}
use Rattle.std.proofs.lemmas.Bool.{false≢true}
use Rattle.std.proofs.lemmas.List.{take_rest, drop-drop, drop-append-le, nil_from_length, length-drop}
use Rattle.signal.specs.declared.signal.Signal.{Signal}
use Rattle.signal.specs.declared.frame.Frame.{Frame}
use Rattle.signal.specs.declared.fault.FrameFault.{FrameFault}
use Rattle.signal.specs.declared.batch.Begun.{Begun}
use Rattle.signal.specs.declared.front.Front.{Front}
use Rattle.signal.specs.declared.reader.FrameReader.TheInside.{Inside}
use Rattle.signal.specs.Signal.{signal_bytes}
use Rattle.signal.specs.Batch.{numbered}
use Rattle.signal.specs.Frame.{Carries, Spells}
use Rattle.signal.specs.Fault.{is_partial, fault_at}
use Rattle.signal.specs.Begun.{signals_at, frames_at, HasSignals, IsFront}
use Rattle.signal.specs.Stream.{Stream, IsStream, fed, Comes, goes_on, begins, GivesFrame, GivesNothing, GivesFault}
use Rattle.signal.specs.Inside.{unread, stream_of, IsReader}
use Rattle.signal.proofs.Parts.{from}
use Rattle.signal.proofs.Framing.{within, frames_stay}
use Rattle.signal.proofs.Streams.{sound_fault}

-- a sound stream's fault, which doesn't stand, says nothing
sound_stream : (s : Stream) → s.fault ≡ None → IsStream s
sound_stream s e = rw e tt

-- a reader's next position, behind `size` bytes, and what is begun there
abbrev moved : Inside → ℕ → Begun → ℕ → Inside
moved r size begun version = record r { position = r.position + size; begun = begun; version = version }

moved_unread : (r : Inside) (size : ℕ) (begun : Begun) (version : ℕ) → unread (moved r size begun version) ≡ drop size (unread r)
moved_unread r size begun version = sym (drop-drop size r.position r.buffer.items)

-- the bytes that are there
unread_length : (r : Inside) → length (unread r) ≡ vec_len r.buffer - r.position
unread_length r = omega (arith, length-drop r.position r.buffer.items, r.buffer.ok.0)

-- what code reads of the buffer from the position on
pub seen_is : (r : Inside) (all : List ℕ) → all ≡ r.buffer.items → from r.position all ≡ unread r
seen_is r all e = take_rest all r.position ∙ ap (drop r.position) e

-- ---- the next frame of a begun Batch

pub goes_on_reader : (r : Inside) (seen : List ℕ) (size : ℕ) (begun : Begun) → IsReader r → seen ≡ unread r → r.fault ≡ None → size ≤ r.begun.size → HasSignals begun (drop size seen) → IsReader (moved r size begun r.version)
goes_on_reader r seen size begun h e sound fits left = record {
  within = omega (arith, h.within, within r.begun (unread r) h.has_signals, unread_length r);
  has_signals = subst (HasSignals begun) (ap (drop size) e ∙ sym (moved_unread r size begun r.version)) left;
  is_stream = sound_stream (stream_of (moved r size begun r.version)) sound;
}

pub goes_on_gives : (r : Inside) (seen : List ℕ) (size : ℕ) (begun : Begun) (frame : Frame) → seen ≡ unread r → r.fault ≡ None → size ≤ r.begun.size → begun.size ≡ r.begun.size - size
    → frames_at r.begun seen ≡ frame ∷ frames_at begun (drop size seen) → GivesFrame (stream_of r) frame (stream_of (moved r size begun r.version))
goes_on_gives r seen size begun frame e sound fits size-is frames =
    let there : unread (moved r size begun r.version) ≡ drop size seen = moved_unread r size begun r.version ∙ ap (drop size) (sym e) in
    let sum : size + begun.size ≡ r.begun.size = omega (arith, size-is) in
    record {
      sound = sound;
      comes = goes_on
          (ap (frames_at r.begun) (sym e) ∙ frames ∙ ap (λ (b : List ℕ). frame ∷ frames_at begun b) (sym there))
          (ap (drop begun.size) (moved_unread r size begun r.version) ∙ drop-drop begun.size size (unread r) ∙ ap (λ (n : ℕ). drop n (unread r)) sum)
          refl;
      still_sound = sound;
    }

-- ---- where none is begun

-- no signals take no bytes
nothing_begun : (begun : Begun) (bytes : List ℕ) → begun.count ≡ 0 → HasSignals begun bytes → begun.size ≡ 0
nothing_begun begun bytes none h =
    let empty : h.signals ≡ [] = nil_from_length h.signals (omega (arith, h.count_is)) in
    sym h.size_is ∙ ap (λ (s : List Signal). length (flat_map signal_bytes s)) empty

no_frames : (begun : Begun) (bytes : List ℕ) → begun.count ≡ 0 → frames_at begun bytes ≡ []
no_frames begun bytes none = ap (λ (n : ℕ). numbered begun.incarnation (begun.last + 1 - begun.count) (signals_at n bytes)) none

rest_is : (r : Inside) → r.begun.count ≡ 0 → IsReader r → drop r.begun.size (unread r) ≡ unread r
rest_is r none h = ap (λ (n : ℕ). drop n (unread r)) (nothing_begun r.begun (unread r) none h.has_signals)

pub begins_reader : (r : Inside) (seen : List ℕ) (front : Front) → IsReader r → seen ≡ unread r → r.fault ≡ None → IsFront r.version seen front → IsReader (moved r front.size front.begun front.version)
begins_reader r seen front h e sound f =
    let long : length seen ≡ vec_len r.buffer - r.position = ap length e ∙ unread_length r in
    record {
      within = omega (arith, h.within, f.within);
      has_signals = subst (HasSignals front.begun) (ap (drop front.size) e ∙ sym (moved_unread r front.size front.begun front.version)) f.begun;
      is_stream = sound_stream (stream_of (moved r front.size front.begun front.version)) sound;
    }

-- what comes from the front, where what is unread behind it is `left`
from_front : (r : Inside) (seen left : List ℕ) (front : Front) → seen ≡ unread r → r.begun.count ≡ 0 → IsReader r → IsFront r.version seen front → drop front.size seen ≡ left
    → Comes (stream_of r) front.frame (record { fault = r.fault; begun = frames_at front.begun left; rest = drop front.begun.size left; version = front.version })
from_front r seen left front e none h f there =
    let spelling : Spells f.spelled (front.frame ∷ frames_at front.begun left) = record {
      body = f.spelling.body;
      carries = subst (λ (b : List ℕ). Carries f.spelling.body (front.frame ∷ frames_at front.begun b)) there f.spelling.carries;
      is_framed = f.spelling.is_framed;
    } in
    begins f.spelled spelling (no_frames r.begun (unread r) none)
    (rest_is r none h ∙ sym e ∙ f.begins ∙ ap (λ (b : List ℕ). f.spelled ++ drop front.begun.size b) there) f.version_is

pub begins_gives : (r : Inside) (seen : List ℕ) (front : Front) → IsReader r → seen ≡ unread r → r.fault ≡ None → r.begun.count ≡ 0 → IsFront r.version seen front
    → GivesFrame (stream_of r) front.frame (stream_of (moved r front.size front.begun front.version))
begins_gives r seen front h e sound none f =
    let there : drop front.size seen ≡ unread (moved r front.size front.begun front.version) = ap (drop front.size) e ∙ sym (moved_unread r front.size front.begun front.version) in
    record { sound = sound; comes = from_front r seen (unread (moved r front.size front.begun front.version)) front e none h f there; still_sound = sound }

pub nothing_gives : (r : Inside) (seen : List ℕ) → IsReader r → seen ≡ unread r → r.fault ≡ None → r.begun.count ≡ 0 → is_partial seen ≡ true → GivesNothing (stream_of r) (stream_of r)
nothing_gives r seen h e sound none partial = record {
  sound = sound;
  none_begun = no_frames r.begun (unread r) none;
  partial = ap is_partial (rest_is r none h ∙ sym e) ∙ partial;
  same = refl;
}

-- the fault at the front, which stands from now on
at_front : (r : Inside) (seen : List ℕ) (fault : FrameFault) → IsReader r → seen ≡ unread r → r.begun.count ≡ 0 → fault_at seen ≡ Some fault → fault_at (drop r.begun.size (unread r)) ≡ Some fault
at_front r seen fault h e none f = ap fault_at (rest_is r none h ∙ sym e) ∙ f

pub fault_gives : (r : Inside) (seen : List ℕ) (fault : FrameFault) → IsReader r → seen ≡ unread r → r.fault ≡ None → r.begun.count ≡ 0 → fault_at seen ≡ Some fault
    → GivesFault (stream_of r) fault (stream_of (record r { fault = Some fault }))
fault_gives r seen fault h e sound none f = record {
  none_begun = no_frames r.begun (unread r) none;
  found = sound_fault (stream_of r) sound ∙ at_front r seen fault h e none f;
  stands = refl;
}

pub fault_reader : (r : Inside) (seen : List ℕ) (fault : FrameFault) → IsReader r → seen ≡ unread r → r.begun.count ≡ 0 → fault_at seen ≡ Some fault → IsReader (record r { fault = Some fault })
fault_reader r seen fault h e none f = record {
  within = h.within;
  has_signals = h.has_signals;
  is_stream = (no_frames r.begun (unread r) none, at_front r seen fault h e none f);
}

-- ---- more bytes, and fewer

-- the stream, by what is unread
abbrev stream_at : Option FrameFault → Begun → ℕ → List ℕ → Stream
stream_at fault begun version bytes = record { fault = fault; begun = frames_at begun bytes; rest = drop begun.size bytes; version = version }

pub none_stands : (fault : Option FrameFault) → is_some fault ≡ false → fault ≡ None
none_stands None e = refl
none_stands (Some fault) e = absurd (false≢true (sym e))

-- more bytes behind those that are unread
pub fed_stream : (r : Inside) (bytes : List ℕ) (items : List ℕ) → IsReader r → r.fault ≡ None → items ≡ r.buffer.items ++ bytes
    → stream_at r.fault r.begun r.version (drop r.position items) ≡ fed (stream_of r) bytes
fed_stream r bytes items h sound e =
    let longer : drop r.position items ≡ unread r ++ bytes = ap (drop r.position) e ∙ drop-append-le r.position r.buffer.items bytes (omega (arith, h.within, r.buffer.ok.0)) in
    let frames : frames_at r.begun (drop r.position items) ≡ frames_at r.begun (unread r) = ap (frames_at r.begun) longer ∙ frames_stay r.begun (unread r) bytes h.has_signals in
    let rest : drop r.begun.size (drop r.position items) ≡ drop r.begun.size (unread r) ++ bytes =
    ap (drop r.begun.size) longer ∙ drop-append-le r.begun.size (unread r) bytes (within r.begun (unread r) h.has_signals) in
    let make : List Frame → List ℕ → Stream = λ b x. record { fault = r.fault; begun = b; rest = x; version = r.version } in
    ap (λ (b : List Frame). make b (drop r.begun.size (drop r.position items))) frames ∙ ap (make (frames_at r.begun (unread r))) rest ∙ rw sound refl
