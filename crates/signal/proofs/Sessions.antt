-- Whole runs of a reader: the bytes fed are the frames given, those that are still to be given, and then the rest.
use Rattle.std.proofs.Common.{◌≡◌, ℕ, List, [], ◌∷◌, ◌++◌, Option, Some, None, Ok, Err, refl, sym, ap, subst, ◌∙◌, append_assoc}
use Rattle.std.proofs.lemmas.List.{append-nil}
use Rattle.signal.specs.declared.frame.Frame.{Frame}
use Rattle.signal.specs.declared.fault.FrameFault.{FrameFault}
use Rattle.signal.specs.Fault.{fault_at}
use Rattle.signal.specs.Stream.{Stream, start, fed, fault_of, Comes, goes_on, begins, GivesFault, Splits, done, more, Call, feed, answer, Session, bytes_fed, frames_given, TellsStream}
use Rattle.signal.proofs.Streams.{splits_along, sound_fault}

abbrev fault_in : Stream → Option FrameFault
fault_in s = s.fault

abbrev rest_in : Stream → List ℕ
rest_in s = s.rest

-- what a fault that stands leaves of a run
record Stays (calls : List Call) (s t : Stream) : Type 0 where
  same : t ≡ s
  no_frames : frames_given calls ≡ []

same_fault : (s between : Stream) (other : FrameFault) (fault : FrameFault) → s.fault ≡ Some fault → GivesFault s other between → between ≡ s
same_fault s between other fault e h =
    let found : Some fault ≡ Some other = let told : fault_of s ≡ Some fault = rw e refl in sym told ∙ h.found in
    let make : Option FrameFault → Stream = λ o. record s { fault = o } in
    h.stands ∙ ap make (sym found ∙ sym e)

stays : (calls : List Call) (s t : Stream) (fault : FrameFault) → s.fault ≡ Some fault → Session s calls t → Stays calls s t
stays [] s t fault e h = record { same = sym h; no_frames = refl }
stays (feed bytes ∷ calls) s t fault e h =
    let unfed : fed s bytes ≡ s = rw e refl in
    let after = stays calls s t fault e (subst (λ (x : Stream). Session x calls t) unfed h) in
    record { same = after.same; no_frames = after.no_frames }
stays (answer (Ok (Some frame)) ∷ calls) s t fault e h = absurd (let clash : Some fault ≡ None = sym e ∙ h.1.sound in cc)
stays (answer (Ok None) ∷ calls) s t fault e h = absurd (let clash : Some fault ≡ None = sym e ∙ h.1.sound in cc)
stays (answer (Err other) ∷ calls) s t fault e h =
    let kept : h.0 ≡ s = same_fault s h.0 other fault e h.1 in
    let after = stays calls s t fault e (subst (λ (x : Stream). Session x calls t) kept h.2) in
    record { same = after.same; no_frames = after.no_frames }

-- a run from a stream in which no fault stands: `read` are the frames of the spellings that it has read since, so those that
-- were begun before and these are those that were given and those that are still to be given
record Run (bytes : List ℕ) (begun given : List Frame) (t : Stream) : Type 0 where
  read : List Frame
  later : List ℕ
  in_order : begun ++ read ≡ given ++ t.begun
  splits : Splits bytes read (t.rest ++ later)
  nothing_later : t.fault ≡ None → later ≡ []
  in_its_place : (fault : FrameFault) → t.fault ≡ Some fault → fault_at t.rest ≡ Some fault

-- a frame that was given stands before the others
comes : (s u t : Stream) (frame : Frame) (given : List Frame) (bytes : List ℕ) → Comes s frame u → Run (u.rest ++ bytes) u.begun given t → Run (s.rest ++ bytes) s.begun (frame ∷ given) t
comes s u t frame given bytes (goes_on b r v) run = record {
  read = run.read;
  later = run.later;
  in_order = ap (λ (x : List Frame). x ++ run.read) b ∙ ap (λ (x : List Frame). frame ∷ x) run.in_order;
  splits = splits_along (u.rest ++ bytes) (s.rest ++ bytes) run.read (t.rest ++ run.later) (ap (λ (x : List ℕ). x ++ bytes) r) run.splits;
  nothing_later = run.nothing_later;
  in_its_place = run.in_its_place;
}
comes s u t frame given bytes (begins front spelling b r v) run = record {
  read = (frame ∷ u.begun) ++ run.read;
  later = run.later;
  in_order = ap (λ (x : List Frame). x ++ ((frame ∷ u.begun) ++ run.read)) b ∙ ap (λ (x : List Frame). frame ∷ x) run.in_order;
  splits = more front (u.rest ++ bytes) (frame ∷ u.begun) run.read spelling (ap (λ (x : List ℕ). x ++ bytes) r ∙ append_assoc front u.rest bytes) refl run.splits;
  nothing_later = run.nothing_later;
  in_its_place = run.in_its_place;
}

runs : (calls : List Call) (s t : Stream) → s.fault ≡ None → Session s calls t → Run (s.rest ++ bytes_fed calls) s.begun (frames_given calls) t
runs [] s t sound h = record {
  read = [];
  later = [];
  in_order = append-nil s.begun ∙ ap (λ (x : Stream). x.begun) h;
  splits = done (ap (λ (x : Stream). x.rest ++ []) h) refl;
  nothing_later = λ _. refl;
  in_its_place = λ fault e. absurd (let clash : None ≡ Some fault = sym sound ∙ ap fault_in h ∙ e in cc);
}
runs (feed bytes ∷ calls) s t sound h =
    let taken : fed s bytes ≡ record s { rest = s.rest ++ bytes } = rw sound refl in
    let after = runs calls (record s { rest = s.rest ++ bytes }) t sound (subst (λ (x : Stream). Session x calls t) taken h) in
    record {
      read = after.read;
      later = after.later;
      in_order = after.in_order;
      splits = splits_along ((s.rest ++ bytes) ++ bytes_fed calls) (s.rest ++ (bytes ++ bytes_fed calls)) after.read (t.rest ++ after.later) (append_assoc s.rest bytes (bytes_fed calls)) after.splits;
      nothing_later = after.nothing_later;
      in_its_place = after.in_its_place;
    }
runs (answer (Ok (Some frame)) ∷ calls) s t sound h =
    comes s h.0 t frame (frames_given calls) (bytes_fed calls) h.1.comes (runs calls h.0 t h.1.still_sound h.2)
runs (answer (Ok None) ∷ calls) s t sound h = runs calls s t sound (subst (λ (x : Stream). Session x calls t) h.1.same h.2)
runs (answer (Err fault) ∷ calls) s t sound h =
    let gives = h.1 in
    let after = stays calls h.0 t fault (ap fault_in gives.stands) h.2 in
    let end : t ≡ record s { fault = Some fault } = after.same ∙ gives.stands in
    let none : frames_given calls ≡ [] = after.no_frames in
    record {
      read = [];
      later = bytes_fed calls;
      in_order = append-nil s.begun ∙ sym (ap (λ (x : Stream). x.begun) end) ∙ ap (λ (x : List Frame). x ++ t.begun) (sym none);
      splits = done (ap (λ (x : Stream). x.rest ++ bytes_fed calls) (sym end)) refl;
      nothing_later = λ e. absurd (let clash : Some fault ≡ None = sym (ap fault_in end) ∙ e in cc);
      in_its_place = λ other e.
          let same : Some fault ≡ Some other = sym (ap fault_in end) ∙ e in
          ap fault_at (ap rest_in end) ∙ sym (sound_fault s sound) ∙ gives.found ∙ same;
    }

-- a run from the start
pub tells : (calls : List Call) (t : Stream) → Session start calls t → TellsStream (bytes_fed calls) (frames_given calls) t
tells calls t h =
    let run = runs calls start t refl h in
    record {
      later = run.later;
      splits = subst (λ (fs : List Frame). Splits (bytes_fed calls) fs (t.rest ++ run.later)) run.in_order run.splits;
      nothing_later = run.nothing_later;
      in_its_place = run.in_its_place;
    }
