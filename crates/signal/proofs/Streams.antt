-- A stream gives one frame after the other, the same ones however its bytes come.
use Rattle.std.proofs.Common.{◌≡◌, ℕ, true, false, List, [], ◌∷◌, ◌++◌, Option, Some, None, Result, Ok, Err, refl, sym, ap, subst, ◌∙◌, append_assoc, inl, inr}
use Rattle.std.specs.Prelude.{IsSome}
use Rattle.signal.specs.declared.frame.Frame.{Frame}
use Rattle.signal.specs.declared.fault.FrameFault.{FrameFault}
use Rattle.signal.specs.Frame.{Spells}
use Rattle.signal.specs.Fault.{is_partial, fault_at}
use Rattle.signal.specs.Stream.{Stream, IsStream, version_after, fault_of, Comes, goes_on, begins, GivesFrame, GivesNothing, GivesFault, Gives, Splits, done, more, HasNoFrame}
use Rattle.signal.proofs.Framing.{same_reading, partial_faultless}
use Rattle.signal.proofs.Framing as framing

abbrev Answer : Type 0
Answer = Result (Option Frame) FrameFault

abbrev stream : Option FrameFault → List Frame → List ℕ → ℕ → Stream
stream fault begun rest version = record { fault = fault; begun = begun; rest = rest; version = version }

-- a stream is told by its four parts
same_stream : (s t : Stream) → s.fault ≡ t.fault → s.begun ≡ t.begun → s.rest ≡ t.rest → s.version ≡ t.version → s ≡ t
same_stream s t f b r v =
    ap (λ (x : Option FrameFault). stream x s.begun s.rest s.version) f ∙ ap (λ (x : List Frame). stream t.fault x s.rest s.version) b
    ∙ ap (λ (x : List ℕ). stream t.fault t.begun x s.version) r ∙ ap (λ (x : ℕ). stream t.fault t.begun t.rest x) v

pub sound_fault : (s : Stream) → s.fault ≡ None → fault_of s ≡ fault_at s.rest
sound_fault s e = rw e refl

-- what stands at the front of a rest from which a frame comes
record Front (s : Stream) : Type 0 where
  faultless : fault_at s.rest ≡ None
  whole : is_partial s.rest ≡ false

front_of : (s : Stream) (front rest : List ℕ) (frames : List Frame) → Spells front frames → s.rest ≡ front ++ rest → Front s
front_of s front rest frames h e =
    let at = framing.begins front rest frames h in
    record { faultless = ap fault_at e ∙ at.faultless; whole = ap is_partial e ∙ at.whole }

-- where none are begun, a frame comes from the rest
from_rest : (s : Stream) (frame : Frame) (t : Stream) → s.begun ≡ [] → Comes s frame t → Front s
from_rest s frame t none (goes_on b r v) = absurd (let clash : [] ≡ frame ∷ t.begun = sym none ∙ b in cc)
from_rest s frame t none (begins front spelling b r v) = front_of s front t.rest (frame ∷ t.begun) spelling r

frame_or_nothing : (s : Stream) (frame : Frame) (t u : Stream) → GivesFrame s frame t → GivesNothing s u → ⊥
frame_or_nothing s frame t u p q = let h : true ≡ false = sym q.partial ∙ (from_rest s frame t q.none_begun p.comes).whole in cc

frame_or_fault : (s : Stream) (frame : Frame) (fault : FrameFault) (t u : Stream) → GivesFrame s frame t → GivesFault s fault u → ⊥
frame_or_fault s frame fault t u p q =
    let h : None ≡ Some fault = sym (sound_fault s p.sound ∙ (from_rest s frame t q.none_begun p.comes).faultless) ∙ q.found in cc

fault_or_nothing : (s : Stream) (fault : FrameFault) (t u : Stream) → GivesFault s fault t → GivesNothing s u → ⊥
fault_or_nothing s fault t u p q = let h : None ≡ Some fault = sym (sound_fault s q.sound ∙ partial_faultless s.rest q.partial) ∙ p.found in cc

-- the first of two equal lists
record SameHead (f g : Frame) (xs ys : List Frame) : Type 0 where
  head : f ≡ g
  tail : xs ≡ ys

same_head : (f g : Frame) (xs ys : List Frame) → f ∷ xs ≡ g ∷ ys → SameHead f g xs ys
same_head f g xs ys e = record { head = cc; tail = cc }

-- one stream gives one frame, and goes on in one way
one_frame : (s : Stream) (f g : Frame) (t u : Stream) → t.fault ≡ None → u.fault ≡ None → Comes s f t → Comes s g u → (f ≡ g) × (t ≡ u)
one_frame s f g t u m n (goes_on b r v) (goes_on c q w) =
    let both = same_head f g t.begun u.begun (sym b ∙ c) in
    (both.head, same_stream t u (m ∙ sym n) both.tail (r ∙ sym q) (v ∙ sym w))
one_frame s f g t u m n (goes_on b r v) (begins front spelling c q w) = absurd (let clash : f ∷ t.begun ≡ [] = sym b ∙ c in cc)
one_frame s f g t u m n (begins front spelling b r v) (goes_on c q w) = absurd (let clash : g ∷ u.begun ≡ [] = sym c ∙ b in cc)
one_frame s f g t u m n (begins front spelling b r v) (begins other again c q w) =
    let same = same_reading front other t.rest u.rest (f ∷ t.begun) (g ∷ u.begun) spelling again (sym r ∙ q) in
    let both = same_head f g t.begun u.begun same.frames_are in
    (both.head, same_stream t u (m ∙ sym n) both.tail same.rest_is (v ∙ ap (version_after s.version) same.body_is ∙ sym w))

-- one stream gives one answer
pub one_answer : (s : Stream) (a b : Answer) (t u : Stream) → Gives s a t → Gives s b u → (a ≡ b) × (t ≡ u)
one_answer s (Ok (Some f)) (Ok (Some g)) t u p q =
    let both = one_frame s f g t u p.still_sound q.still_sound p.comes q.comes in
    (ap (λ (x : Frame). Ok (Some x)) both.0, both.1)
one_answer s (Ok (Some f)) (Ok None) t u p q = absurd (frame_or_nothing s f t u p q)
one_answer s (Ok (Some f)) (Err e) t u p q = absurd (frame_or_fault s f e t u p q)
one_answer s (Ok None) (Ok (Some g)) t u p q = absurd (frame_or_nothing s g u t q p)
one_answer s (Ok None) (Ok None) t u p q = (refl, p.same ∙ sym q.same)
one_answer s (Ok None) (Err e) t u p q = absurd (fault_or_nothing s e u t q p)
one_answer s (Err d) (Ok (Some g)) t u p q = absurd (frame_or_fault s g d u t q p)
one_answer s (Err d) (Ok None) t u p q = absurd (fault_or_nothing s d t u p q)
one_answer s (Err d) (Err e) t u p q =
    let h : Some d ≡ Some e = sym p.found ∙ q.found in
    let same : d ≡ e = cc in
    (ap (λ (x : FrameFault). Err x) same, p.stands ∙ ap (λ (x : FrameFault). record s { fault = Some x }) same ∙ sym q.stands)

-- a fault that stands is given again
pub given_again : (s : Stream) (fault : FrameFault) → IsStream s → s.fault ≡ Some fault → GivesFault s fault s
given_again s fault h e =
    let at : (s.begun ≡ []) × (fault_at s.rest ≡ Some fault) = rw e at h in
    record { none_begun = at.0; found = rw e refl; stands = same_stream s (record s { fault = Some fault }) e refl refl refl }

-- ---- spellings one after the other

pub splits_along : (a b : List ℕ) (frames : List Frame) (rest : List ℕ) → a ≡ b → Splits a frames rest → Splits b frames rest
splits_along a b frames rest e h = subst (λ (x : List ℕ). Splits x frames rest) e h

-- bytes that come later change nothing of what was read
pub pieces : (a b : List ℕ) (frames others : List Frame) (rest left : List ℕ) → Splits a frames rest → Splits (rest ++ b) others left → Splits (a ++ b) (frames ++ others) left
pieces a b frames others rest left (done e f) k =
    subst (λ (fs : List Frame). Splits (a ++ b) (fs ++ others) left) (sym f) (splits_along (rest ++ b) (a ++ b) others left (ap (λ (x : List ℕ). x ++ b) (sym e)) k)
pieces a b frames others rest left (more front behind some later spelling e f h) k =
    more front (behind ++ b) some (later ++ others) spelling (ap (λ (x : List ℕ). x ++ b) e ∙ append_assoc front behind b) (ap (λ (x : List Frame). x ++ others) f ∙ append_assoc some later others)
    (pieces behind b later others rest left h k)

-- nothing is taken off a list at whose front no frame stands
stops : (bytes front behind : List ℕ) (frames : List Frame) → HasNoFrame bytes → Spells front frames → bytes ≡ front ++ behind → ⊥
stops bytes front behind frames none h e =
    let at = framing.begins front behind frames h in
    elim none [
      | inl partial ↦ (let clash : true ≡ false = sym partial ∙ ap is_partial e ∙ at.whole in cc)
      | inr faulty ↦ (let quiet : fault_at bytes ≡ None = ap fault_at e ∙ at.faultless in let clash : false ≡ true = subst (λ (o : Option FrameFault). IsSome o) quiet faulty in cc)
    ]

-- one list of bytes is read in one way
pub one_splitting : (bytes : List ℕ) (frames others : List Frame) (rest left : List ℕ) → HasNoFrame rest → HasNoFrame left → Splits bytes frames rest → Splits bytes others left → (frames ≡ others) × (rest ≡ left)
one_splitting bytes frames others rest left m n (done e f) (done d g) = (f ∙ sym g, sym e ∙ d)
one_splitting bytes frames others rest left m n (done e f) (more front behind some later spelling d g k) = absurd (stops rest front behind some m spelling (sym e ∙ d))
one_splitting bytes frames others rest left m n (more front behind some later spelling e f h) (done d g) = absurd (stops left front behind some n spelling (sym d ∙ e))
one_splitting bytes frames others rest left m n (more front behind some later spelling e f h) (more front' behind' some' later' spelling' d g k) =
    let first = same_reading front front' behind behind' some some' spelling spelling' (sym e ∙ d) in
    let same = one_splitting behind later later' rest left m n h (splits_along behind' behind later' left (sym first.rest_is) k) in
    (f ∙ ap (λ (x : List Frame). x ++ later) first.frames_are ∙ ap (λ (x : List Frame). some' ++ x) same.0 ∙ sym g, same.1)
