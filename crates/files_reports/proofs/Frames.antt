-- One frame in a body of its own: what its reader gives, and what `Reading` says of it.
use Rattle.std.proofs.Common.{◌≡◌, ◌≢◌, ℕ, ◌+◌, ◌^◌, ◌<◌, ◌≤◌, Bool, true, false, eqb, ltb, List, [], ◌∷◌, ◌++◌, length, take, drop, Option, Some, None, Ok, Err, refl, sym, ap, subst, ◌∙◌, arith}
use Rattle.std.specs.Prelude.{slice_index, ◌&&◌, not, is_some}
use Rattle.std.proofs.lemmas.Bool.{le-ltb, false≢true}
use Rattle.std.proofs.lemmas.Bool.Decides.{nat_tests}
use Rattle.std.proofs.lemmas.List.{append-nil, nil_from_length, take_all, drop_all, length-drop}
use Rattle.byteorder.specs.Endian.{big_number}
use Rattle.byteorder.specs.Numbers.{big_number-reads_back}
use Rattle.signal.specs.declared.frame.Frame.{Frame}
use Rattle.signal.specs.declared.frame.Frame.TheVariants.{Hello, Data, Ack, Refuse}
use Rattle.signal.specs.declared.fault.FrameFault.{FrameFault}
use Rattle.signal.specs.Frame.{body_of, framed, frame_bytes, IsFrame, IsBody, Carries, one, several}
use Rattle.signal.specs.Fault.{is_length, is_partial, body_fault, fault_at}
use Rattle.signal.specs.Stream.{Stream, start, fed, version_after, Comes, goes_on, begins, GivesFrame, GivesFault}
use Rattle.signal.proofs.Bodies.{frames_of, Tells, body_tells}
use Rattle.signal.proofs.Framing as framing
use Rattle.files_reports.specs.declared.content_fault.ContentFault.TheVariants.{BadFrame}
use Rattle.files_reports.specs.Reading.{is_plain, is_alone, frame_in, body_part}

-- the frame of a body that has one, and no more
pub frame_in_is : (body : List ℕ) (frame : Frame) (others : List Frame) → eqb (slice_index body 0) 5 ≡ false → frames_of body ≡ frame ∷ others → frame_in body ≡ frame
frame_in_is body frame others kind h =
    let same : frames_of body ≡ frame_in body ∷ [] = rw kind refl in
    let heads : frame_in body ∷ [] ≡ frame ∷ others = sym same ∙ h in
    cc

-- a body is alone
pub alone : (body : List ℕ) → is_length (length body) ≡ true → body_fault body ≡ None → is_plain body ≡ true → is_alone body ≡ true
alone body long faultless plain = rw (long, faultless, plain) refl

-- or it isn't, for one of three reasons
pub bad_length : (body : List ℕ) → is_length (length body) ≡ false → is_alone body ≡ false
bad_length body h = rw h refl

and_false : (a : Bool) → (a && false) ≡ false
and_false true = refl
and_false false = refl

pub faulty : (body : List ℕ) (fault : FrameFault) → body_fault body ≡ Some fault → is_alone body ≡ false
faulty body fault h =
    ap (λ (found : Option FrameFault). is_length (length body) && (not (is_some found) && is_plain body)) h ∙ and_false (is_length (length body))

pub not_plain : (body : List ℕ) → is_plain body ≡ false → is_alone body ≡ false
not_plain body h =
    ap (λ (plain : Bool). is_length (length body) && (not (is_some (body_fault body)) && plain)) h
    ∙ ap (λ (both : Bool). is_length (length body) && both) (and_false (not (is_some (body_fault body)))) ∙ and_false (is_length (length body))

pub part_of_alone : (body : List ℕ) (frame : Frame) → is_alone body ≡ true → frame_in body ≡ frame → body_part body ≡ Ok frame
unfolding body_part
part_of_alone body frame h e = rw (h, e) refl

pub part_of_others : (body : List ℕ) → is_alone body ≡ false → body_part body ≡ Err BadFrame
unfolding body_part
part_of_others body h = rw h refl

-- ---- a frame's own body

kind_of : (frame : Frame) → eqb (slice_index (body_of 1 frame) 0) 5 ≡ false
kind_of (Hello hello) = refl
kind_of (Data incarnation number signal) = refl
kind_of (Ack incarnation last_taken) = refl
kind_of (Refuse incarnation refusal) = refl

is_plain_own : (frame : Frame) → is_plain (body_of 1 frame) ≡ true
is_plain_own (Hello hello) = refl
is_plain_own (Data incarnation number signal) = refl
is_plain_own (Ack incarnation last_taken) = refl
is_plain_own (Refuse incarnation refusal) = refl

own : (frame : Frame) → IsFrame frame → Tells (body_of 1 frame) (frame ∷ [])
own frame h = body_tells (body_of 1 frame) (frame ∷ []) (one frame (record { version = 1; from_one = omega arith; one_byte = omega arith; is_frame = h; is_body = refl }))

pub own_length : (frame : Frame) → IsFrame frame → is_length (length (body_of 1 frame)) ≡ true
own_length frame h = (own frame h).length_fits

pub own_part : (frame : Frame) → IsFrame frame → body_part (body_of 1 frame) ≡ Ok frame
own_part frame h =
    let tells = own frame h in
    part_of_alone (body_of 1 frame) frame (alone (body_of 1 frame) tells.length_fits tells.faultless (is_plain_own frame))
    (frame_in_is (body_of 1 frame) frame [] (kind_of frame) tells.frames_are)

-- ---- what a reader gives that was fed a body behind its length, and nothing else

-- of these bytes the rest is a whole body
pub record IsWhole (bytes : List ℕ) : Type 0 where
  pub long : 4 ≤ length bytes
  pub size_is : length (drop 4 bytes) ≡ big_number 4 bytes

pub framed_whole : (body : List ℕ) → length body < 2 ^ 32 → IsWhole (framed body)
framed_whole body less = record { long = omega arith; size_is = sym (big_number-reads_back 4 (length body) body less) }

all_of_it : (bytes : List ℕ) → IsWhole bytes → take (big_number 4 bytes) (drop 4 bytes) ≡ drop 4 bytes
all_of_it bytes w = take_all (big_number 4 bytes) (drop 4 bytes) (omega (arith, w.size_is))

nothing_behind : (bytes : List ℕ) → IsWhole bytes → drop (big_number 4 bytes) (drop 4 bytes) ≡ []
nothing_behind bytes w = drop_all (big_number 4 bytes) (drop 4 bytes) (omega (arith, w.size_is))

not_partial : (bytes : List ℕ) → IsWhole bytes → is_partial bytes ≡ false
not_partial bytes w =
    let four : ltb (length bytes) 4 ≡ false = le-ltb _ _ w.long in
    let all : ltb (length bytes) (4 + big_number 4 bytes) ≡ false = le-ltb _ _ (omega (arith, w.size_is, length-drop 4 bytes)) in
    rw (four, all) (and_false (is_length (big_number 4 bytes)))

-- a fault of the bytes is one of the body
fault_inside : (bytes : List ℕ) (fault : FrameFault) → IsWhole bytes → fault_at bytes ≡ Some fault → is_alone (drop 4 bytes) ≡ false
fault_inside bytes fault w h = by (is_length (big_number 4 bytes)) refl
  where
    by : (b : Bool) → is_length (big_number 4 bytes) ≡ b → is_alone (drop 4 bytes) ≡ false
    by false e = bad_length (drop 4 bytes) (ap is_length w.size_is ∙ e)
    by true e =
        let inside : fault_at bytes ≡ body_fault (drop 4 bytes) = rw (not_partial bytes w, e) (ap body_fault (all_of_it bytes w)) in
        faulty (drop 4 bytes) fault (sym inside ∙ h)

pub part_of_faulty : (bytes : List ℕ) (fault : FrameFault) (new : Stream) → IsWhole bytes → GivesFault (fed start bytes) fault new → body_part (drop 4 bytes) ≡ Err BadFrame
part_of_faulty bytes fault new w h = part_of_others (drop 4 bytes) (fault_inside bytes fault w h.found)

carried : (body : List ℕ) (frames : List Frame) → Carries body frames → eqb (slice_index body 0) 5 ≡ false → (frame : Frame) (others : List Frame) → frames ≡ frame ∷ others → IsBody body frame
carried body frames (one first h) kind frame others e = let same : first ≡ frame = cc in subst (IsBody body) same h
carried body frames (several all h) kind frame others e =
    let five : slice_index body 0 ≡ 5 = ap (λ (b : List ℕ). slice_index b 0) h.is_body in
    absurd (false≢true (sym kind ∙ ap (λ (k : ℕ). eqb k 5) five))

-- a frame that came with nothing else
pub record CameAlone (bytes : List ℕ) (frame : Frame) (last : ℕ) : Type 0 where
  pub body : IsBody (drop 4 bytes) frame
  pub bytes_are : bytes ≡ framed (drop 4 bytes)
  pub last_is : last ≡ version_after 1 (drop 4 bytes)
  pub frame_is : frame_in (drop 4 bytes) ≡ frame
  pub long : is_length (length (drop 4 bytes)) ≡ true
  pub faultless : body_fault (drop 4 bytes) ≡ None

came_by : (bytes : List ℕ) (frame : Frame) (new : Stream) → IsWhole bytes → eqb (slice_index (drop 4 bytes) 0) 5 ≡ false → Comes (fed start bytes) frame new → CameAlone bytes frame new.version
came_by bytes frame new w kind (goes_on begun rest version) = absurd cc
came_by bytes frame new w kind (begins front spelling begun rest version) =
    let there : framing.Begins (front ++ new.rest) spelling.body (frame ∷ new.begun) new.rest = framing.begins front new.rest (frame ∷ new.begun) spelling in
    let at : drop 4 bytes ≡ spelling.body =
    sym (all_of_it bytes w) ∙ ap (λ (b : List ℕ). take (big_number 4 b) (drop 4 b)) rest ∙ there.body_is in
    let empty : new.rest ≡ [] =
    sym there.rest_is ∙ ap (λ (b : List ℕ). drop (big_number 4 b) (drop 4 b)) (sym rest) ∙ nothing_behind bytes w in
    let kind_too : eqb (slice_index spelling.body 0) 5 ≡ false = ap (λ (b : List ℕ). eqb (slice_index b 0) 5) (sym at) ∙ kind in
    let tells : Tells spelling.body (frame ∷ new.begun) = body_tells spelling.body (frame ∷ new.begun) spelling.carries in
    record {
      body = subst (λ (b : List ℕ). IsBody b frame) (sym at) (carried spelling.body (frame ∷ new.begun) spelling.carries kind_too frame new.begun refl);
      bytes_are = rest ∙ ap (λ (r : List ℕ). front ++ r) empty ∙ append-nil front ∙ spelling.is_framed ∙ ap framed (sym at);
      last_is = version ∙ ap (version_after 1) (sym at);
      frame_is = frame_in_is (drop 4 bytes) frame new.begun kind (ap frames_of at ∙ tells.frames_are);
      long = ap (λ (b : List ℕ). is_length (length b)) at ∙ tells.length_fits;
      faultless = ap body_fault at ∙ tells.faultless;
    }

pub came : (bytes : List ℕ) (frame : Frame) (new : Stream) → IsWhole bytes → eqb (slice_index (drop 4 bytes) 0) 5 ≡ false → GivesFrame (fed start bytes) frame new → CameAlone bytes frame new.version
came bytes frame new w kind h = came_by bytes frame new w kind h.comes

-- only a Hello tells its version
version_1 : (version : ℕ) (frame : Frame) → version_after 1 (body_of version frame) ≡ 1 → body_of version frame ≡ body_of 1 frame
version_1 version (Hello hello) e = ap (λ (v : ℕ). body_of v (Hello hello)) e
version_1 version (Data incarnation number signal) e = refl
version_1 version (Ack incarnation last_taken) e = refl
version_1 version (Refuse incarnation refusal) e = refl

other_version : (version : ℕ) (frame : Frame) → version_after 1 (body_of version frame) ≢ 1 → is_plain (body_of version frame) ≡ false
other_version version (Hello hello) e = grind (arith, nat_tests)
other_version version (Data incarnation number signal) e = absurd (e refl)
other_version version (Ack incarnation last_taken) e = absurd (e refl)
other_version version (Refuse incarnation refusal) e = absurd (e refl)

-- a frame of the first version came as it is written
pub came_as_written : (bytes : List ℕ) (frame : Frame) (last : ℕ) → CameAlone bytes frame last → last ≡ 1 → IsFrame frame × (bytes ≡ frame_bytes frame)
came_as_written bytes frame last h e =
    let first : version_after 1 (body_of h.body.version frame) ≡ 1 = ap (version_after 1) (sym h.body.is_body) ∙ sym h.last_is ∙ e in
    (h.body.is_frame, h.bytes_are ∙ ap framed (h.body.is_body ∙ version_1 h.body.version frame first))

pub part_of_came : (bytes : List ℕ) (frame : Frame) (last : ℕ) → CameAlone bytes frame last → last ≡ 1 → body_part (drop 4 bytes) ≡ Ok frame
part_of_came bytes frame last h e =
    let first : version_after 1 (body_of h.body.version frame) ≡ 1 = ap (version_after 1) (sym h.body.is_body) ∙ sym h.last_is ∙ e in
    let plain : is_plain (drop 4 bytes) ≡ true = ap is_plain (h.body.is_body ∙ version_1 h.body.version frame first) ∙ is_plain_own frame in
    part_of_alone (drop 4 bytes) frame (alone (drop 4 bytes) h.long h.faultless plain) h.frame_is

pub part_of_other_version : (bytes : List ℕ) (frame : Frame) (last : ℕ) → CameAlone bytes frame last → last ≢ 1 → body_part (drop 4 bytes) ≡ Err BadFrame
part_of_other_version bytes frame last h e =
    let other : version_after 1 (body_of h.body.version frame) ≢ 1 = λ first. e (h.last_is ∙ ap (version_after 1) h.body.is_body ∙ first) in
    part_of_others (drop 4 bytes) (not_plain (drop 4 bytes) (ap is_plain h.body.is_body ∙ other_version h.body.version frame other))

pub part_of_nothing : (body : List ℕ) → length body ≡ 0 → body_part body ≡ Err BadFrame
part_of_nothing body h = part_of_others body (ap is_alone (nil_from_length body h))

pub part_of_batch : (body : List ℕ) → slice_index body 0 ≡ 5 → body_part body ≡ Err BadFrame
part_of_batch body h = part_of_others body (not_plain body (rw h refl))

-- ---- what a reader answers that was fed a body behind its length

pub gave_frame : (body : List ℕ) (frame : Frame) (old new : Stream) → length body < 2 ^ 32 → old ≡ fed start (framed body) → slice_index body 0 ≢ 5 → GivesFrame old frame new
    → CameAlone (framed body) frame new.version
gave_frame body frame old new less e other h =
    let kind : eqb (slice_index body 0) 5 ≡ false = grind (arith, nat_tests) in
    came (framed body) frame new (framed_whole body less) kind (subst (λ (s : Stream). GivesFrame s frame new) e h)

pub gave_fault : (body : List ℕ) (fault : FrameFault) (old new : Stream) → length body < 2 ^ 32 → old ≡ fed start (framed body) → GivesFault old fault new → body_part body ≡ Err BadFrame
gave_fault body fault old new less e h = part_of_faulty (framed body) fault new (framed_whole body less) (subst (λ (s : Stream). GivesFault s fault new) e h)
