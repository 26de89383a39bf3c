-- How many Batches frames are written as, counted from the front.
use Rattle.std.proofs.Common.{◌≡◌, ◌∙◌, ℕ, ◌+◌, ◌-◌, ◌<◌, ◌≤◌, ◌^◌, Bool, true, false, ◌&&◌, cond, List, [], ◌∷◌, length, drop, get_or, refl, sym, ap, subst, zero-add, length-drop, arith, inl, inr}
use Rattle.std.specs.Prelude.{if◌then◌else◌, nat_lt, nat_eq, count_by}
use Rattle.std.proofs.lemmas.Bool.{cases_Bool, and_right}
use Rattle.std.proofs.lemmas.Bool.Decides.{nat_tests}
use Rattle.std.proofs.lemmas.List.{drop_more}
use Rattle.std.proofs.lemmas.List.Sums.{sum_by-cons}
use Rattle.signal.specs.declared.frame.Frame.{Frame}
use Rattle.signal.specs.Pieces.{follows, goes_on, in_front}
use Rattle.signal.proofs.Cutting.{cut_from, one_pass}
use Rattle.wires_traffic.specs.Sums.{kept}
use Rattle.wires_traffic.specs.Counter.{batches_in}

abbrev is_batch : List Frame → Bool
is_batch piece = nat_lt 1 (length piece)

-- the Batches among pieces
abbrev count : List (List Frame) → ℕ
count pieces = count_by is_batch pieces

count_cons : (piece : List Frame) (pieces : List (List Frame)) → count (piece ∷ pieces) ≡ cond (is_batch piece) 1 0 + count pieces
count_cons piece pieces = sum_by-cons (λ (p : List Frame). cond (is_batch p) 1 0) piece pieces

-- the same where the first piece has `size` frames up to its first one here, and was counted if these are two or more
abbrev to_come : (size : ℕ) → List (List Frame) → ℕ
to_come size [] = 0
to_come size (piece ∷ pieces) = cond (nat_lt 1 size) 0 (cond (is_batch piece) 1 0) + count pieces

-- of frames of which the first is the one of that number in its piece
abbrev pub left_of : (size : ℕ) → List Frame → ℕ
left_of size frames = to_come size (cut_from 64 (65 - size) frames)

-- the frame is the first of the first piece
record Begins (frame : Frame) (pieces : List (List Frame)) : Type 0 where
  piece : List Frame
  others : List (List Frame)
  is : pieces ≡ (frame ∷ piece) ∷ others

either_begins : (frame : Frame) (b : Bool) (xs ys : List (List Frame)) → Begins frame (if b then in_front frame xs else (frame ∷ []) ∷ ys)
either_begins frame true [] ys = record { piece = []; others = []; is = refl }
either_begins frame true (piece ∷ pieces) ys = record { piece = piece; others = pieces; is = refl }
either_begins frame false xs ys = record { piece = []; others = ys; is = refl }

first_of : (places : ℕ) (frame : Frame) (frames : List Frame) → Begins frame (cut_from 64 places (frame ∷ frames))
first_of places frame frames = either_begins frame (nat_lt 1 places && goes_on (frame ∷ []) frames) (cut_from 64 (places - 1) frames) (cut_from 64 64 frames)

-- a piece that has room
has_room : (size : ℕ) → nat_lt 1 (65 - size) ≡ nat_lt size 64
has_room size = grind (arith, nat_tests)

-- with one frame more a piece of one frame becomes a Batch, and one that is a Batch was counted
one_more : (size n m others : ℕ) → 0 < size → 1 < n →
    cond (nat_lt 1 size) 0 (cond (nat_lt 1 n) 1 0) + others ≡ (if nat_eq (size + 1) 2 then 1 else 0) + (cond (nat_lt 1 (size + 1)) 0 (cond (nat_lt 1 m) 1 0) + others)
one_more size n m others some two = grind (arith, nat_tests)

goes : (size : ℕ) (f g : Frame) (frames : List Frame) → 0 < size → (nat_lt size 64 && follows f g) ≡ true →
    left_of size (f ∷ g ∷ frames) ≡ (if nat_eq (size + 1) 2 then 1 else 0) + left_of (size + 1) (g ∷ frames)
goes size f g frames some goes_on_is =
    let b = first_of (65 - size - 1) g frames in
    let room : (nat_lt 1 (65 - size) && follows f g) ≡ true = ap (λ (t : Bool). t && follows f g) (has_room size) ∙ goes_on_is in
    let cut : cut_from 64 (65 - size) (f ∷ g ∷ frames) ≡ (f ∷ g ∷ b.piece) ∷ b.others =
    ap (λ (t : Bool). if t then in_front f (cut_from 64 (65 - size - 1) (g ∷ frames)) else (f ∷ []) ∷ cut_from 64 64 (g ∷ frames)) room ∙ ap (in_front f) b.is in
    let same : 65 - (size + 1) ≡ 65 - size - 1 = omega arith in
    let next : cut_from 64 (65 - (size + 1)) (g ∷ frames) ≡ (g ∷ b.piece) ∷ b.others = ap (λ (n : ℕ). cut_from 64 n (g ∷ frames)) same ∙ b.is in
    let two : 1 < length (f ∷ g ∷ b.piece) = omega arith in
    ap (to_come size) cut ∙ one_more size (length (f ∷ g ∷ b.piece)) (length (g ∷ b.piece)) (count b.others) some two
    ∙ sym (ap (λ (pieces : List (List Frame)). (if nat_eq (size + 1) 2 then 1 else 0) + to_come (size + 1) pieces) next)

-- a piece of one frame is no Batch
alone : (b : Bool) (others : ℕ) → cond b 0 0 + others ≡ others
alone true others = zero-add others
alone false others = zero-add others

-- of a piece that begins, all are to come
all_to_come : (pieces : List (List Frame)) → to_come 1 pieces ≡ count pieces
all_to_come [] = refl
all_to_come (piece ∷ pieces) = sym (count_cons piece pieces)

apart : (size : ℕ) (f g : Frame) (frames : List Frame) → (nat_lt size 64 && follows f g) ≡ false → left_of size (f ∷ g ∷ frames) ≡ left_of 1 (g ∷ frames)
apart size f g frames stops =
    let room : (nat_lt 1 (65 - size) && follows f g) ≡ false = ap (λ (t : Bool). t && follows f g) (has_room size) ∙ stops in
    let cut : cut_from 64 (65 - size) (f ∷ g ∷ frames) ≡ (f ∷ []) ∷ cut_from 64 64 (g ∷ frames) =
    ap (λ (t : Bool). if t then in_front f (cut_from 64 (65 - size - 1) (g ∷ frames)) else (f ∷ []) ∷ cut_from 64 64 (g ∷ frames)) room in
    ap (to_come size) cut ∙ alone (nat_lt 1 size) (count (cut_from 64 64 (g ∷ frames))) ∙ sym (all_to_come (cut_from 64 64 (g ∷ frames)))

-- by one frame more
step : (size next : ℕ) (f g : Frame) (frames : List Frame) → 0 < size → next ≡ (if nat_lt size 64 && follows f g then size + 1 else 1) →
    left_of size (f ∷ g ∷ frames) ≡ (if nat_eq next 2 then 1 else 0) + left_of next (g ∷ frames)
step size next f g frames some is =
    elim (cases_Bool (nat_lt size 64 && follows f g)) [
      | inl more ↦
          let by : size + 1 ≡ next = sym (is ∙ ap (λ (t : Bool). if t then size + 1 else 1) more) in
          subst (λ (n : ℕ). left_of size (f ∷ g ∷ frames) ≡ (if nat_eq n 2 then 1 else 0) + left_of n (g ∷ frames)) by (goes size f g frames some more)
      | inr none ↦
          let by : 1 ≡ next = sym (is ∙ ap (λ (t : Bool). if t then size + 1 else 1) none) in
          subst (λ (n : ℕ). left_of size (f ∷ g ∷ frames) ≡ (if nat_eq n 2 then 1 else 0) + left_of n (g ∷ frames)) by
          (apart size f g frames none ∙ sym (zero-add (left_of 1 (g ∷ frames))))
    ]

-- a size is of one frame at least
pub some_size : (size next : ℕ) (b : Bool) → next ≡ (if b then size + 1 else 1) → 0 < next
some_size size next true is = omega arith
some_size size next false is = omega arith

-- ---- the loop

-- so many Batches by now and those to come are all
abbrev pub Completes : (batches size : ℕ) (left frames : List Frame) → Type 0
Completes batches size left frames = kept (batches + left_of size left) ≡ kept (batches_in frames)

pub at_first : (frames : List Frame) → Completes 0 1 frames frames
at_first frames =
    ap kept (zero-add (left_of 1 frames) ∙ all_to_come (cut_from 64 64 frames)) ∙ ap (λ (pieces : List (List Frame)). kept (count pieces)) (one_pass frames)

kept_sum : (a b c : ℕ) → kept (kept (a + b) + c) ≡ kept (a + (b + c))
kept_sum a b c = grind arith

pub fits_kept : (n m : ℕ) → m ≡ kept n → m < 2 ^ 64
fits_kept n m is = omega arith

pub one_frame_more :
    (frames : List Frame) (place batches size next begun new : ℕ) (f g : Frame) → 0 < place → place < length frames → f ≡ get_or frames (place - 1) f → g ≡ get_or frames place g →
    0 < size → next ≡ (if nat_lt size 64 && follows f g then size + 1 else 1) → begun ≡ (if nat_eq next 2 then 1 else 0) → new ≡ kept (batches + begun) →
    Completes batches size (drop (place - 1) frames) frames → Completes new next (drop (place + 1 - 1) frames) frames
one_frame_more frames place batches size next begun new f g some within f_is g_is size_is next_is begun_is new_is so_far =
    let behind = drop (place + 1) frames in
    let second : drop place frames ≡ g ∷ behind = drop_more frames place g within ∙ ap (λ (x : Frame). x ∷ behind) (sym g_is) in
    let there : place - 1 + 1 ≡ place = omega arith in
    let first : drop (place - 1) frames ≡ f ∷ g ∷ behind =
    drop_more frames (place - 1) f (omega arith) ∙ ap (λ (x : Frame). x ∷ drop (place - 1 + 1) frames) (sym f_is)
    ∙ ap (λ (n : ℕ). f ∷ drop n frames) there ∙ ap (λ (l : List Frame). f ∷ l) second in
    let again : place + 1 - 1 ≡ place = omega arith in
    let now : drop (place + 1 - 1) frames ≡ g ∷ behind = ap (λ (n : ℕ). drop n frames) again ∙ second in
    let stepped : left_of size (drop (place - 1) frames) ≡ begun + left_of next (drop (place + 1 - 1) frames) =
    ap (left_of size) first ∙ step size next f g behind size_is next_is ∙ ap (λ (n : ℕ). n + left_of next (g ∷ behind)) (sym begun_is)
    ∙ ap (λ (l : List Frame). begun + left_of next l) (sym now) in
    ap (λ (n : ℕ). kept (n + left_of next (drop (place + 1 - 1) frames))) new_is ∙ kept_sum batches begun (left_of next (drop (place + 1 - 1) frames))
    ∙ sym (ap (λ (n : ℕ). kept (batches + n)) stepped) ∙ so_far

-- of one frame, or of none, there is none to come
none_left : (size : ℕ) (frames : List Frame) → length frames ≤ 1 → left_of size frames ≡ 0
none_left size [] few = refl
none_left size (frame ∷ []) few =
    let b : (nat_lt 1 (65 - size) && false) ≡ false = and_right (nat_lt 1 (65 - size)) false refl in
    ap (λ (t : Bool). to_come size (if t then in_front frame [] else (frame ∷ []) ∷ [])) b ∙ alone (nat_lt 1 size) 0
none_left size (frame ∷ next ∷ frames) few = absurd (omega arith)

pub at_last :
    (frames : List Frame) (place batches size : ℕ) → length frames ≤ place → batches < 2 ^ 64 → Completes batches size (drop (place - 1) frames) frames →
    batches ≡ kept (batches_in frames)
at_last frames place batches size past fits so_far =
    let few : length (drop (place - 1) frames) ≤ 1 = omega (arith, length-drop (place - 1) frames) in
    let none : left_of size (drop (place - 1) frames) ≡ 0 = none_left size (drop (place - 1) frames) few in
    let whole : batches ≡ kept (batches + 0) = grind arith in
    whole ∙ sym (ap (λ (n : ℕ). kept (batches + n)) none) ∙ so_far
