-- Frames are cut into pieces in one pass from the front, and no other pieces are as long as they may be.
use Rattle.std.proofs.Common.{◌≡◌, ℕ, ◌-◌, ◌<◌, ◌≤◌, Bool, true, false, ◌&&◌, List, [], ◌∷◌, ◌++◌, length, refl, sym, ap, subst, ◌∙◌, arith, ◌⊎◌, inl, inr}
use Rattle.std.specs.Prelude.{if◌then◌else◌, nat_lt, nat_le}
use Rattle.std.specs.List.{flat_map, AllByRecursion}
use Rattle.std.proofs.lemmas.Bool.{cases_Bool, lt-ltb, le-ltb, ltb-true, ltb-false, and_parts, and_cases, and_left, and_right, and_from}
use Rattle.signal.specs.declared.frame.Frame.{Frame}
use Rattle.signal.specs.Frame.{frame_bytes_by}
use Rattle.signal.specs.Pieces.{follows, goes_on, in_front, stretches, cut_stretch, pieces_of, IsStretch, IsPiece}
use Rattle.signal.specs.Pieces.{AreLongest, piece_bytes, written}

-- the pieces in one pass: the first has this many places, each later one `most`
abbrev pub cut_from : (most places : ℕ) → List Frame → List (List Frame)
cut_from most places [] = []
cut_from most places (frame ∷ frames) =
    if nat_lt 1 places && goes_on (frame ∷ []) frames then in_front frame (cut_from most (places - 1) frames)
    else (frame ∷ []) ∷ cut_from most most frames

-- the frames of all pieces
abbrev pub joined : List (List Frame) → List Frame
joined pieces = flat_map (λ piece. piece) pieces

-- the frame is the first of the first piece
record Head (frame : Frame) (pieces : List (List Frame)) : Type 0 where
  piece : List Frame
  others : List (List Frame)
  is : pieces ≡ (frame ∷ piece) ∷ others

front_head : (frame : Frame) (pieces : List (List Frame)) → Head frame (in_front frame pieces)
front_head frame [] = record { piece = []; others = []; is = refl }
front_head frame (piece ∷ pieces) = record { piece = piece; others = pieces; is = refl }

either_head : (frame : Frame) (b : Bool) (xs ys : List (List Frame)) → Head frame (if b then in_front frame xs else (frame ∷ []) ∷ ys)
either_head frame true xs ys = front_head frame xs
either_head frame false xs ys = record { piece = []; others = ys; is = refl }

-- ---- the pieces of a stretch, and of all stretches, in one pass

-- a stretch of one frame is one piece
lone_stretch : (places : ℕ) (frame : Frame) → cut_stretch places (frame ∷ []) ≡ (frame ∷ []) ∷ []
lone_stretch places frame = by (nat_lt 1 places)
  where
    by : (b : Bool) → (if b then in_front frame [] else (frame ∷ []) ∷ []) ≡ (frame ∷ []) ∷ []
    by true = refl
    by false = refl

front_append : (frame : Frame) (pieces more : List (List Frame)) (first : Frame) → Head first pieces → in_front frame (pieces ++ more) ≡ in_front frame pieces ++ more
front_append frame pieces more first h =
    ap (λ (x : List (List Frame)). in_front frame (x ++ more)) h.is ∙ ap (λ (x : List (List Frame)). in_front frame x ++ more) (sym h.is)

-- the first stretch with its places, the others anew
abbrev cut_first : ℕ → List (List Frame) → List (List Frame)
cut_first places [] = []
cut_first places (stretch ∷ others) = cut_stretch places stretch ++ flat_map (cut_stretch 64) others

cut_all : (groups : List (List Frame)) → cut_first 64 groups ≡ flat_map (cut_stretch 64) groups
cut_all [] = refl
cut_all (stretch ∷ others) = refl

-- one frame more in front, which the next one goes on with, or doesn't
joins : (places : ℕ) (frame first : Frame) (stretch : List Frame) (others pieces again : List (List Frame)) → pieces ≡ cut_first (places - 1) ((first ∷ stretch) ∷ others) → again ≡ cut_first 64 ((first ∷ stretch) ∷ others)
    → (if nat_lt 1 places && true then in_front frame pieces else (frame ∷ []) ∷ again) ≡ cut_first places ((frame ∷ first ∷ stretch) ∷ others)
joins places frame first stretch others pieces again e f =
    elim (cases_Bool (nat_lt 1 places)) [
      | inl more ↦ rw (more, e) (front_append frame (cut_stretch (places - 1) (first ∷ stretch)) (flat_map (cut_stretch 64) others) first (either_head first (nat_lt 1 (places - 1)) _ _))
      | inr none ↦ rw (none, f) refl
    ]

one_pass_at : (frames : List Frame) (places : ℕ) → cut_from 64 places frames ≡ cut_first places (stretches frames)
one_pass_at [] places = refl
one_pass_at (frame ∷ []) places =
    let alone : (nat_lt 1 places && false) ≡ false = and_right _ _ refl in
    rw (alone, lone_stretch places frame) refl
one_pass_at (frame ∷ next ∷ frames) places =
    let head : Head next (stretches (next ∷ frames)) = either_head next (goes_on (next ∷ []) frames) _ _ in
    elim (cases_Bool (follows frame next)) [
      | inl more ↦ rw more (
          joins places frame next head.piece head.others (cut_from 64 (places - 1) (next ∷ frames)) (cut_from 64 64 (next ∷ frames))
          (one_pass_at (next ∷ frames) (places - 1) ∙ ap (cut_first (places - 1)) head.is) (one_pass_at (next ∷ frames) 64 ∙ ap (cut_first 64) head.is)
          ∙ ap (λ (x : List (List Frame)). cut_first places (in_front frame x)) (sym head.is)
          )
      | inr none ↦
          let alone : (nat_lt 1 places && false) ≡ false = and_right _ _ refl in
          rw (none, alone, lone_stretch places frame) (ap (λ (x : List (List Frame)). (frame ∷ []) ∷ x) (one_pass_at (next ∷ frames) 64 ∙ cut_all (stretches (next ∷ frames))))
    ]

pub one_pass : (frames : List Frame) → cut_from 64 64 frames ≡ pieces_of frames
one_pass frames = one_pass_at frames 64 ∙ cut_all (stretches frames)

-- ---- a piece is taken off

pub nothing_behind : (piece : List Frame) → goes_on piece [] ≡ false
nothing_behind [] = refl
nothing_behind (frame ∷ []) = refl
nothing_behind (frame ∷ next ∷ piece) = nothing_behind (next ∷ piece)

-- only the first of the frames behind counts
first_behind : (piece behind more : List Frame) → IsStretch behind → goes_on piece (behind ++ more) ≡ goes_on piece behind
first_behind [] behind more h = refl
first_behind (frame ∷ []) [] more h = absurd h
first_behind (frame ∷ []) (next ∷ behind) more h = refl
first_behind (frame ∷ next ∷ piece) behind more h = first_behind (next ∷ piece) behind more h

-- a stretch that has all its places, or with which the frames behind don't go on, is the first piece
pub one_piece : (most places : ℕ) (piece behind : List Frame) → IsStretch piece → length piece ≤ places → (length piece ≡ places) ⊎ (goes_on piece behind ≡ false)
    → cut_from most places (piece ++ behind) ≡ piece ∷ cut_from most most behind
one_piece most places [] behind h few ends = absurd h
one_piece most places (frame ∷ []) behind h few (inl full) =
    let last : nat_lt 1 places ≡ false = le-ltb _ _ (omega arith) in
    rw (and_left (nat_lt 1 places) (goes_on (frame ∷ []) behind) last) refl
one_piece most places (frame ∷ []) behind h few (inr apart) = rw (and_right (nat_lt 1 places) (goes_on (frame ∷ []) behind) apart) refl
one_piece most places (frame ∷ next ∷ piece) behind h few ends =
    let more : nat_lt 1 places ≡ true = lt-ltb _ _ (omega arith) in
    rw (and_from (nat_lt 1 places) (follows frame next) more h.0) (ap (in_front frame) (one_piece most (places - 1) (next ∷ piece) behind h.1 (omega arith) (fewer ends)))
  where
    fewer : (length (frame ∷ next ∷ piece) ≡ places) ⊎ (goes_on (next ∷ piece) behind ≡ false) → (length (next ∷ piece) ≡ places - 1) ⊎ (goes_on (next ∷ piece) behind ≡ false)
    fewer (inl full) = inl (omega arith)
    fewer (inr apart) = inr apart

-- ---- pieces that are as long as they may be are those of the pass

pub unique : (pieces : List (List Frame)) → AllByRecursion IsPiece pieces → AreLongest pieces → cut_from 64 64 (joined pieces) ≡ pieces
unique [] each longest = refl
unique (piece ∷ []) each longest = one_piece 64 64 piece [] each.0.0 each.0.1 (inr (nothing_behind piece))
unique (piece ∷ next ∷ pieces) each longest =
    one_piece 64 64 piece (next ++ joined pieces) each.0.0 each.0.1 (ends longest.0) ∙ ap (λ (x : List (List Frame)). piece ∷ x) (unique (next ∷ pieces) each.1 longest.1)
  where
    ends : (length piece ≡ 64) ⊎ (goes_on piece next ≡ false) → (length piece ≡ 64) ⊎ (goes_on piece (next ++ joined pieces) ≡ false)
    ends (inl full) = inl full
    ends (inr apart) = inr (first_behind piece next (joined pieces) each.1.0.0 ∙ apart)

-- ---- the pieces of the pass are as long as they may be

abbrev Ends : ℕ → List Frame → List (List Frame) → Type 0
Ends places piece [] = Unit {0}
Ends places piece (next ∷ pieces) = (length piece ≡ places) ⊎ (goes_on piece next ≡ false)

-- each a stretch and as long as it may be, where the first has this many places
abbrev Good : (most places : ℕ) → List (List Frame) → Type 0
Good most places [] = Unit {0}
Good most places (piece ∷ pieces) = IsStretch piece × (length piece ≤ places) × Ends places piece pieces × Good most most pieces

-- one frame more in a first piece
longer : (most places : ℕ) (frame next : Frame) (piece : List Frame) (pieces : List (List Frame)) → follows frame next ≡ true → 1 < places
    → Good most (places - 1) ((next ∷ piece) ∷ pieces) → Good most places ((frame ∷ next ∷ piece) ∷ pieces)
longer most places frame next piece [] goes more h = ((goes, h.0), omega (arith, h.1), tt, tt)
longer most places frame next piece (other ∷ pieces) goes more h = ((goes, h.0), omega (arith, h.1), ends h.2, h.3)
  where
    ends : (length (next ∷ piece) ≡ places - 1) ⊎ (goes_on (next ∷ piece) other ≡ false) → (length (frame ∷ next ∷ piece) ≡ places) ⊎ (goes_on (next ∷ piece) other ≡ false)
    ends (inl full) = inl (omega arith)
    ends (inr apart) = inr apart

-- a piece of one frame in front
apart : (most places : ℕ) (frame next : Frame) (piece : List Frame) (pieces : List (List Frame)) → 0 < places → (nat_lt 1 places && follows frame next) ≡ false
    → Good most most ((next ∷ piece) ∷ pieces) → Good most places ((frame ∷ []) ∷ (next ∷ piece) ∷ pieces)
apart most places frame next piece pieces some stops h = (tt, omega arith, ends (and_cases (nat_lt 1 places) (follows frame next) stops), h)
  where
    ends : (nat_lt 1 places ≡ false) ⊎ (follows frame next ≡ false) → (1 ≡ places) ⊎ (follows frame next ≡ false)
    ends (inl last) = let l = ltb-false 1 places last in inl (omega arith)
    ends (inr other) = inr other

good_from : (most : ℕ) (frames : List Frame) (places : ℕ) → 0 < most → 0 < places → Good most places (cut_from most places frames)
good_from most [] places m p = tt
good_from most (frame ∷ []) places m p =
    let alone : (nat_lt 1 places && false) ≡ false = and_right _ _ refl in
    rw alone (tt, omega arith, tt, tt)
good_from most (frame ∷ next ∷ frames) places m p =
    elim (cases_Bool (nat_lt 1 places && follows frame next)) [
      | inl goes ↦
          let both = and_parts (nat_lt 1 places) (follows frame next) goes in
          let more : 1 < places = ltb-true 1 places both.0 in
          let head : Head next (cut_from most (places - 1) (next ∷ frames)) = either_head next _ _ _ in
          let rest = subst (Good most (places - 1)) head.is (good_from most (next ∷ frames) (places - 1) m (omega arith)) in
          rw goes (subst (λ (x : List (List Frame)). Good most places (in_front frame x)) (sym head.is) (longer most places frame next head.piece head.others both.1 more rest))
      | inr stops ↦
          let head : Head next (cut_from most most (next ∷ frames)) = either_head next _ _ _ in
          let rest = subst (Good most most) head.is (good_from most (next ∷ frames) most m m) in
          rw stops (subst (λ (x : List (List Frame)). Good most places ((frame ∷ []) ∷ x)) (sym head.is) (apart most places frame next head.piece head.others p stops rest))
    ]

joined_front : (frame : Frame) (pieces : List (List Frame)) → joined (in_front frame pieces) ≡ frame ∷ joined pieces
joined_front frame [] = refl
joined_front frame (piece ∷ pieces) = refl

pub in_order : (most : ℕ) (frames : List Frame) (places : ℕ) → joined (cut_from most places frames) ≡ frames
in_order most [] places = refl
in_order most (frame ∷ frames) places =
    elim (cases_Bool (nat_lt 1 places && goes_on (frame ∷ []) frames)) [
      | inl goes ↦ rw (goes, joined_front) (ap (λ (x : List Frame). frame ∷ x) (in_order most frames (places - 1)))
      | inr stops ↦ rw stops (ap (λ (x : List Frame). frame ∷ x) (in_order most frames most))
    ]

each_of : (most places : ℕ) (pieces : List (List Frame)) → most ≤ 64 → places ≤ 64 → Good most places pieces → AllByRecursion IsPiece pieces
each_of most places [] m p h = tt
each_of most places (piece ∷ pieces) m p h = ((h.0, omega (arith, h.1)), each_of most most pieces m m h.3)

pub are_pieces : (most : ℕ) (frames : List Frame) → 0 < most → most ≤ 64 → AllByRecursion IsPiece (cut_from most most frames)
are_pieces most frames some few = each_of most most (cut_from most most frames) few few (good_from most frames most some some)

longest_of : (pieces : List (List Frame)) → Good 64 64 pieces → AreLongest pieces
longest_of [] h = tt
longest_of (piece ∷ []) h = tt
longest_of (piece ∷ next ∷ pieces) h = (h.2, longest_of (next ∷ pieces) h.3)

pub are_longest : (frames : List Frame) → AreLongest (cut_from 64 64 frames)
are_longest frames = longest_of (cut_from 64 64 frames) (good_from 64 frames 64 (omega arith) (omega arith))

-- ---- what is written, in one pass

-- how many frames a piece may have
abbrev pub most_of : (own peer : ℕ) → ℕ
most_of own peer = if nat_le 2 own && nat_le 2 peer then 64 else 1

alone_each : (own : ℕ) (frames : List Frame) → flat_map (piece_bytes own) (cut_from 1 1 frames) ≡ flat_map (frame_bytes_by own) frames
alone_each own [] = refl
alone_each own (frame ∷ frames) = ap (λ (x : List ℕ). frame_bytes_by own frame ++ x) (alone_each own frames)

pub written_from : (own peer : ℕ) (frames : List Frame) → written own peer frames ≡ flat_map (piece_bytes own) (cut_from (most_of own peer) (most_of own peer) frames)
written_from own peer frames =
    elim (cases_Bool (nat_le 2 own && nat_le 2 peer)) [
      | inl both ↦ rw both (ap (flat_map (piece_bytes own)) (sym (one_pass frames)))
      | inr one ↦ rw one (sym (alone_each own frames))
    ]

pub most_fits : (own peer : ℕ) → (0 < most_of own peer) × (most_of own peer ≤ 64)
most_fits own peer =
    elim (cases_Bool (nat_le 2 own && nat_le 2 peer)) [
      | inl both ↦ rw both (omega arith, omega arith)
      | inr one ↦ rw one (omega arith, omega arith)
    ]
