-- A piece at the front of a list of frames, and what is left behind it.
use Rattle.std.proofs.Common.{◌≡◌, ℕ, ◌+◌, ◌-◌, ◌<◌, ◌≤◌, true, false, List, [], ◌∷◌, ◌++◌, length, take, drop, get_or, refl, sym, ap, subst, ◌∙◌, arith, ◌⊎◌, inl, inr, append_assoc}
use Rattle.std.proofs.lemmas.List.{append-nil, nil_from_length, take_more, drop_more, drop_all, take-append-drop, length-take-le}
use Rattle.std.specs.List.{flat_map, AllByRecursion}
use Rattle.signal.specs.declared.frame.Frame.{Frame}
use Rattle.signal.specs.Frame.{IsFrame}
use Rattle.signal.specs.Pieces.{follows, goes_on, IsStretch, piece_bytes, written}
use Rattle.signal.proofs.Cutting.{cut_from, one_piece, nothing_behind, most_of, written_from}

-- a frame that goes on with the last one
stretch_push : (front : List Frame) (f g : Frame) → IsStretch (front ++ f ∷ []) → follows f g ≡ true → IsStretch ((front ++ f ∷ []) ++ g ∷ [])
stretch_push [] f g h e = (e, tt)
stretch_push (x ∷ []) f g h e = (h.0, (e, tt))
stretch_push (x ∷ y ∷ front) f g h e = (h.0, stretch_push (y ∷ front) f g h.1 e)

-- only the last frame counts
last_counts : (front : List Frame) (f : Frame) (behind : List Frame) → goes_on (front ++ f ∷ []) behind ≡ goes_on (f ∷ []) behind
last_counts [] f behind = refl
last_counts (x ∷ []) f behind = refl
last_counts (x ∷ y ∷ front) f behind = last_counts (y ∷ front) f behind

-- the first frames, by the last of them
last_of : (frames : List Frame) (size : ℕ) (f : Frame) → 0 < size → size ≤ length frames → f ≡ get_or frames (size - 1) f → take size frames ≡ take (size - 1) frames ++ f ∷ []
last_of frames size f some fits e =
    let same : size ≡ size - 1 + 1 = omega arith in
    ap (λ (n : ℕ). take n frames) same ∙ take_more frames (size - 1) f (omega arith) ∙ ap (λ (x : Frame). take (size - 1) frames ++ x ∷ []) (sym e)

-- one frame more
pub longer : (frames : List Frame) (size : ℕ) (f g : Frame) → 0 < size → size < length frames → f ≡ get_or frames (size - 1) f → g ≡ get_or frames size g → follows f g ≡ true
    → IsStretch (take size frames) → IsStretch (take (size + 1) frames)
longer frames size f g some fits e d goes h =
    let front : take size frames ≡ take (size - 1) frames ++ f ∷ [] = last_of frames size f some (omega arith) e in
    let more : take (size + 1) frames ≡ (take (size - 1) frames ++ f ∷ []) ++ g ∷ [] =
    take_more frames size g fits ∙ ap (λ (x : Frame). take size frames ++ x ∷ []) (sym d) ∙ ap (λ (l : List Frame). l ++ g ∷ []) front in
    subst IsStretch (sym more) (stretch_push (take (size - 1) frames) f g (subst IsStretch front h) goes)

-- nothing is left, or what is left doesn't go on
pub at_end : (frames : List Frame) (size : ℕ) → length frames ≤ size → goes_on (take size frames) (drop size frames) ≡ false
at_end frames size past = ap (goes_on (take size frames)) (drop_all size frames past) ∙ nothing_behind (take size frames)

pub stops : (frames : List Frame) (size : ℕ) (f g : Frame) → 0 < size → size < length frames → f ≡ get_or frames (size - 1) f → g ≡ get_or frames size g → follows f g ≡ false
    → goes_on (take size frames) (drop size frames) ≡ false
stops frames size f g some fits e d apart =
    let front : take size frames ≡ take (size - 1) frames ++ f ∷ [] = last_of frames size f some (omega arith) e in
    let left : drop size frames ≡ g ∷ drop (size + 1) frames = drop_more frames size g fits ∙ ap (λ (x : Frame). x ∷ drop (size + 1) frames) (sym d) in
    ap (λ (l : List Frame). goes_on l (drop size frames)) front ∙ last_counts (take (size - 1) frames) f (drop size frames) ∙ ap (goes_on (f ∷ [])) left ∙ apart

-- ---- a piece is written

-- what is still to be written completes it
abbrev Completes : (own most : ℕ) (bytes : List ℕ) (frames : List Frame) (all : List ℕ) → Type 0
Completes own most bytes frames all = bytes ++ flat_map (piece_bytes own) (cut_from most most frames) ≡ all

pub piece_written : (own most size : ℕ) (frames piece behind : List Frame) (bytes new all : List ℕ) → piece ≡ take size frames → behind ≡ drop size frames → size ≤ length frames → size ≤ most → IsStretch (take size frames)
    → (size ≡ most) ⊎ (goes_on (take size frames) (drop size frames) ≡ false) → new ≡ bytes ++ piece_bytes own piece → Completes own most bytes frames all → Completes own most new behind all
piece_written own most size frames piece behind bytes new all p b fits few stretch longest n h =
    let long : length (take size frames) ≡ size = length-take-le size frames fits in
    let parts : frames ≡ take size frames ++ drop size frames = sym (take-append-drop size frames) in
    let cut : cut_from most most frames ≡ take size frames ∷ cut_from most most (drop size frames) =
    ap (cut_from most most) parts ∙ one_piece most most (take size frames) (drop size frames) stretch (omega arith) (full longest) in
    let rest = flat_map (piece_bytes own) (cut_from most most (drop size frames)) in
    ap (λ (l : List Frame). new ++ flat_map (piece_bytes own) (cut_from most most l)) b ∙ ap (λ (l : List ℕ). l ++ rest) (n ∙ ap (λ (l : List Frame). bytes ++ piece_bytes own l) p)
    ∙ append_assoc bytes (piece_bytes own (take size frames)) rest ∙ sym (ap (λ (l : List (List Frame)). bytes ++ flat_map (piece_bytes own) l) cut) ∙ h
  where
    full : (size ≡ most) ⊎ (goes_on (take size frames) (drop size frames) ≡ false) → (length (take size frames) ≡ most) ⊎ (goes_on (take size frames) (drop size frames) ≡ false)
    full (inl e) = inl (length-take-le size frames fits ∙ e)
    full (inr e) = inr e

-- its frames are frames, and so are all if those behind it are
pub frames_join : (size : ℕ) (frames piece behind : List Frame) → piece ≡ take size frames → behind ≡ drop size frames → AllByRecursion IsFrame piece → AllByRecursion IsFrame behind → AllByRecursion IsFrame frames
frames_join size frames piece behind p b some others =
    subst (AllByRecursion IsFrame) (take-append-drop size frames) (by (take size frames) (drop size frames) (subst (AllByRecursion IsFrame) p some) (subst (AllByRecursion IsFrame) b others))
  where
    by : (xs ys : List Frame) → AllByRecursion IsFrame xs → AllByRecursion IsFrame ys → AllByRecursion IsFrame (xs ++ ys)
    by [] ys h k = k
    by (x ∷ xs) ys h k = (h.0, by xs ys h.1 k)

-- nothing is left to be written
pub all_done : (own peer most : ℕ) (bytes old : List ℕ) (left frames : List Frame) → length left ≡ 0 → most ≡ most_of own peer
    → bytes ++ flat_map (piece_bytes own) (cut_from most most left) ≡ old ++ flat_map (piece_bytes own) (cut_from most most frames) → bytes ≡ old ++ written own peer frames
all_done own peer most bytes old left frames none most-is h =
    let empty : left ≡ [] = nil_from_length left none in
    let end : bytes ++ flat_map (piece_bytes own) (cut_from most most left) ≡ bytes = ap (λ (l : List Frame). bytes ++ flat_map (piece_bytes own) (cut_from most most l)) empty ∙ append-nil bytes in
    sym end ∙ h ∙ ap (λ (m : ℕ). old ++ flat_map (piece_bytes own) (cut_from m m frames)) most-is ∙ ap (λ (l : List ℕ). old ++ l) (sym (written_from own peer frames))

pub no_more_frames : (left : List Frame) → length left ≡ 0 → AllByRecursion IsFrame left
no_more_frames left none = subst (AllByRecursion IsFrame) (sym (nil_from_length left none)) tt
