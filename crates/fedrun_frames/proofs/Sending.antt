-- What frames acknowledge, and the frames sent since, one after the other.
use Rattle.std.proofs.Common.{◌≡◌, ◌≢◌, ℕ, suc, ◌+◌, ◌-◌, ◌<◌, ◌≤◌, codes, List, [], ◌∷◌, ◌++◌, length, get_or, take, Option, None, Some, refl, sym, ap, ◌∙◌, subst, arith}
use Rattle.std.specs.Prelude.{unwrap_or}
use Rattle.std.proofs.lemmas.List.{take_more}
use Rattle.std.proofs.lemmas.Option.{slice_get-get_or}
use Rattle.std.specs.Io.KnownBytes.{Appends}
use Rattle.std.proofs.KnownBytes.{Appends-nil, Appends-trans}
use Rattle.std.proofs.lemmas.List.FromFn.{map-range_with_len_more}
use Rattle.network.specs.Undivided.{Row}
use Rattle.signal.specs.declared.frame.Frame.{Frame}
use Rattle.plan.specs.declared.draft.Draft.{Draft}
use Rattle.world_stations.specs.World.{frame_at}
use Rattle.world_stations.specs.Federation.{Federation}
use Rattle.files_text.specs.RowText.{printed_rows}
use Rattle.files_text.specs.PlanText.{printed_each}
use Rattle.fedrun_frames.specs.Brought.{acknowledged_by, acknowledged_last}
use Rattle.fedrun_frames.specs.declared.counts.LinkCounts.{LinkCounts}
use Rattle.fedrun_frames.specs.Each.{each_from}
use Rattle.fedrun_frames.specs.Accounts.{count_at, counts_in, row_text}

last_append : (i last : ℕ) (frames : List Frame) (frame : Frame)
    → acknowledged_last i last (frames ++ frame ∷ []) ≡ unwrap_or (acknowledged_by i (Some frame)) (acknowledged_last i last frames)
last_append i last [] frame = refl
last_append i last (first ∷ rest) frame = last_append i (unwrap_or (acknowledged_by i (Some first)) last) rest frame

-- what is acknowledged last, up to one frame more
pub last_more : (i : ℕ) (frames : List Frame) (place : ℕ) → place < length frames
    → acknowledged_last i 0 (take (place + 1) frames) ≡ unwrap_or (acknowledged_by i (frame_at frames (place + 1))) (acknowledged_last i 0 (take place frames))
last_more i [] place there = absurd (omega arith)
last_more i (first ∷ rest) place there =
    let frames : List Frame = first ∷ rest in
    let frame : Frame = get_or frames place first in
    let next : place + 1 ≡ suc place = omega arith in
    let at : frame_at frames (place + 1) ≡ Some frame = ap (frame_at frames) next ∙ slice_get-get_or frames place first there in
    ap (acknowledged_last i 0) (take_more frames place first there) ∙ last_append i 0 (take place frames) frame
    ∙ ap (λ (f : Option Frame). unwrap_or (acknowledged_by i f) (acknowledged_last i 0 (take place frames))) (sym at)

-- a frame that acknowledges something tells it, where those behind it acknowledge nothing
pub last_found : (i : ℕ) (frames : List Frame) (before : ℕ) (found : Option Frame) (answer : Option ℕ) (number : ℕ) → 0 < before → before ≤ length frames
    → acknowledged_last i 0 frames ≡ acknowledged_last i 0 (take before frames) → found ≡ frame_at frames (before - 1 + 1) → answer ≡ acknowledged_by i found
    → answer ≡ Some number → number ≡ acknowledged_last i 0 frames
last_found i frames before found answer number some within so_far is answers some_number =
    let place : ℕ = before - 1 in
    let next : before ≡ place + 1 = omega arith in
    let there : place < length frames = omega arith in
    let number_is : acknowledged_by i (frame_at frames (place + 1)) ≡ Some number = sym (ap (acknowledged_by i) is) ∙ sym answers ∙ some_number in
    sym
    (so_far ∙ ap (λ (k : ℕ). acknowledged_last i 0 (take k frames)) next ∙ last_more i frames place there
    ∙ ap (λ (o : Option ℕ). unwrap_or o (acknowledged_last i 0 (take place frames))) number_is)

-- one that acknowledges nothing is passed
pub last_passed : (i : ℕ) (frames : List Frame) (before : ℕ) (found : Option Frame) (answer : Option ℕ) → 0 < before → before ≤ length frames
    → acknowledged_last i 0 frames ≡ acknowledged_last i 0 (take before frames) → found ≡ frame_at frames (before - 1 + 1) → answer ≡ acknowledged_by i found
    → answer ≡ None → acknowledged_last i 0 frames ≡ acknowledged_last i 0 (take (before - 1) frames)
last_passed i frames before found answer some within so_far is answers none =
    let place : ℕ = before - 1 in
    let next : before ≡ place + 1 = omega arith in
    let there : place < length frames = omega arith in
    let nothing : acknowledged_by i (frame_at frames (place + 1)) ≡ None = sym (ap (acknowledged_by i) is) ∙ sym answers ∙ none in
    so_far ∙ ap (λ (k : ℕ). acknowledged_last i 0 (take k frames)) next ∙ last_more i frames place there
    ∙ ap (λ (o : Option ℕ). unwrap_or o (acknowledged_last i 0 (take place frames))) nothing

-- texts of numbers, and that of one number more
pub each_more : (text : ℕ → List ℕ) (count more : ℕ) (a b c : Option (List ℕ)) → more ≡ count + 1 → Appends a b (printed_each text count)
    → Appends b c (text count) → Appends a c (printed_each text more)
each_more text count more a b c is first one =
    let next : more ≡ suc count = omega arith in
    subst (λ (n : ℕ). Appends a c (printed_each text n)) (sym next) (Appends-trans a b c _ _ first one)

-- the texts of the numbers from `first` on were written, up to this one
pub record UpTo (text : ℕ → List ℕ) (first end at : ℕ) (a b : Option (List ℕ)) : Type 0 where
  pub few : at - first ≤ end - first
  pub written : Appends a b (each_from text first at)

-- one more was written
pub up_to_next : (text : ℕ → List ℕ) (first end at : ℕ) (a b c : Option (List ℕ)) → first ≤ at → at < end → UpTo text first end at a b → Appends b c (text at)
    → UpTo text first end (at + 1) a c
up_to_next text first end at a b c from there so_far one =
    let here : at ≡ first + (at - first) = omega arith in
    let more : at + 1 - first ≡ (at - first) + 1 = omega arith in
    record {
      few = omega arith;
      written =
          each_more (λ i. text (first + i)) (at - first) (at + 1 - first) a b c more so_far.written
          (subst (λ (k : ℕ). Appends b c (text k)) here one);
    }

-- one frame more was written, which is this one
pub frame_next : (text : ℕ → Option Frame → List ℕ) (frames : List Frame) (gone before : ℕ) (found : Option Frame) (a b c : Option (List ℕ)) → gone ≤ before
    → before < length frames → found ≡ frame_at frames (before + 1) → UpTo (λ i. text (i + 1) (frame_at frames (i + 1))) gone (length frames) before a b
    → Appends b c (text (before + 1) found) → UpTo (λ i. text (i + 1) (frame_at frames (i + 1))) gone (length frames) (before + 1) a c
frame_next text frames gone before found a b c from there is so_far one =
    up_to_next (λ i. text (i + 1) (frame_at frames (i + 1))) gone (length frames) before a b c from there so_far
    (subst (λ (f : Option Frame). Appends b c (text (before + 1) f)) is one)

-- how many frames were sent over one link more
pub counts_more : (w : Federation) (count : ℕ) (before after : List LinkCounts) (x : LinkCounts) → after ≡ before ++ x ∷ [] → x ≡ count_at w count
    → before ≡ counts_in w count → after ≡ counts_in w (count + 1)
counts_more w count before after x is new so_far =
    is ∙ ap (λ (xs : List LinkCounts). xs ++ x ∷ []) so_far ∙ ap (λ (y : LinkCounts). counts_in w count ++ y ∷ []) new
    ∙ sym (map-range_with_len_more (count_at w) 0 count count (omega arith))

-- the row of a turn, where there is one
pub row_is : (d : Draft) (rows : List Row) → length rows ≢ 0 → row_text d rows ≡ codes "  " ++ printed_rows d.federates rows
row_is d [] some = absurd (some refl)
row_is d (row ∷ rest) some = refl
