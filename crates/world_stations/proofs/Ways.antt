-- The frames of all directions: one of them longer, and the memory that is left.
use Rattle.std.proofs.Common.{◌≡◌, ℕ, zero, suc, ◌+◌, ◌<◌, ◌≤◌, true, List, [], ◌∷◌, ◌++◌, length, map, set, get_or, slice_get, Option, None, Some, option_map, IfSome, if◌then◌else◌, nat_eq, refl, sym, ap, arith}
use Rattle.std.specs.Borrow.{Bor}
use Rattle.std.specs.Slice.{IsItemAt}
use Rattle.std.proofs.lemmas.Bool.Decides.{nat_tests}
use Rattle.std.proofs.lemmas.List.{map-set, map-append, append_assoc, append-nil}
use Rattle.std.proofs.lemmas.Option.{slice_get_read, slice_get_past}
use Rattle.signal.specs.declared.frame.Frame.{Frame}
use Rattle.node.specs.declared.outgoing.Outgoing.{Outgoing}
use Rattle.world_stations.specs.World.{sent_out}
use Rattle.world_stations.specs.Room.{count_to, SentView, frames_of_each, spare_at, NoneLost, Fits}

-- what a look at a place tells
pub found_at : {X : Type 0} (xs : List X) (i : ℕ) (x : X) → i < length xs → x ≡ get_or xs i x → slice_get xs i ≡ Some x
found_at xs i x within is = slice_get_read xs (length xs) i x refl within is

-- the same of what it passes on
pub found_in : {X : Type 0} (xs : List X) (i : ℕ) (r : Option (Bor X)) → IsItemAt xs i r → option_map (λ (x : Bor X). x.now) r ≡ slice_get xs i
found_in xs i None is = sym (slice_get_past xs i is.3)
found_in xs i (Some x) is = sym (found_at xs i x.now is.3.0 is.1)

pub there_in : {X : Type 0} (xs : List X) (i : ℕ) (r : Option (Bor X)) → IsItemAt xs i r → IfSome r (λ _. i < length xs)
there_in xs i None is = tt
there_in xs i (Some x) is = is.3.0

pub frames_set : (xs : List SentView) (i : ℕ) (y : SentView) → frames_of_each (set xs i y) ≡ set (frames_of_each xs) i y.frames
frames_set xs i y = map-set (λ s. s.frames) xs i y

pub frames_get : (xs : List SentView) (i : ℕ) (x : SentView) → slice_get xs i ≡ Some x → get_or (frames_of_each xs) i [] ≡ x.frames
frames_get [] i x found = grind arith
frames_get (a ∷ xs) zero x found = grind arith
frames_get (a ∷ xs) (suc i) x found = frames_get xs i x found

pub frames_same : (xs : List SentView) (i : ℕ) (x y : SentView) → slice_get xs i ≡ Some x → y.frames ≡ x.frames → frames_of_each (set xs i y) ≡ frames_of_each xs
frames_same [] i x y found same = refl
frames_same (a ∷ xs) zero x y found same = grind arith
frames_same (a ∷ xs) (suc i) x y found same = grind (arith, frames_same xs i x y found same)

pub spare_get : (xs : List SentView) (i : ℕ) (x : SentView) → slice_get xs i ≡ Some x → spare_at xs i ≡ x.spare
spare_get [] i x found = grind arith
spare_get (a ∷ xs) zero x found = grind arith
spare_get (a ∷ xs) (suc i) x found = spare_get xs i x found

pub spare_here : (xs : List SentView) (i : ℕ) (x y : SentView) → slice_get xs i ≡ Some x → spare_at (set xs i y) i ≡ y.spare
spare_here [] i x y found = grind arith
spare_here (a ∷ xs) zero x y found = refl
spare_here (a ∷ xs) (suc i) x y found = spare_here xs i x y found

pub spare_more : (xs : List SentView) (i : ℕ) (x y : SentView) → slice_get xs i ≡ Some x → x.spare ≤ y.spare → NoneLost xs (set xs i y)
spare_more [] i x y found more j = omega arith
spare_more (a ∷ xs) zero x y found more zero = grind (arith, more)
spare_more (a ∷ xs) zero x y found more (suc j) = omega arith
spare_more (a ∷ xs) (suc i) x y found more zero = omega arith
spare_more (a ∷ xs) (suc i) x y found more (suc j) = spare_more xs i x y found more j

pub spare_used : (xs : List SentView) (i : ℕ) (x y : SentView) → slice_get xs i ≡ Some x → y.spare + 1 ≡ x.spare →
    (j : ℕ) → spare_at xs j ≤ spare_at (set xs i y) j + (if nat_eq i j then 1 else 0)
spare_used [] i x y found less j = grind arith
spare_used (a ∷ xs) zero x y found less zero = grind arith
spare_used (a ∷ xs) zero x y found less (suc j) = grind arith
spare_used (a ∷ xs) (suc i) x y found less zero = grind arith
spare_used (a ∷ xs) (suc i) x y found less (suc j) = grind (arith, spare_used xs i x y found less j)

-- a frame is put in the direction at a place
pub put_frames : (xs : List SentView) (i : ℕ) (x y : SentView) (frame : Frame) → slice_get xs i ≡ Some x → y.frames ≡ x.frames ++ frame ∷ [] →
    frames_of_each (set xs i y) ≡ set (frames_of_each xs) i (get_or (frames_of_each xs) i [] ++ frame ∷ [])
put_frames xs i x y frame found put = rw (frames_set xs i y, put, frames_get xs i x found) refl

-- frames in turn
pub sent_out_push : (lists : List (List Frame)) (outs : List Outgoing) (out : Outgoing) →
    sent_out lists (outs ++ out ∷ []) ≡ set (sent_out lists outs) out.peer (get_or (sent_out lists outs) out.peer [] ++ out.frame ∷ [])
sent_out_push lists [] out = refl
sent_out_push lists (first ∷ outs) out = sent_out_push (set lists first.peer (get_or lists first.peer [] ++ first.frame ∷ [])) outs out

pub fits_first : (sent : List SentView) (out : Outgoing) (rest all : List Outgoing) → all ≡ out ∷ rest → Fits all sent → out.peer < length sent → 0 < spare_at sent out.peer
fits_first sent out rest all is fits within =
    let here = fits out.peer within in
    let count = ap (count_to out.peer) is in
    let itself : nat_eq out.peer out.peer ≡ true = grind (arith, nat_tests) in
    grind (arith, here, itself, count)

pub fits_rest : (sent later : List SentView) (out : Outgoing) (rest all : List Outgoing) → all ≡ out ∷ rest → Fits all sent → length later ≡ length sent →
    ((j : ℕ) → spare_at sent j ≤ spare_at later j + (if nat_eq out.peer j then 1 else 0)) → Fits rest later
fits_rest sent later out rest all is fits same used j within =
    let before = fits j (omega arith) in
    let count = ap (count_to j) is in
    let here = used j in
    omega arith

-- a frame more, and a place less at most
pub used_then : (before sent later : List SentView) (i k : ℕ) → ((j : ℕ) → spare_at before j ≤ spare_at sent j + k) →
    ((j : ℕ) → spare_at sent j ≤ spare_at later j + (if nat_eq i j then 1 else 0)) → (j : ℕ) → spare_at before j ≤ spare_at later j + (k + 1)
used_then before sent later i k few used j =
    let so_far = few j in
    let here = used j in
    let one : (if nat_eq i j then 1 else 0) ≤ 1 = grind arith in
    omega arith

-- a list that is replaced twice
pub set_again : (lists : List (List Frame)) (i : ℕ) (frames more : List Frame) →
    set (set lists i frames) i (get_or (set lists i frames) i [] ++ more) ≡ set lists i (frames ++ more)
set_again [] i frames more = refl
set_again (a ∷ lists) zero frames more = refl
set_again (a ∷ lists) (suc i) frames more = ap (λ (l : List (List Frame)). a ∷ l) (set_again lists i frames more)

-- a list that is replaced by itself
pub set_same : (lists : List (List Frame)) (i : ℕ) → set lists i (get_or lists i [] ++ []) ≡ lists
set_same [] i = refl
set_same (a ∷ lists) zero = ap (λ (l : List Frame). l ∷ lists) (append-nil a)
set_same (a ∷ lists) (suc i) = ap (λ (l : List (List Frame)). a ∷ l) (set_same lists i)

-- one frame more in the one direction
pub all_more : (before now later : List (List Frame)) (i : ℕ) (some more : List Outgoing) (out : Outgoing) → more ≡ some ++ out ∷ [] →
    now ≡ set before i (get_or before i [] ++ map (λ o. o.frame) some) → later ≡ set now i (get_or now i [] ++ out.frame ∷ []) →
    later ≡ set before i (get_or before i [] ++ map (λ o. o.frame) more)
all_more before now later i some more out is put then_put =
    let again = set_again before i (get_or before i [] ++ map (λ o. o.frame) some) (out.frame ∷ []) in
    let frames = map-append (λ (o : Outgoing). o.frame) some (out ∷ []) in
    let joined = append_assoc (get_or before i []) (map (λ o. o.frame) some) (out.frame ∷ []) in
    rw (then_put, put, is, again, frames, joined) refl

pub fits_less : (sent later : List SentView) (i : ℕ) (out : Outgoing) (rest all : List Outgoing) → all ≡ out ∷ rest → (i < length sent → length all ≤ spare_at sent i) →
    length later ≡ length sent → ((j : ℕ) → spare_at sent j ≤ spare_at later j + (if nat_eq i j then 1 else 0)) → i < length later → length rest ≤ spare_at later i
fits_less sent later i out rest all is fits same used within =
    let before = fits (omega arith) in
    let here = used i in
    let long = ap length is in
    let one : (if nat_eq i i then 1 else 0) ≤ 1 = grind arith in
    omega arith
