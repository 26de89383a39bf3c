-- Link ends at their peers' places, and one of them changed.
use Rattle.std.proofs.Common.{◌≡◌, ◌≢◌, ℕ, suc, zero, ◌+◌, ◌<◌, ◌≤◌, true, false, List, [], ◌∷◌, ◌++◌, length, set, get_or, slice_get, option_map, Some, Result, Ok, Err, is_ok, if◌then◌else◌, nat_eq, refl, arith}
use Rattle.std.proofs.lemmas.List.{map-set, length_push}
use Rattle.std.proofs.lemmas.Option.{slice_get-map, slice_get-get_or}
use Rattle.signal.specs.declared.signal.Signal.{Signal}
use Rattle.signal.specs.declared.frame.Frame.{Frame}
use Rattle.link.specs.declared.fault.LinkFault.{LinkFault}
use Rattle.link.specs.Image.{Image, EndView, offer_of, after_offer}
use Rattle.protocol.specs.declared.post.Post.{Post}
use Rattle.node.specs.declared.outgoing.Outgoing.{Outgoing}
use Rattle.node.specs.Mail.{posted, count_for, lacks, lacks_at, some_lacks, lacks_room}
use Rattle.node.specs.Box.{images, reserves, reserved_at}

pub images_set : (xs : List EndView) (i : ℕ) (y : EndView) → images (set xs i y) ≡ set (images xs) i y.image
images_set xs i y = map-set (λ e. e.image) xs i y

pub images_get : (xs : List EndView) (i : ℕ) → slice_get (images xs) i ≡ option_map (λ e. e.image) (slice_get xs i)
images_get xs i = slice_get-map (λ e. e.image) xs i

pub images_same : (xs : List EndView) (i : ℕ) (x y : EndView) → slice_get xs i ≡ Some x → y.image ≡ x.image → images (set xs i y) ≡ images xs
images_same [] i x y found same = refl
images_same (a ∷ xs) zero x y found same = grind arith
images_same (a ∷ xs) (suc i) x y found same = grind (arith, images_same xs i x y found same)

pub reserved_then : (xs : List EndView) (i : ℕ) (x y : EndView) (k : ℕ) → slice_get xs i ≡ Some x → x.reserved ≤ y.reserved + k →
    (p : ℕ) → reserved_at (reserves xs) p ≤ reserved_at (reserves (set xs i y)) p + (if nat_eq p i then k else 0)
reserved_then [] i x y k found less p = grind arith
reserved_then (a ∷ xs) zero x y k found less zero = grind arith
reserved_then (a ∷ xs) zero x y k found less (suc p) = grind arith
reserved_then (a ∷ xs) (suc i) x y k found less zero = grind arith
reserved_then (a ∷ xs) (suc i) x y k found less (suc p) = grind (arith, reserved_then xs i x y k found less p)

pub reserved_here : (xs : List EndView) (i : ℕ) (x y : EndView) → slice_get xs i ≡ Some x → reserved_at (reserves (set xs i y)) i ≡ y.reserved
reserved_here [] i x y found = grind arith
reserved_here (a ∷ xs) zero x y found = refl
reserved_here (a ∷ xs) (suc i) x y found = reserved_here xs i x y found

-- room at an end that stands at its place
pub lacks_here : (xs : List EndView) (i : ℕ) (x : EndView) (count : ℕ) → slice_get xs i ≡ Some x → lacks_at i count (images xs) ≡ lacks x.image count
lacks_here xs i x count found = rw (images_get xs i, found) refl

-- what a look at a place tells
pub found_at : (xs : List EndView) (i : ℕ) (x : EndView) → i < length xs → x ≡ get_or xs i x → slice_get xs i ≡ Some x
found_at xs i x within is = rw (slice_get-get_or xs i x within, ← is) refl

-- a signal is offered at an end
pub posted_frame : (xs : List EndView) (i : ℕ) (x y : EndView) (signal : Signal) (frame : Frame) (frames : List Outgoing) → slice_get xs i ≡ Some x →
    offer_of x.image signal ≡ Ok frame → y.image ≡ after_offer x.image signal →
    posted (record { ends = images xs; frames = frames }) (record { peer = i; signal = signal }) ≡
    record { ends = images (set xs i y); frames = frames ++ record { peer = i; frame = frame } ∷ [] }
posted_frame xs i x y signal frame frames found offered after =
    rw (images_get xs i, found, offered, images_set xs i y, after) refl

-- an end refuses it
pub posted_nothing : (xs : List EndView) (i : ℕ) (x y : EndView) (signal : Signal) (frames : List Outgoing) → slice_get xs i ≡ Some x →
    is_ok (offer_of x.image signal) ≡ false → y.image ≡ x.image →
    posted (record { ends = images xs; frames = frames }) (record { peer = i; signal = signal }) ≡ record { ends = images (set xs i y); frames = frames }
posted_nothing xs i x y signal frames found refuses same =
    rw (images_get xs i, found, refuses, images_same xs i x y found same) refl

-- where memory was reserved, an end refuses for its own reasons alone
pub no_offer : (x : EndView) (signal : Signal) (result : Result Frame LinkFault) (fault : LinkFault) → result ≡ Err fault →
    (x.image.closed ≡ false → 0 < x.reserved) → (0 < x.reserved → result ≢ Err LinkFault.Memory) →
    (result ≢ Err LinkFault.Memory → result ≡ offer_of x.image signal) → is_ok (offer_of x.image signal) ≡ false
no_offer x signal result fault err unless_closed from_reserve answer = grind arith

-- no end lacks room for the posts to it
pub none_lacks : (k : ℕ) (ends : List Image) (posts : List Post) → ((p : ℕ) → lacks_at p (count_for (k + p) posts) ends ≡ false) → some_lacks k ends posts ≡ false
none_lacks k [] posts each = refl
none_lacks k (e ∷ ends) posts each =
    let here : lacks e (count_for k posts) ≡ false = grind (arith, each 0) in
    let rest = none_lacks (k + 1) ends posts (λ p. let e : (k + 1) + p ≡ k + suc p = omega arith in rw e (each (suc p))) in
    rw (here, rest) refl

pub each_has : (k : ℕ) (ends : List Image) (posts : List Post) → some_lacks k ends posts ≡ false → (p : ℕ) → lacks_at p (count_for (k + p) posts) ends ≡ false
each_has k [] posts none p = refl
each_has k (e ∷ ends) posts none zero = grind arith
each_has k (e ∷ ends) posts none (suc p) =
    let sum : k + suc p ≡ (k + 1) + p = omega arith in
    let rest : some_lacks (k + 1) ends posts ≡ false = grind arith in
    rw sum (each_has (k + 1) ends posts rest p)

-- what a post leaves at an end
pub lacks_less : (e : Image) (signal : Signal) (count : ℕ) → is_ok (offer_of e signal) ≡ true → lacks e (1 + count) ≡ false → lacks (after_offer e signal) count ≡ false
lacks_less e signal count offered has = grind (arith, length_push e.kept signal)

pub all_have : (ends : List Image) (posts : List Post) → lacks_room ends posts ≡ false → (p : ℕ) → lacks_at p (count_for p posts) ends ≡ false
all_have ends posts none p = let z : 0 + p ≡ p = omega arith in let h = each_has 0 ends posts none p in rw z at h

pub room_for_all : (ends : List Image) (posts : List Post) → ((p : ℕ) → lacks_at p (count_for p posts) ends ≡ false) → lacks_room ends posts ≡ false
room_for_all ends posts each = none_lacks 0 ends posts (λ p. let z : 0 + p ≡ p = omega arith in rw z (each p))

pub no_posts : (k : ℕ) (ends : List Image) → some_lacks k ends [] ≡ false
no_posts k [] = refl
no_posts k (e ∷ ends) = let rest = no_posts (k + 1) ends in let here : lacks e 0 ≡ false = grind arith in rw (here, rest) refl
