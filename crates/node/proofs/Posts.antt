-- What posts make of the link ends, and that what was reserved for several serves them one after the other.
use Rattle.std.proofs.Common.{◌≡◌, ◌⊎◌, inl, inr, ℕ, suc, zero, ◌+◌, ◌<◌, ◌≤◌, Bool, true, false, List, [], ◌∷◌, ◌++◌, map, set, slice_get, option_map, Option, Some, None, is_ok, if◌then◌else◌, nat_eq, refl, ap, arith}
use Rattle.std.proofs.lemmas.Option.{slice_get-map}
use Rattle.signal.specs.declared.signal.Signal.{Signal}
use Rattle.signal.specs.declared.frame.Frame.TheVariants.{Data}
use Rattle.link.specs.Image.{Image, offer_of, after_offer, answer_of}
use Rattle.protocol.specs.declared.post.Post.{Post}
use Rattle.node.specs.declared.outgoing.Outgoing.{Outgoing}
use Rattle.node.specs.Mail.{Mail, posted, offered_at, all_posted, framed, count_for, lacks, lacks_at, peer_lacks, lacks_room, bare}
use Rattle.node.specs.Box.{Outbox, HasMemory, IsReady, IsReadyFor, reserved_at}
use Rattle.node.proofs.Ends.{all_have, room_for_all, lacks_less}

-- posts in turn
pub all_posted_push : (m : Mail) (posts : List Post) (post : Post) → all_posted m (posts ++ post ∷ []) ≡ posted (all_posted m posts) post
all_posted_push m [] post = refl
all_posted_push m (first ∷ posts) post = all_posted_push (posted m first) posts post

-- an end is replaced by one that differs in what it keeps alone
pub set_bare : (ends : List Image) (i : ℕ) (e f : Image) → slice_get ends i ≡ Some e → bare f ≡ bare e → map bare (set ends i f) ≡ map bare ends
set_bare [] i e f found same = refl
set_bare (a ∷ ends) zero e f found same = grind arith
set_bare (a ∷ ends) (suc i) e f found same = grind (arith, set_bare ends i e f found same)

offered_if : (b : Bool) (m : Mail) (i : ℕ) (e f : Image) (frames : List Outgoing) → slice_get m.ends i ≡ Some e → bare f ≡ bare e →
    map bare (if b then record { ends = set m.ends i f; frames = frames } else m).ends ≡ map bare m.ends
offered_if true m i e f frames found same = set_bare m.ends i e f found same
offered_if false m i e f frames found same = refl

offered_bare : (m : Mail) (i : ℕ) (signal : Signal) (o : Option Image) → slice_get m.ends i ≡ o → map bare (offered_at m i signal o).ends ≡ map bare m.ends
offered_bare m i signal None is = refl
offered_bare m i signal (Some e) is =
    offered_if (is_ok (offer_of e signal)) m i e (after_offer e signal) (m.frames ++ framed i (offer_of e signal)) is refl

-- a post changes at the ends what they keep alone
pub posted_bare : (m : Mail) (post : Post) → map bare (posted m post).ends ≡ map bare m.ends
posted_bare m post = offered_bare m post.peer post.signal (slice_get m.ends post.peer) refl

pub all_posted_bare : (m : Mail) (posts : List Post) → map bare (all_posted m posts).ends ≡ map bare m.ends
all_posted_bare m [] = refl
all_posted_bare m (post ∷ posts) = grind (arith, all_posted_bare (posted m post) posts, posted_bare m post)

some_of : (o : Option Image) (b : Image) → option_map bare o ≡ Some b → (y : Image) × (o ≡ Some y) × (bare y ≡ b)
some_of None b is = let bad : ⊥ = grind arith in absurd bad
some_of (Some y) b is = (y, refl, grind arith)

-- the end that stood at a place before
pub bare_at : (xs ys : List Image) → map bare xs ≡ map bare ys → (p : ℕ) (x : Image) → slice_get xs p ≡ Some x →
    (y : Image) × (slice_get ys p ≡ Some y) × (bare y ≡ bare x)
bare_at xs ys same p x found =
    some_of (slice_get ys p) (bare x) (grind (arith, slice_get-map bare xs p, slice_get-map bare ys p, same, found))

-- a signal in its turn is in its turn after posts too
pub still_answers : (x y : Image) (incarnation number : ℕ) (signal : Signal) → bare y ≡ bare x →
    answer_of x (Data incarnation number signal) ≡ answer_of y (Data incarnation number signal)
still_answers x y incarnation number signal same =
    let f : y.federate ≡ x.federate = ap (λ e. e.federate) same in
    let i : y.incarnation ≡ x.incarnation = ap (λ e. e.incarnation) same in
    let t : y.taken ≡ x.taken = ap (λ e. e.taken) same in
    let c : y.closed ≡ x.closed = ap (λ e. e.closed) same in
    grind (arith, f, i, t, c)

-- fewer signals need no more room
fewer : (o : Option Image) (few many : ℕ) → few ≤ many → peer_lacks o many ≡ false → peer_lacks o few ≡ false
fewer None few many less has = refl
fewer (Some e) few many less has = grind arith

set_lacks : (ends : List Image) (i : ℕ) (e f : Image) (count : ℕ) → slice_get ends i ≡ Some e → (lacks e (1 + count) ≡ false → lacks f count ≡ false) →
    (p : ℕ) → lacks_at p ((if nat_eq i p then 1 else 0) + count) ends ≡ false → lacks_at p count (set ends i f) ≡ false
set_lacks [] i e f count found less p has = refl
set_lacks (a ∷ ends) zero e f count found less zero has = grind arith
set_lacks (a ∷ ends) zero e f count found less (suc p) has = grind arith
set_lacks (a ∷ ends) (suc i) e f count found less zero has = grind arith
set_lacks (a ∷ ends) (suc i) e f count found less (suc p) has = grind (arith, set_lacks ends i e f count found less p)

lacks_if : (b : Bool) (m : Mail) (i : ℕ) (e f : Image) (frames : List Outgoing) (count : ℕ) → slice_get m.ends i ≡ Some e →
    (b ≡ true → lacks e (1 + count) ≡ false → lacks f count ≡ false) →
    (p : ℕ) → lacks_at p ((if nat_eq i p then 1 else 0) + count) m.ends ≡ false →
    lacks_at p count (if b then record { ends = set m.ends i f; frames = frames } else m).ends ≡ false
lacks_if true m i e f frames count found less p has = set_lacks m.ends i e f count found (less refl) p has
lacks_if false m i e f frames count found less p has = fewer (slice_get m.ends p) count ((if nat_eq i p then 1 else 0) + count) (omega arith) has

offered_lacks : (m : Mail) (i : ℕ) (signal : Signal) (o : Option Image) (count : ℕ) → slice_get m.ends i ≡ o →
    (p : ℕ) → lacks_at p ((if nat_eq i p then 1 else 0) + count) m.ends ≡ false → lacks_at p count (offered_at m i signal o).ends ≡ false
offered_lacks m i signal None count is p has = fewer (slice_get m.ends p) count ((if nat_eq i p then 1 else 0) + count) (omega arith) has
offered_lacks m i signal (Some e) count is p has =
    lacks_if (is_ok (offer_of e signal)) m i e (after_offer e signal) (m.frames ++ framed i (offer_of e signal)) count is
    (λ offered. lacks_less e signal count offered) p has

-- a post uses one place at its peer's end
pub posted_lacks : (m : Mail) (post : Post) (p count : ℕ) → lacks_at p ((if nat_eq post.peer p then 1 else 0) + count) m.ends ≡ false →
    lacks_at p count (posted m post).ends ≡ false
posted_lacks m post p count has = offered_lacks m post.peer post.signal (slice_get m.ends post.peer) count refl p has

pub posted_memory : (m : Mail) (post : Post) (before after : List ℕ) (p count : ℕ) → HasMemory m.ends before p ((if nat_eq post.peer p then 1 else 0) + count) →
    reserved_at before p ≤ reserved_at after p + (if nat_eq p post.peer then 1 else 0) → HasMemory (posted m post).ends after p count
posted_memory m post before after p count has less e found unclosed =
    let b = bare_at (posted m post).ends m.ends (posted_bare m post) p e found in
    let same : b.0.closed ≡ e.closed = ap (λ e. e.closed) b.2 in
    let enough = has b.0 b.1 (grind (arith, same, unclosed)) in
    grind (arith, enough, less)

pub count_more : (p : ℕ) (post : Post) (rest : List Post) → count_for p (post ∷ rest) ≡ (if nat_eq post.peer p then 1 else 0) + count_for p rest
count_more p post rest = grind arith

count_own : (post : Post) (rest : List Post) → 1 ≤ count_for post.peer (post ∷ rest)
count_own post rest = grind (arith, count_more post.peer post rest)

-- what is reserved for several serves the first of them
pub ready_first : (b : Outbox) (post : Post) (rest : List Post) → IsReady b (post ∷ rest) → IsReadyFor b post.peer 1
ready_first b post rest ready = record {
  room = fewer (slice_get b.mail.ends post.peer) 1 (count_for post.peer (post ∷ rest)) (count_own post rest)
      (all_have b.mail.ends (post ∷ rest) ready.room post.peer);
  memory = λ e found unclosed. omega (arith, ready.memory post.peer e found unclosed, count_own post rest);
}

-- and then the others
pub ready_rest : (b a : Outbox) (post : Post) (rest : List Post) → IsReady b (post ∷ rest) → a.mail ≡ posted b.mail post →
    ((p : ℕ) → reserved_at b.reserved p ≤ reserved_at a.reserved p + (if nat_eq p post.peer then 1 else 0)) → a.places + 1 ≡ b.places → IsReady a rest
ready_rest b a post rest ready mail used places = record {
  room = rw mail (room_for_all (posted b.mail post).ends rest
      (λ p. posted_lacks b.mail post p (count_for p rest) (rw (← count_more p post rest) (all_have b.mail.ends (post ∷ rest) ready.room p))));
  memory = λ p. rw mail (posted_memory b.mail post b.reserved a.reserved p (count_for p rest) (rw (← count_more p post rest) (ready.memory p)) (used p));
  places = grind (arith, ready.places);
}

lacks_as : (ends : List Image) (posts : List Post) (p : ℕ) → lacks_at p (count_for p posts) ends ≡ true → (b : Bool) → lacks_room ends posts ≡ b → b ≡ true
lacks_as ends posts p lacking true is = refl
lacks_as ends posts p lacking false is = let bad : ⊥ = grind (arith, all_have ends posts is p, lacking) in absurd bad

-- one end lacks room
pub one_lacks : (ends : List Image) (posts : List Post) (p : ℕ) → lacks_at p (count_for p posts) ends ≡ true → lacks_room ends posts ≡ true
one_lacks ends posts p lacking = lacks_as ends posts p lacking (lacks_room ends posts) refl

up_to : (p n : ℕ) → p < n + 1 → (p < n) ⊎ (p ≡ n)
up_to p n less = grind arith

-- the ends so far have room, and one more has
pub room_more : (ends : List Image) (posts : List Post) (n : ℕ) → ((p : ℕ) → p < n → lacks_at p (count_for p posts) ends ≡ false) →
    lacks_at n (count_for n posts) ends ≡ false → (p : ℕ) → p < n + 1 → lacks_at p (count_for p posts) ends ≡ false
room_more ends posts n before last p less = elim (up_to p n less) [ inl earlier ↦ before p earlier | inr is ↦ rw is last ]

memory_last : (ends : List Image) (reserved : List ℕ) (posts : List Post) (p n : ℕ) → p ≡ n → HasMemory ends reserved n (count_for n posts) →
    HasMemory ends reserved p (count_for p posts)
memory_last ends reserved posts p n is has = rw is has

-- the ends so far have memory, and one more has
pub memory_more : (ends later : List Image) (old new : List ℕ) (posts : List Post) (n : ℕ) → later ≡ ends →
    ((p : ℕ) → p < n → HasMemory ends old p (count_for p posts)) → ((p : ℕ) → reserved_at old p ≤ reserved_at new p) → HasMemory later new n (count_for n posts) →
    (p : ℕ) → p < n + 1 → HasMemory later new p (count_for p posts)
memory_more ends later old new posts n same before lost last p less e found unclosed = elim (up_to p n less) [
  | inl earlier ↦ omega (arith, before p earlier e (rw (← same) found) unclosed, lost p)
  | inr is ↦ memory_last later new posts p n is last e found unclosed
]

count_push : (p : ℕ) (posts : List Post) (post : Post) → count_for p (posts ++ post ∷ []) ≡ count_for p posts + (if nat_eq post.peer p then 1 else 0)
count_push p [] post = grind arith
count_push p (first ∷ posts) post = grind (arith, count_more p first posts, count_more p first (posts ++ post ∷ []), count_push p posts post)

named_before : (p : ℕ) (posts : List Post) (post : Post) → 1 ≤ count_for p (posts ++ post ∷ []) → (1 ≤ count_for p posts) ⊎ (p ≡ post.peer)
named_before p posts post named = grind (arith, count_push p posts post)

-- the peers so far have room, and one more post's has
pub room_named : (ends : List Image) (posts earlier : List Post) (post : Post) →
    ((p : ℕ) → 1 ≤ count_for p earlier → lacks_at p (count_for p posts) ends ≡ false) → lacks_at post.peer (count_for post.peer posts) ends ≡ false →
    (p : ℕ) → 1 ≤ count_for p (earlier ++ post ∷ []) → lacks_at p (count_for p posts) ends ≡ false
room_named ends posts earlier post before last p named = elim (named_before p earlier post named) [ inl there ↦ before p there | inr is ↦ rw is last ]

-- the peers so far have memory, and one more post's has
pub memory_named : (ends later : List Image) (old new : List ℕ) (posts earlier : List Post) (post : Post) → later ≡ ends →
    ((p : ℕ) → 1 ≤ count_for p earlier → HasMemory ends old p (count_for p posts)) → ((p : ℕ) → reserved_at old p ≤ reserved_at new p) →
    HasMemory later new post.peer (count_for post.peer posts) →
    (p : ℕ) → 1 ≤ count_for p (earlier ++ post ∷ []) → HasMemory later new p (count_for p posts)
memory_named ends later old new posts earlier post same before lost last p named e found unclosed = elim (named_before p earlier post named) [
  | inl there ↦ omega (arith, before p there e (rw (← same) found) unclosed, lost p)
  | inr is ↦ memory_last later new posts p post.peer is last e found unclosed
]

none_needed : (o : Option Image) → peer_lacks o 0 ≡ false
none_needed None = refl
none_needed (Some e) = grind arith

none_or_some : (n : ℕ) → (n ≡ 0) ⊎ (1 ≤ n)
none_or_some zero = inl refl
none_or_some (suc n) = inr (omega arith)

room_unless : (ends : List Image) (posts : List Post) (p : ℕ) → (1 ≤ count_for p posts → lacks_at p (count_for p posts) ends ≡ false) →
    lacks_at p (count_for p posts) ends ≡ false
room_unless ends posts p has = elim (none_or_some (count_for p posts)) [ inl none ↦ rw none (none_needed (slice_get ends p)) | inr some ↦ has some ]

-- room for the posts to each peer that a post names is room for all
pub room_for_named : (ends : List Image) (posts : List Post) →
    ((p : ℕ) → 1 ≤ count_for p posts → lacks_at p (count_for p posts) ends ≡ false) → lacks_room ends posts ≡ false
room_for_named ends posts each = room_for_all ends posts (λ p. room_unless ends posts p (each p))

-- and so it is with memory
pub memory_for_named : (ends : List Image) (reserved : List ℕ) (posts : List Post) →
    ((p : ℕ) → 1 ≤ count_for p posts → HasMemory ends reserved p (count_for p posts)) → (p : ℕ) → HasMemory ends reserved p (count_for p posts)
memory_for_named ends reserved posts each p e found unclosed = elim (none_or_some (count_for p posts)) [
  | inl none ↦ omega (arith, none)
  | inr some ↦ each p some e found unclosed
]
