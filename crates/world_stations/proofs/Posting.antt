-- What posts make of each side of a station's links: the signals for its peer are offered there.
use Rattle.std.proofs.Common.{◌≡◌, ℕ, ◌+◌, ◌≤◌, Bool, true, false, List, [], ◌∷◌, ◌++◌, set, slice_get, refl, sym, ap, subst, ◌∙◌, arith, Option, None, Some, Result, Ok, Err, is_ok, if◌then◌else◌}
use Rattle.std.specs.Prelude.{nat_eq}
use Rattle.std.proofs.lemmas.Bool.Decides.{nat_tests}
use Rattle.std.proofs.lemmas.List.{append-nil, append_assoc}
use Rattle.std.proofs.lemmas.Bool.{eqb-true, eqb-false, eq-eqb}
use Rattle.signal.specs.declared.signal.Signal.{Signal}
use Rattle.signal.specs.declared.frame.Frame.{Frame}
use Rattle.signal.specs.declared.frame.Frame.TheVariants.{Data}
use Rattle.signal.specs.Batch.{numbered}
use Rattle.link.specs.Image.{Image, last_number, room_left, offer_of, after_offer}
use Rattle.protocol.specs.declared.post.Post.{Post}
use Rattle.protocol.specs.Machine.{sent_to}
use Rattle.node.specs.declared.outgoing.Outgoing.{Outgoing}
use Rattle.node.specs.Mail.{Mail, posted, offered_at, all_posted, framed, count_for, lacks, lacks_at, lacks_room}
use Rattle.node.specs.Step.{addressed}
use Rattle.network.proofs.Items.{get_set_here, get_set_other}
use Rattle.node.proofs.Ends.{all_have}
use Rattle.node.proofs.Posts.{posted_lacks, count_more}
use Rattle.link_laws.specs.Link.{Side, offers}
use Rattle.link_laws.proofs.Offers.{offers_open, offers_twice}

-- the frames that go to a peer
abbrev pub frame_if : Bool → Frame → List Frame
frame_if true frame = frame ∷ []
frame_if false frame = []

abbrev pub frames_to : ℕ → List Outgoing → List Frame
frames_to p [] = []
frames_to p (o ∷ rest) = frame_if (nat_eq p o.peer) o.frame ++ frames_to p rest

pub frames_to-append : (p : ℕ) (xs ys : List Outgoing) → frames_to p (xs ++ ys) ≡ frames_to p xs ++ frames_to p ys
frames_to-append p [] ys = refl
frames_to-append p (x ∷ xs) ys =
    ap (λ (l : List Frame). frame_if (nat_eq p x.peer) x.frame ++ l) (frames_to-append p xs ys) ∙
    sym (append_assoc (frame_if (nat_eq p x.peer) x.frame) (frames_to p xs) (frames_to p ys))

pub to_itself : (p : ℕ) (frames : List Frame) → frames_to p (addressed p frames) ≡ frames
to_itself p [] = refl
to_itself p (x ∷ xs) =
    ap (λ (b : Bool). frame_if b x ++ frames_to p (addressed p xs)) (eq-eqb p p refl) ∙ ap (λ (l : List Frame). x ∷ l) (to_itself p xs)

pub to_others : (p q : ℕ) (frames : List Frame) → nat_eq p q ≡ false → frames_to p (addressed q frames) ≡ []
to_others p q [] e = refl
to_others p q (x ∷ xs) e = ap (λ (b : Bool). frame_if b x ++ frames_to p (addressed q xs)) e ∙ to_others p q xs e

-- ends and frames as a side's: its end stands at its place, and it sent these frames after those before
pub record IsSeen (sent : List Frame) (ends : List Image) (outs : List Outgoing) (p : ℕ) (s : Side) : Type 0 where
  pub end : slice_get ends p ≡ Some s.end
  pub frames : s.sent ≡ sent ++ frames_to p outs

abbrev pub SeenIn : List Frame → Mail → ℕ → Side → Type 0
SeenIn sent m p s = IsSeen sent m.ends m.frames p s

-- nothing is offered
pub offers_none : (s : Side) → offers s [] ≡ s
offers_none s = by_closed s.end.closed
  where
    by_closed : (b : Bool) → (if b then s else record { end = record s.end { kept = s.end.kept ++ [] }; sent = s.sent ++ []; took = s.took }) ≡ s
    by_closed true = refl
    by_closed false = let kept = append-nil s.end.kept in let sent = append-nil s.sent in λ y. record { end = record s.end { kept = kept y }; sent = sent y; took = s.took }

offers_closed : (s : Side) (signals : List Signal) → s.end.closed ≡ true → offers s signals ≡ s
offers_closed s signals e = ap (λ (b : Bool). if b then s else record { end = record s.end { kept = s.end.kept ++ signals }; sent = s.sent ++ numbered s.end.incarnation (last_number s.end + 1) signals; took = s.took }) e

-- signals are offered one after the other
pub offers_more : (s : Side) (signal : Signal) (rest : List Signal) → offers (offers s (signal ∷ [])) rest ≡ offers s (signal ∷ rest)
offers_more s signal rest = by_closed s.end.closed refl
  where
    by_closed : (b : Bool) → s.end.closed ≡ b → offers (offers s (signal ∷ [])) rest ≡ offers s (signal ∷ rest)
    by_closed true e = ap (λ (x : Side). offers x rest) (offers_closed s (signal ∷ []) e) ∙ offers_closed s rest e ∙ sym (offers_closed s (signal ∷ rest) e)
    by_closed false e = offers_twice s (signal ∷ []) rest e

-- an end with room for it takes a signal's offer
has_place : (e : Image) (signal : Signal) → e.closed ≡ false → lacks e 1 ≡ false → offer_of e signal ≡ Ok (Data e.incarnation (last_number e + 1) signal)
has_place e signal o l =
    let some : nat_eq (room_left e) 0 ≡ false = grind (arith, nat_tests) in
    grind (arith, o, some)

closed_refuses : (e : Image) (signal : Signal) → e.closed ≡ true → is_ok (offer_of e signal) ≡ false
closed_refuses e signal o = grind arith

-- one post, seen at the side of its peer
offered_here : (sent : List Frame) (m : Mail) (p : ℕ) (s : Side) (signal : Signal) → SeenIn sent m p s → lacks s.end 1 ≡ false → SeenIn sent (offered_at m p signal (Some s.end)) p (offers s (signal ∷ []))
offered_here sent m p s signal seen room = by_closed s.end.closed refl
  where
    by_closed : (b : Bool) → s.end.closed ≡ b → SeenIn sent (offered_at m p signal (Some s.end)) p (offers s (signal ∷ []))
    by_closed true e =
        let P : Bool → Type 0 = λ b. SeenIn sent (if b then record { ends = set m.ends p (after_offer s.end signal); frames = m.frames ++ framed p (offer_of s.end signal) } else m) p (offers s (signal ∷ [])) in
        let Q : Side → Type 0 = λ x. SeenIn sent m p x in
        subst P (sym (closed_refuses s.end signal e)) (subst Q (sym (offers_closed s (signal ∷ []) e)) seen)
    by_closed false e =
        let ok = has_place s.end signal e room in
        let P : Result Frame _ → Type 0 = λ r. SeenIn sent (if is_ok r then record { ends = set m.ends p (after_offer s.end signal); frames = m.frames ++ framed p r } else m) p (offers s (signal ∷ [])) in
        let Q : Side → Type 0 = λ x. SeenIn sent (record { ends = set m.ends p (after_offer s.end signal); frames = m.frames ++ framed p (Ok (Data s.end.incarnation (last_number s.end + 1) signal)) }) p x in
        subst P (sym ok)
        (subst Q (sym (offers_open s (signal ∷ []) e))
        (record {
          end = get_set_here m.ends p s.end (after_offer s.end signal) seen.end;
          frames =
              ap (λ (x : List Frame). x ++ Data s.end.incarnation (last_number s.end + 1) signal ∷ []) seen.frames ∙
              append_assoc sent (frames_to p m.frames) (Data s.end.incarnation (last_number s.end + 1) signal ∷ []) ∙
              ap (λ (x : List Frame). sent ++ x)
              (sym (frames_to-append p m.frames (framed p (Ok (Data s.end.incarnation (last_number s.end + 1) signal))) ∙
              ap (λ (x : List Frame). frames_to p m.frames ++ x) (to_itself p (Data s.end.incarnation (last_number s.end + 1) signal ∷ []))));
        }))

-- one post, seen at another side
offered_elsewhere : (sent : List Frame) (m : Mail) (p q : ℕ) (s : Side) (signal : Signal) (o : Option Image) → nat_eq p q ≡ false → SeenIn sent m p s → SeenIn sent (offered_at m q signal o) p s
offered_elsewhere sent m p q s signal None e seen = seen
offered_elsewhere sent m p q s signal (Some other) e seen = by_offer (offer_of other signal)
  where
    framed_elsewhere : (r : Result Frame _) → frames_to p (framed q r) ≡ []
    framed_elsewhere (Ok frame) = to_others p q (frame ∷ []) e
    framed_elsewhere (Err fault) = refl

    by_offer : (r : Result Frame _) → SeenIn sent (if is_ok r then record { ends = set m.ends q (after_offer other signal); frames = m.frames ++ framed q r } else m) p s
    by_offer (Ok frame) = record {
      end = get_set_other m.ends q p (after_offer other signal) (eqb-false p q e) ∙ seen.end;
      frames = seen.frames ∙ ap (λ (x : List Frame). sent ++ x) (sym (frames_to-append p m.frames (framed q (Ok frame)) ∙ ap (λ (x : List Frame). frames_to p m.frames ++ x) (framed_elsewhere (Ok frame)) ∙ append-nil (frames_to p m.frames)));
    }
    by_offer (Err fault) = seen

-- the signal, if it is for this peer
abbrev signal_if : Bool → Signal → List Signal
signal_if true signal = signal ∷ []
signal_if false signal = []

posted_seen : (sent : List Frame) (m : Mail) (post : Post) (p : ℕ) (s : Side) (b : Bool) → nat_eq p post.peer ≡ b → lacks_at post.peer 1 m.ends ≡ false → SeenIn sent m p s → SeenIn sent (posted m post) p (offers s (signal_if b post.signal))
posted_seen sent m post p s true e room seen =
    let here : post.peer ≡ p = sym (eqb-true p post.peer e) in
    let found : slice_get m.ends post.peer ≡ Some s.end = ap (λ q. slice_get m.ends q) here ∙ seen.end in
    let has : lacks s.end 1 ≡ false = rw found at room in
    let P : ℕ → Type 0 = λ q. SeenIn sent (offered_at m q post.signal (slice_get m.ends q)) p (offers s (post.signal ∷ [])) in
    let Q : Option Image → Type 0 = λ o. SeenIn sent (offered_at m p post.signal o) p (offers s (post.signal ∷ [])) in
    subst P (sym here) (subst Q (sym seen.end) (offered_here sent m p s post.signal seen has))
posted_seen sent m post p s false e room seen =
    let P : Side → Type 0 = λ x. SeenIn sent (posted m post) p x in
    subst P (sym (offers_none s)) (offered_elsewhere sent m p post.peer s post.signal (slice_get m.ends post.peer) e seen)

sent_first : (p : ℕ) (s : Side) (post : Post) (rest : List Post) (b : Bool) → nat_eq p post.peer ≡ b → offers (offers s (signal_if b post.signal)) (sent_to p rest) ≡ offers s (sent_to p (post ∷ rest))
sent_first p s post rest true e =
    let is : sent_to p (post ∷ rest) ≡ post.signal ∷ sent_to p rest = grind (arith, e) in
    offers_more s post.signal (sent_to p rest) ∙ ap (λ (x : List Signal). offers s x) (sym is)
sent_first p s post rest false e =
    let is : sent_to p (post ∷ rest) ≡ sent_to p rest = grind (arith, e) in
    ap (λ (x : Side). offers x (sent_to p rest)) (offers_none s) ∙ ap (λ (x : List Signal). offers s x) (sym is)

own_room : (ends : List Image) (post : Post) (rest : List Post) (o : Option Image) → slice_get ends post.peer ≡ o → lacks_at post.peer (count_for post.peer (post ∷ rest)) ends ≡ false → lacks_at post.peer 1 ends ≡ false
own_room ends post rest None is has = rw is refl
own_room ends post rest (Some e) is has =
    let h : lacks e (count_for post.peer (post ∷ rest)) ≡ false = rw is at has in
    let c = count_more post.peer post rest in
    let same = eq-eqb post.peer post.peer refl in
    let least : 1 ≤ count_for post.peer (post ∷ rest) = grind (arith, c, same) in
    rw is (fewer e (count_for post.peer (post ∷ rest)) least h)
  where
    fewer : (e : Image) (many : ℕ) → 1 ≤ many → lacks e many ≡ false → lacks e 1 ≡ false
    fewer e many l h = grind arith

abbrev HasRoom : List Image → List Post → Type 0
HasRoom ends posts = (q : ℕ) → lacks_at q (count_for q posts) ends ≡ false

room_for_rest : (m : Mail) (post : Post) (rest : List Post) → HasRoom m.ends (post ∷ rest) → HasRoom (posted m post).ends rest
room_for_rest m post rest has q = posted_lacks m post q (count_for q rest) (rw (← count_more q post rest) (has q))

-- all posts, seen at each side
posts_seen : (sent : List Frame) (m : Mail) (posts : List Post) (p : ℕ) (s : Side) → HasRoom m.ends posts → SeenIn sent m p s → SeenIn sent (all_posted m posts) p (offers s (sent_to p posts))
posts_seen sent m [] p s has seen =
    let P : Side → Type 0 = λ x. SeenIn sent m p x in
    subst P (sym (offers_none s)) seen
posts_seen sent m (post ∷ rest) p s has seen =
    let P : Side → Type 0 = λ x. SeenIn sent (all_posted (posted m post) rest) p x in
    subst P (sent_first p s post rest (nat_eq p post.peer) refl)
    (posts_seen sent (posted m post) rest p (offers s (signal_if (nat_eq p post.peer) post.signal)) (room_for_rest m post rest has)
    (posted_seen sent m post p s (nat_eq p post.peer) refl (own_room m.ends post rest (slice_get m.ends post.peer) refl (has post.peer)) seen))

pub all_seen : (sent : List Frame) (m : Mail) (posts : List Post) (p : ℕ) (s : Side) → lacks_room m.ends posts ≡ false → SeenIn sent m p s → SeenIn sent (all_posted m posts) p (offers s (sent_to p posts))
all_seen sent m posts p s room seen = posts_seen sent m posts p s (all_have m.ends posts room) seen
