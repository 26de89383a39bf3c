-- What a node's posts make of the link ends, and whether there is room for them. Peer p is at place p.
use Rattle.std.specs.Prelude.{ℕ, ◌+◌, Bool, false, ◌&&◌, ◌||◌, not, if◌then◌else◌, nat_eq, nat_lt, is_ok, List, [], ◌∷◌}
use Rattle.std.specs.Prelude.{◌++◌, length, filter, set, slice_get, Option, None, Some, Result, Ok, Err}
use Rattle.signal.specs.declared.signal.Signal.{Signal}
use Rattle.signal.specs.declared.frame.Frame.{Frame}
use Rattle.link.specs.declared.fault.LinkFault.{LinkFault}
use Rattle.link.specs.Image.{Image, room_left, offer_of, after_offer}
use Rattle.protocol.specs.declared.post.Post.{Post}
use Rattle.node.specs.declared.outgoing.Outgoing.{Outgoing}

-- the ends, and the frames that are to be sent so far
pub record Mail : Type 0 where
  pub ends : List Image
  pub frames : List Outgoing

-- the frame that comes of an offer; where it is refused, as at a closed end, none
abbrev pub framed : ℕ → Result Frame LinkFault → List Outgoing
framed peer (Ok frame) = record { peer = peer; frame = frame } ∷ []
framed peer (Err fault) = []

-- with one more frame, if there is one
abbrev pub with_frame : List Outgoing → ℕ → Option Frame → List Outgoing
with_frame frames peer None = frames
with_frame frames peer (Some frame) = frames ++ record { peer = peer; frame = frame } ∷ []

-- a signal is offered at this end of a peer, if that doesn't refuse it
abbrev pub offered_at : Mail → ℕ → Signal → Option Image → Mail
offered_at m peer signal None = m
offered_at m peer signal (Some e) =
    if is_ok (offer_of e signal)
    then record { ends = set m.ends peer (after_offer e signal); frames = m.frames ++ framed peer (offer_of e signal) }
    else m

-- a post is offered at its peer's end
abbrev pub posted : Mail → Post → Mail
posted m post = offered_at m post.peer post.signal (slice_get m.ends post.peer)

-- posts are offered, one after the other
abbrev pub all_posted : Mail → List Post → Mail
all_posted m [] = m
all_posted m (post ∷ posts) = all_posted (posted m post) posts

-- how many posts are for a peer
abbrev pub count_for : ℕ → List Post → ℕ
count_for peer posts = length (filter (λ post. nat_eq post.peer peer) posts)

-- an end that isn't closed has no room for this many signals
abbrev pub lacks : Image → ℕ → Bool
lacks e count = not e.closed && nat_lt (room_left e) count

-- a peer's end lacks room for this many signals
abbrev pub peer_lacks : Option Image → ℕ → Bool
peer_lacks None count = false
peer_lacks (Some e) count = lacks e count

abbrev pub lacks_at : (peer count : ℕ) → List Image → Bool
lacks_at peer count ends = peer_lacks (slice_get ends peer) count

-- some end lacks room for the posts to it, the first end being this peer's
abbrev pub some_lacks : ℕ → List Image → List Post → Bool
some_lacks peer [] posts = false
some_lacks peer (e ∷ ends) posts = lacks e (count_for peer posts) || some_lacks (peer + 1) ends posts

-- some end lacks room for the posts to it
abbrev pub lacks_room : List Image → List Post → Bool
lacks_room ends posts = some_lacks 0 ends posts

-- an end without the signals that it keeps: what no post changes
abbrev pub bare : Image → Image
bare e = record e { kept = [] }
