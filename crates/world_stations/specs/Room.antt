-- How many frames a step of a station sends, and the lists of frames ever sent, with their memory.
use Rattle.std.specs.Prelude.{ℕ, ◌+◌, ◌<◌, ◌≤◌, if◌then◌else◌, nat_eq, List, [], ◌∷◌, length, map, get_or, slice_get}
use Rattle.std.specs.Prelude.{max, Option, None, Some}
use Rattle.signal.specs.declared.frame.Frame.{Frame}
use Rattle.link.specs.Image.{Image, room_left}
use Rattle.node.specs.declared.outgoing.Outgoing.{Outgoing}

-- how many of these frames go to a peer
abbrev pub count_to : ℕ → List Outgoing → ℕ
count_to peer [] = 0
count_to peer (out ∷ rest) = (if nat_eq out.peer peer then 1 else 0) + count_to peer rest

-- at most this many frames go to a peer in one step: what is kept, sent again; or an answer, and new signals in the
-- room that is left
abbrev pub most_of : Image → ℕ
most_of e = max (room_left e) (length e.kept) + 1

-- at most this many frames go to a peer in one step: none where there is no such peer
abbrev pub most_to : Option Image → ℕ
most_to None = 0
most_to (Some e) = most_of e

-- at most this many frames go to a peer in any step to come, however many come before it: an end's room stays, and what
-- is kept stays within it
abbrev pub most_ever_of : Image → ℕ
most_ever_of e = max e.room (length e.kept) + 1

-- at most this many frames go to a peer in any step to come: none where there is no such peer
abbrev pub most_ever_to : Option Image → ℕ
most_ever_to None = 0
most_ever_to (Some e) = most_ever_of e

-- all frames ever sent in a direction, and how many more take no memory
pub record SentView : Type 0 where
  pub frames : List Frame
  pub spare : ℕ

-- the frames of each direction
abbrev pub frames_of_each : List SentView → List (List Frame)
frames_of_each sent = map (λ s. s.frames) sent

-- how many more frames take no memory in a direction
abbrev pub spare_at : List SentView → ℕ → ℕ
spare_at sent j = get_or (map (λ s. s.spare) sent) j 0

-- in each direction that is there, what a step of a station with these ends sends at most takes no memory
abbrev pub HasSpare : List Image → List SentView → Type 0
HasSpare ends sent = (j : ℕ) → j < length sent → most_to (slice_get ends j) ≤ spare_at sent j

-- in each direction that is there, this many more frames take no memory
abbrev pub AllSpare : ℕ → List SentView → Type 0
AllSpare count sent = (j : ℕ) → j < length sent → count ≤ spare_at sent j

-- in no direction fewer frames take no memory than before
abbrev pub NoneLost : List SentView → List SentView → Type 0
NoneLost before after = (j : ℕ) → spare_at before j ≤ spare_at after j

-- what is known of a station with these ends and of its directions: no step to come sends more frames in one of them
-- than `most`, and this many more as `spare` take no memory in each
pub record IsReserved (ends : List Image) (sent : List SentView) (most spare : ℕ) : Type 0 where
  pub bounded : (j : ℕ) → j < length sent → most_ever_to (slice_get ends j) ≤ most
  pub memory : AllSpare spare sent

-- in each direction that is there, these frames take no memory
abbrev pub Fits : List Outgoing → List SentView → Type 0
Fits outs sent = (j : ℕ) → j < length sent → count_to j outs ≤ spare_at sent j
