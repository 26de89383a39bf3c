-- Events of Chrome's trace format, one of each kind, each behind the comma that parts it from the one before.
use Rattle.std.specs.Prelude.{ℕ, List, ◌++◌, codes}
use Rattle.std.specs.Fmt.{decimal}
use Rattle.json.specs.Print.{escape}
use Rattle.signal.specs.declared.frame.Frame.{Frame}
use Rattle.plan.specs.declared.draft.Draft.{Draft}
use Rattle.fedrun_trace.specs.declared.seen_frame.SeenFrame.{SeenFrame}
use Rattle.fedrun_trace.specs.Tracks.{sender_track, receiver_track}
use Rattle.fedrun_trace.specs.Frames.{frame_name, sent_members}

-- an event of this kind, up to its name
unfoldable pub begin_text : (kind : List ℕ) → List ℕ
begin_text kind = codes ",\n{\"ph\":\"" ++ (kind ++ codes "\",\"name\":\"")

-- the end of its name, and where it stands: on which track, and at which step
unfoldable pub place_text : (track step : ℕ) → List ℕ
place_text track step =
    codes "\",\"pid\":1,\"tid\":" ++ (decimal track ++ (codes ",\"ts\":" ++ decimal step))

-- an event of this kind with this name, up to there
unfoldable pub event_text : (kind name : List ℕ) → (track step : ℕ) → List ℕ
event_text kind name track step = begin_text kind ++ (name ++ place_text track step)

-- the name of a track
unfoldable pub track_name : (track : ℕ) → (name : List ℕ) → List ℕ
track_name track name =
    event_text (codes "M") (codes "thread_name") track 0
    ++ (codes ",\"args\":{\"name\":\"" ++ (escape name ++ codes "\"}}"))

-- the place of a track among the others
unfoldable pub track_order : (track : ℕ) → List ℕ
track_order track =
    event_text (codes "M") (codes "thread_sort_index") track 0
    ++ (codes ",\"args\":{\"sort_index\":" ++ (decimal track ++ codes "}}"))

-- a track
unfoldable pub track_text : (track : ℕ) → (name : List ℕ) → List ℕ
track_text track name = track_name track name ++ track_order track

-- which frame it is, and what it carries
unfoldable pub seen_members : Draft → SeenFrame → List ℕ
seen_members d seen = codes ",\"args\":{" ++ sent_members d seen.dir seen.number seen.frame

-- which arrow it is: that to the step of this number
unfoldable pub arrow_member : (delivered : ℕ) → List ℕ
arrow_member delivered = codes ",\"cat\":\"frame\",\"id\":" ++ decimal delivered

-- where an arrow begins: a frame is sent, which the step of this number delivers
unfoldable pub start_text : Draft → SeenFrame → (delivered : ℕ) → List ℕ
start_text d seen delivered =
    event_text (codes "s") (frame_name seen.frame) (sender_track d seen.dir) seen.step
    ++ (arrow_member delivered ++ (seen_members d seen ++ codes "}}"))

-- where it ends: the frame is delivered, up to how that ended
unfoldable pub end_text : Draft → SeenFrame → List ℕ
end_text d seen =
    event_text (codes "f") (frame_name seen.frame) (receiver_track d seen.dir) seen.step
    ++ (codes ",\"bp\":\"e\"" ++ (arrow_member seen.step ++ seen_members d seen))

-- what the mark of a frame is called that no step delivers
unfoldable pub undelivered_name : Frame → List ℕ
undelivered_name frame = frame_name frame ++ codes " never delivered"

-- such a mark, up to where it stands
unfoldable pub undelivered_head : Draft → SeenFrame → List ℕ
undelivered_head d seen =
    begin_text (codes "i")
    ++ (undelivered_name seen.frame ++ place_text (sender_track d seen.dir) seen.step)

-- a frame is sent that no step delivers: a mark, and no arrow
unfoldable pub undelivered_text : Draft → SeenFrame → List ℕ
undelivered_text d seen =
    undelivered_head d seen ++ (codes ",\"cat\":\"frame\",\"s\":\"t\"" ++ (seen_members d seen ++ codes "}}"))
