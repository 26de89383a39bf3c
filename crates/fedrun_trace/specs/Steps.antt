-- The events of steps: a slice for each step, on the track of the node at which it happens; an arrow for each frame
-- that it delivers, from the step that sent that; and a mark for each frame that it sends and no step delivers.
use Rattle.std.specs.Prelude.{ℕ, ◌+◌, Bool, false, ◌&&◌, nat_eq, if◌then◌else◌, List, [], ◌∷◌, ◌++◌, length, drop, get_or}
use Rattle.std.specs.Prelude.{slice_get, Option, None, Some, codes}
use Rattle.std.specs.List.{list_any}
use Rattle.std.specs.Fmt.{decimal}
use Rattle.network.specs.Undivided.{Row}
use Rattle.signal.specs.declared.frame.Frame.{Frame}
use Rattle.plan.specs.declared.draft.Draft.{Draft}
use Rattle.plan.specs.Federation.{federate_count}
use Rattle.world_stations.specs.declared.dir.Dir.{Dir}
use Rattle.world_stations.specs.declared.dir.Dir.TheVariants.{Up, Down}
use Rattle.world_stations.specs.declared.step.Step.{Step}
use Rattle.world_stations.specs.declared.step.Step.TheVariants.{Deliver, Resend, Reconnect, Announce, Advance, Forget}
use Rattle.world_stations.specs.declared.outcome.Outcome.{Outcome}
use Rattle.world_stations.specs.declared.outcome.Outcome.TheVariants.{Nothing, Done, Refused}
use Rattle.world_stations.specs.World.{frames_in, frame_at}
use Rattle.world_stations.specs.Federation.{Federation, step_in}
use Rattle.files_text.specs.PlanText.{printed_each}
use Rattle.fedrun_replay.specs.Play.{Made}
use Rattle.fedrun_frames.specs.declared.brought.Brought.{Brought}
use Rattle.fedrun_frames.specs.declared.brought.Brought.TheVariants.{NoFrame, NewSignal, KnownSignal, Note, Forgetting}
use Rattle.fedrun_frames.specs.declared.brought.Brought.TheVariants.{Own}
use Rattle.fedrun_frames.specs.declared.counts.LinkCounts.{LinkCounts}
use Rattle.fedrun_frames.specs.Each.{each_from}
use Rattle.fedrun_frames.specs.Accounts.{Account, account_of, no_frames}
use Rattle.fedrun_trace.specs.declared.seen_frame.SeenFrame.{SeenFrame}
use Rattle.fedrun_trace.specs.Tracks.{step_track}
use Rattle.fedrun_trace.specs.Frames.{name_text, way_text, sent_name, frame_name, frame_members}
use Rattle.fedrun_trace.specs.Turns.{row_members}
use Rattle.fedrun_trace.specs.Events.{begin_text, place_text, start_text, end_text, undelivered_text}

-- the frame that a step delivers, if it is there
abbrev pub found_frame : Federation → Step → Option Frame
found_frame w (Deliver dir k) = frame_at (frames_in w dir) k
found_frame w (Resend dir) = None
found_frame w (Reconnect dir) = None
found_frame w (Announce j) = None
found_frame w (Advance j) = None
found_frame w (Forget j) = None

-- how a step ended that brought this and changed nothing
abbrev pub idle_word : Brought → List ℕ
idle_word NoFrame = codes "no such frame"
idle_word NewSignal = codes "nothing"
idle_word KnownSignal = codes "nothing"
idle_word Note = codes "nothing"
idle_word Forgetting = codes "nothing"
idle_word Own = codes "nothing"

-- how one ended that brought this and changed something, or sent something
abbrev pub done_word : Brought → List ℕ
done_word NoFrame = codes "done"
done_word NewSignal = codes "taken"
done_word KnownSignal = codes "taken before"
done_word Note = codes "noted"
done_word Forgetting = codes "forgotten"
done_word Own = codes "done"

-- how a step ended that brought this
abbrev pub ended_text : Brought → Outcome → List ℕ
ended_text brought Nothing = idle_word brought
ended_text brought Done = done_word brought
ended_text brought (Refused number) = codes "refused " ++ decimal number

-- what a step is, in a word
abbrev pub step_word : Step → List ℕ
step_word (Deliver dir k) = codes "deliver"
step_word (Resend dir) = codes "resend"
step_word (Reconnect dir) = codes "reconnect"
step_word (Announce j) = codes "announce"
step_word (Advance j) = codes "advance"
step_word (Forget j) = codes "forget"

-- the word of a step that delivers no frame: a turn where it made a row
abbrev pub own_word : Step → List Row → List ℕ
own_word step row = if nat_eq (length row) 0 then step_word step else codes "turn"

-- what a slice is called: by the frame that the step delivers, if it delivers one
abbrev pub slice_word : Step → Option Frame → List Row → List ℕ
slice_word step None row = own_word step row
slice_word step (Some frame) row = frame_name frame

-- a step in the words of a schedule
abbrev pub step_name : Draft → Step → List ℕ
step_name d (Deliver dir k) = codes "deliver " ++ sent_name d dir k
step_name d (Resend dir) = codes "resend " ++ way_text d dir
step_name d (Reconnect dir) = codes "reconnect " ++ way_text d dir
step_name d (Announce j) = codes "announce " ++ name_text d j
step_name d (Advance j) = codes "advance " ++ name_text d j
step_name d (Forget j) = codes "forget " ++ name_text d j

-- what the frame carries that a step delivers, if it delivers one
abbrev pub found_members : Draft → Option Frame → List ℕ
found_members d None = []
found_members d (Some frame) = frame_members d frame

-- the line that a step was made for, and the step
unfoldable pub line_members : Draft → (line : ℕ) → Step → List ℕ
line_members d line step =
    codes "\"line\":" ++ (decimal line ++ (codes ",\"step\":\"" ++ (step_name d step ++ codes "\"")))

-- what is told of a step: its line, its words, what it delivered, the row that it made
unfoldable pub slice_members : Draft → Option Frame → Account → List ℕ
slice_members d found a = line_members d a.line a.step ++ (found_members d found ++ row_members d a.row)

-- what a slice is called, with how the step ended
unfoldable pub slice_name : Option Frame → Account → List ℕ
slice_name found a = slice_word a.step found a.row ++ (codes " " ++ ended_text a.brought a.outcome)

-- how long it is, and what is told of the step
unfoldable pub slice_args : Draft → Option Frame → Account → List ℕ
slice_args d found a =
    codes ",\"dur\":1,\"cat\":\"step\",\"args\":{" ++ (slice_members d found a ++ codes "}}")

-- the slice of the n-th step
unfoldable pub slice_text : Draft → (n : ℕ) → Option Frame → Account → List ℕ
slice_text d n found a =
    begin_text (codes "X")
    ++ (slice_name found a ++ (place_text (step_track d a.step) n ++ slice_args d found a))

-- the end of an arrow, with how the step ended that delivers the frame
unfoldable pub ended_arrow : Draft → SeenFrame → Brought → Outcome → List ℕ
ended_arrow d seen brought outcome =
    end_text d seen ++ (codes ",\"ended\":\"" ++ (ended_text brought outcome ++ codes "\"}}"))

-- that of the arrow of the frame that the n-th step delivers, if it delivers one
abbrev pub arrival_of : Draft → (n : ℕ) → Option Frame → Brought → Outcome → Step → List ℕ
arrival_of d n None brought outcome step = []
arrival_of d n (Some frame) brought outcome (Deliver dir k) =
    ended_arrow d (record { step = n; dir = dir; number = k; frame = frame }) brought outcome
arrival_of d n (Some frame) brought outcome (Resend dir) = []
arrival_of d n (Some frame) brought outcome (Reconnect dir) = []
arrival_of d n (Some frame) brought outcome (Announce j) = []
arrival_of d n (Some frame) brought outcome (Advance j) = []
arrival_of d n (Some frame) brought outcome (Forget j) = []

-- the same, by its account
unfoldable pub arrival_text : Draft → (n : ℕ) → Option Frame → Account → List ℕ
arrival_text d n found a = arrival_of d n found a.brought a.outcome a.step

-- two directions are one
abbrev pub is_same_way : Dir → Dir → Bool
is_same_way (Up i) (Up j) = nat_eq i j
is_same_way (Up i) (Down j) = false
is_same_way (Down i) (Up j) = false
is_same_way (Down i) (Down j) = nat_eq i j

-- a step delivers the k-th frame of a direction
abbrev pub is_delivery : Dir → (k : ℕ) → Step → Bool
is_delivery dir k (Deliver to number) = is_same_way to dir && nat_eq number k
is_delivery dir k (Resend to) = false
is_delivery dir k (Reconnect to) = false
is_delivery dir k (Announce j) = false
is_delivery dir k (Advance j) = false
is_delivery dir k (Forget j) = false

-- one of these steps does so
abbrev pub is_delivered : Dir → (k : ℕ) → List Made → Bool
is_delivered dir k made = list_any (λ m. is_delivery dir k m.step) made

-- the beginning of an arrow to this step, the one with this number, where it delivers the frame
abbrev pub start_if : Draft → SeenFrame → (number : ℕ) → Step → List ℕ
start_if d seen number step = if is_delivery seen.dir seen.number step then start_text d seen number else []

-- the same, if there is such a step
abbrev pub start_to : Draft → SeenFrame → (number : ℕ) → Option Made → List ℕ
start_to d seen number None = []
start_to d seen number (Some made) = start_if d seen number made.step

-- the beginnings of arrows to all later steps that deliver the frame
abbrev pub starts_text : Draft → (all : List Made) → SeenFrame → List ℕ
starts_text d all seen = each_from (λ i. start_to d seen (i + 1) (slice_get all i)) seen.step (length all)

-- what is written of a frame that was sent: these, or a mark where none delivers it
abbrev pub seen_text : Draft → (all : List Made) → SeenFrame → List ℕ
seen_text d all seen =
    if is_delivered seen.dir seen.number (drop seen.step all) then starts_text d all seen else undelivered_text d seen

-- of the k-th frame of a direction, if it is there
abbrev pub departure_text : Draft → (all : List Made) → (n : ℕ) → Dir → (k : ℕ) → Option Frame → List ℕ
departure_text d all n dir k None = []
departure_text d all n dir k (Some frame) =
    seen_text d all (record { step = n; dir = dir; number = k; frame = frame })

-- of the frames of a direction after the first `gone`
abbrev pub departures_in : Draft → (all : List Made) → (n : ℕ) → Dir → (gone : ℕ) → List Frame → List ℕ
departures_in d all n dir gone frames =
    each_from (λ i. departure_text d all n dir (i + 1) (frame_at frames (i + 1))) gone (length frames)

-- of those sent over federate j's link after this many: of the federate, and then to it
abbrev pub link_departures : Draft → (all : List Made) → (n : ℕ) → Federation → LinkCounts → (j : ℕ) → List ℕ
link_departures d all n later before j =
    departures_in d all n (Up j) before.up (frames_in later (Up j))
    ++ departures_in d all n (Down j) before.down (frames_in later (Down j))

-- of all frames that the n-th step sent, in the world after it
unfoldable pub departures_text : Draft → (all : List Made) → (n : ℕ) → Federation → (before : List LinkCounts) → List ℕ
departures_text d all n later before =
    printed_each (λ j. link_departures d all n later (get_or before j no_frames) j) (length before)

-- the events of the n-th of all steps, in the world after it
unfoldable pub events_text : Draft → (all : List Made) → (n : ℕ) → Option Frame → Federation → Account → List ℕ
events_text d all n found later a =
    slice_text d n found a ++ (arrival_text d n found a ++ departures_text d all n later a.before)

-- those of a step made in a world
abbrev pub step_text : Draft → (all : List Made) → (n : ℕ) → Federation → Made → List ℕ
step_text d all n w made =
    events_text d all n (found_frame w made.step) (step_in w made.step).world (account_of w (federate_count d) made)

-- those of the steps from the n-th on, made one after the other in a world
abbrev pub steps_text : Draft → (all : List Made) → (n : ℕ) → Federation → List Made → List ℕ
steps_text d all n w [] = []
steps_text d all n w (made ∷ rest) =
    step_text d all n w made ++ steps_text d all (n + 1) (step_in w made.step).world rest
