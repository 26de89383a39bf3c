-- Steps as text, with how each ended, the row that it made, and the frames that it sent.
use Rattle.std.specs.Prelude.{ℕ, ◌+◌, ◌-◌, List, [], ◌∷◌, ◌++◌, length, map, drop, get_or, Option, None, Some, codes}
use Rattle.std.specs.List.{range_with_len}
use Rattle.std.specs.Fmt.{decimal}
use Rattle.network.specs.Undivided.{Row}
use Rattle.signal.specs.declared.frame.Frame.{Frame}
use Rattle.plan.specs.declared.draft.Draft.{Draft}
use Rattle.plan.specs.Federation.{federate_count}
use Rattle.world_stations.specs.declared.dir.Dir.{Dir}
use Rattle.world_stations.specs.declared.dir.Dir.TheVariants.{Up, Down}
use Rattle.world_stations.specs.declared.step.Step.{Step}
use Rattle.world_stations.specs.declared.step.Step.TheVariants.{Deliver, Resend, Reconnect, Announce, Advance, Forget}
use Rattle.world_stations.specs.declared.outcome.Outcome.{Outcome}
use Rattle.world_stations.specs.declared.outcome.Outcome.TheVariants.{Nothing, Done, Refused}
use Rattle.world_stations.specs.World.{frames_in, frame_at, federate_of}
use Rattle.world_stations.specs.Federation.{Federation, step_in, rows_in}
use Rattle.files_text.specs.RowText.{printed_rows}
use Rattle.files_text.specs.PlanText.{federate_name, printed_each}
use Rattle.files_record.specs.StepText.{way_of, printed_step}
use Rattle.fedrun_replay.specs.Play.{Made}
use Rattle.fedrun_frames.specs.declared.brought.Brought.{Brought}
use Rattle.fedrun_frames.specs.declared.counts.LinkCounts.{LinkCounts}
use Rattle.fedrun_frames.specs.Each.{each_from}
use Rattle.fedrun_frames.specs.FrameText.{frame_text}
use Rattle.fedrun_frames.specs.Brought.{brought_by, ending_text}

-- how many frames were sent over federate j's link, in each direction
abbrev pub count_at : Federation → (j : ℕ) → LinkCounts
count_at w j = record { up = length (frames_in w (Up j)); down = length (frames_in w (Down j)) }

-- over the links of this many federates
abbrev pub counts_in : Federation → (federates : ℕ) → List LinkCounts
counts_in w federates = map (count_at w) (range_with_len 0 federates)

-- where no frame was sent
abbrev pub no_frames : LinkCounts
no_frames = record { up = 0; down = 0 }

-- the last of these rows, alone
abbrev pub last_row : List Row → List Row
last_row rows = drop (length rows - 1) rows

-- the row of a turn, the last of these, where a turn was made
abbrev pub turn_row : Outcome → List Row → List Row
turn_row Nothing rows = []
turn_row Done rows = last_row rows
turn_row (Refused number) rows = []

-- the row that a step made that ended so, in the world after it
abbrev pub row_made : Step → Outcome → Federation → List Row
row_made (Deliver dir k) outcome later = []
row_made (Resend dir) outcome later = []
row_made (Reconnect dir) outcome later = []
row_made (Announce j) outcome later = []
row_made (Advance j) outcome later = turn_row outcome (rows_in later j)
row_made (Forget j) outcome later = []

-- what is written of a step: the line that it was made for, what it brought, how it ended, the row that it made, if it
-- made one, and how many frames had been sent over each link before it
pub record Account : Type 0 where
  pub line : ℕ
  pub step : Step
  pub brought : Brought
  pub outcome : Outcome
  pub row : List Row
  pub before : List LinkCounts

-- that of a step made in a world
abbrev pub account_of : Federation → (federates : ℕ) → Made → Account
account_of w federates made = record {
  line = made.line;
  step = made.step;
  brought = brought_by w made.step;
  outcome = (step_in w made.step).outcome;
  row = row_made made.step (step_in w made.step).outcome (step_in w made.step).world;
  before = counts_in w federates;
}

-- the k-th frame of a direction, if it is there, by the words that `deliver` names it with
abbrev pub sent_line : Draft → Dir → (k : ℕ) → Option Frame → List ℕ
sent_line d dir k None = []
sent_line d dir k (Some frame) =
    codes "  sent " ++ (way_of dir
    ++ (codes " " ++ (federate_name d (federate_of dir)
    ++ (codes " " ++ (decimal k ++ (codes ": " ++ (frame_text d frame ++ codes "\n")))))))

-- the frames of a direction after the first `gone`, each on a line of its own
abbrev pub sent_after : Draft → Dir → (gone : ℕ) → List Frame → List ℕ
sent_after d dir gone frames =
    each_from (λ i. sent_line d dir (i + 1) (frame_at frames (i + 1))) gone (length frames)

-- the frames sent over federate j's link after this many: of the federate, and then to it
abbrev pub link_text : Draft → Federation → LinkCounts → (j : ℕ) → List ℕ
link_text d later before j =
    sent_after d (Up j) before.up (frames_in later (Up j))
    ++ sent_after d (Down j) before.down (frames_in later (Down j))

-- over all links, federate by federate
abbrev pub sent_text : Draft → Federation → (before : List LinkCounts) → List ℕ
sent_text d later before = printed_each (λ j. link_text d later (get_or before j no_frames) j) (length before)

-- the row of a turn, if there is one
abbrev pub row_text : Draft → List Row → List ℕ
row_text d [] = []
row_text d (row ∷ rest) = codes "  " ++ printed_rows d.federates (row ∷ rest)

-- what is written of a step, in the world after it
abbrev pub account_text : Draft → Federation → Account → List ℕ
account_text d later a =
    decimal a.line ++ (codes " " ++ (printed_step d a.step
    ++ (ending_text a.brought a.outcome ++ (row_text d a.row ++ sent_text d later a.before))))

-- what is written of a step made in a world
abbrev pub made_text : Draft → Federation → Made → List ℕ
made_text d w made = account_text d (step_in w made.step).world (account_of w (federate_count d) made)

-- what is written of these steps, made one after the other in a world
abbrev pub frames_text : Draft → Federation → List Made → List ℕ
frames_text d w [] = []
frames_text d w (made ∷ rest) = made_text d w made ++ frames_text d (step_in w made.step).world rest
