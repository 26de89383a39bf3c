-- What a replay of recorded steps prints.
use Rattle.std.specs.Prelude.{ℕ, ◌+◌, List, [], ◌∷◌, ◌++◌, Option, codes}
use Rattle.std.specs.Io.KnownBytes.{Appends}
use Rattle.world_stations.specs.declared.step.Step.{Step}
use Rattle.world_stations.specs.declared.step.Step.TheVariants.{Deliver}
use Rattle.world.specs.World.{stations_of}
use Rattle.recorder.specs.Audited.{Claim, world_of}
use Rattle.files_text.specs.declared.row_format.RowFormat.TheVariants.{Text}
use Rattle.fedrun_replay.specs.Play.{Made, refusals}
use Rattle.fedrun_run.specs.Printed.{printed_reports}

-- the number of the frame that a step delivers; 0 where it delivers none
abbrev pub frame_in : Step → ℕ
frame_in (Deliver dir k) = k
frame_in step = 0

-- steps that are made for lines one after the other, the first of which has this number
abbrev pub made_from : ℕ → List Step → List Made
made_from number [] = []
made_from number (step ∷ rest) = record { line = number; step = step } ∷ made_from (number + 1) rest

-- a writer's bytes grew by which of these steps the federation's world refused, the n-th as that of line n; then by the
-- rows that each federate reports, federate by federate; then by the end
abbrev pub PrintsAgain : Claim → List Step → Option (List ℕ) → Option (List ℕ) → Type 0
PrintsAgain c steps before after =
    Appends before after (refusals (stations_of (world_of c [])) (made_from 1 steps)
    ++ (printed_reports Text c.draft c.reports ++ codes "end\n"))
