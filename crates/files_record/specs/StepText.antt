-- Steps as text, in the words of the schedule file.
use Rattle.std.specs.Prelude.{ℕ, List, ◌++◌, codes}
use Rattle.std.specs.Fmt.{decimal}
use Rattle.std.specs.List.{flat_map}
use Rattle.plan.specs.declared.draft.Draft.{Draft}
use Rattle.world_stations.specs.declared.dir.Dir.{Dir}
use Rattle.world_stations.specs.declared.dir.Dir.TheVariants.{Up, Down}
use Rattle.world_stations.specs.declared.step.Step.{Step}
use Rattle.world_stations.specs.declared.step.Step.TheVariants.{Deliver, Resend, Reconnect, Announce, Advance, Forget}
use Rattle.world_stations.specs.World.{federate_of}
use Rattle.files_text.specs.PlanText.{federate_name}

-- the word of a direction
abbrev pub way_of : Dir → List ℕ
way_of (Up j) = codes "up"
way_of (Down j) = codes "down"

-- the words of a step, parted by one space: what happens, in which direction, at which federate or on its link, and
-- which frame comes
abbrev pub step_text : Draft → Step → List ℕ
step_text d (Deliver dir k) =
    codes "deliver " ++ (way_of dir ++ (codes " " ++ (federate_name d (federate_of dir) ++ (codes " " ++ decimal k))))
step_text d (Resend dir) = codes "resend " ++ (way_of dir ++ (codes " " ++ federate_name d (federate_of dir)))
step_text d (Reconnect dir) = codes "reconnect " ++ (way_of dir ++ (codes " " ++ federate_name d (federate_of dir)))
step_text d (Announce j) = codes "announce " ++ federate_name d j
step_text d (Advance j) = codes "advance " ++ federate_name d j
step_text d (Forget j) = codes "forget " ++ federate_name d j

-- a step on a line of its own
abbrev pub printed_step : Draft → Step → List ℕ
printed_step d step = step_text d step ++ codes "\n"

-- steps as a schedule file, line by line
abbrev pub printed_steps : Draft → List Step → List ℕ
printed_steps d steps = flat_map (printed_step d) steps
