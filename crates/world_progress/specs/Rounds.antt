-- Rounds: which steps they make of a world, and where the cursors of its directions go.
use Rattle.std.specs.Prelude.{ℕ, zero, suc, ◌+◌, ◌-◌, ◌<◌, ◌≤◌, List, [], ◌∷◌, ◌++◌, length, map, get_or, set}
use Rattle.std.specs.List.{range_with_len}
use Rattle.node_cores.specs.FederateCore.{federate_core}
use Rattle.node_cores.specs.CoordinatorCore.{coordinator_core}
use Rattle.world_stations.specs.declared.dir.Dir.{Dir}
use Rattle.world_stations.specs.declared.dir.Dir.TheVariants.{Up, Down}
use Rattle.world_stations.specs.declared.step.Step.{Step}
use Rattle.world_stations.specs.declared.step.Step.TheVariants.{Deliver, Resend, Announce, Advance}
use Rattle.world_stations.specs.World.{frames_in, federate_of, after_steps}
use Rattle.world_stations.specs.Federation.{Federation}

-- for each federate, how many frames of each direction of its link rounds have gone past
pub record Cursors : Type 0 where
  pub up : List ℕ
  pub down : List ℕ

-- the cursor of a direction, or 0 where there is no such federate
abbrev pub cursor_in : Cursors → Dir → ℕ
cursor_in c (Up j) = get_or c.up j 0
cursor_in c (Down j) = get_or c.down j 0

-- the cursor of a direction goes to this number
abbrev pub moved_to : Cursors → Dir → ℕ → Cursors
moved_to c (Up j) count = record c { up = set c.up j count }
moved_to c (Down j) count = record c { down = set c.down j count }

-- a world, and the cursors
pub record Playing : Type 0 where
  pub world : Federation
  pub cursors : Cursors

-- how many frames were ever sent in a direction
abbrev pub sent_in : Playing → Dir → ℕ
sent_in p dir = length (frames_in p.world dir)

-- these steps are made; the cursors stay
abbrev pub with_made : Playing → List Step → Playing
with_made p steps = record p { world = after_steps coordinator_core federate_core p.world steps }

-- the cursor of a direction goes to this number; the world stays
abbrev pub with_cursor : Playing → Dir → ℕ → Playing
with_cursor p dir count = record p { cursors = moved_to p.cursors dir count }

-- this many frames of a direction come, those after the first `gone`: Deliver dir (gone + 1), .., Deliver dir (gone +
-- count)
abbrev pub delivers : Dir → (gone count : ℕ) → List Step
delivers dir gone count = map (λ before. Deliver dir (before + 1)) (range_with_len gone count)

-- the frames of a direction come that are above its cursor, up to the number of those sent by now
abbrev pub waiting : Playing → Dir → List Step
waiting p dir = delivers dir (cursor_in p.cursors dir) (sent_in p dir - cursor_in p.cursors dir)

-- what a player is to do
pub data Task : Type 0 where
  -- a step
  makes : Step → Task
  -- the frames of a direction come that are above its cursor, which goes to the number of frames sent before they came
  brings : Dir → Task
  -- the cursor of a direction goes to the number of frames sent, and none of them comes
  skips : Dir → Task

-- the steps of a task
abbrev pub steps_of_task : Task → Playing → List Step
steps_of_task (makes step) p = step ∷ []
steps_of_task (brings dir) p = waiting p dir
steps_of_task (skips dir) p = []

-- after a task
abbrev pub after_task : Task → Playing → Playing
after_task (makes step) p = with_made p (step ∷ [])
after_task (brings dir) p = with_cursor (with_made p (waiting p dir)) dir (sent_in p dir)
after_task (skips dir) p = with_cursor p dir (sent_in p dir)

-- after tasks, one after the other
abbrev pub after_tasks : List Task → Playing → Playing
after_tasks [] p = p
after_tasks (task ∷ rest) p = after_tasks rest (after_task task p)

-- the steps of tasks, one after the other
abbrev pub steps_of_tasks : List Task → Playing → List Step
steps_of_tasks [] p = []
steps_of_tasks (task ∷ rest) p = steps_of_task task p ++ steps_of_tasks rest (after_task task p)

-- what is to be done for each number below this one, in order
abbrev pub for_each : (ℕ → List Task) → ℕ → List Task
for_each tasks zero = []
for_each tasks (suc count) = for_each tasks count ++ tasks count

-- a federate announces and advances
abbrev pub turn_tasks : ℕ → List Task
turn_tasks j = makes (Announce j) ∷ makes (Advance j) ∷ []

-- a federate and the coordinator send again what isn't acknowledged at their link
abbrev pub resend_tasks : ℕ → List Task
resend_tasks j = makes (Resend (Up j)) ∷ makes (Resend (Down j)) ∷ []

-- a round of this many federates: in order each announces and advances; then what each sent comes, in order; then what
-- was sent to each
abbrev pub round_tasks : ℕ → List Task
round_tasks federates =
    for_each turn_tasks federates ++ (for_each (λ j. brings (Up j) ∷ []) federates
    ++ for_each (λ j. brings (Down j) ∷ []) federates)

-- a closing round: in order at each link is sent again what isn't acknowledged; then one round
abbrev pub closing_round_tasks : ℕ → List Task
closing_round_tasks federates = for_each resend_tasks federates ++ round_tasks federates

-- this many closing rounds
abbrev pub closing_rounds_tasks : ℕ → (rounds : ℕ) → List Task
closing_rounds_tasks federates rounds = for_each (λ round. closing_round_tasks federates) rounds

-- after this many closing rounds
abbrev pub after_closing_rounds : ℕ → (rounds : ℕ) → Playing → Playing
after_closing_rounds federates rounds p = after_tasks (closing_rounds_tasks federates rounds) p

-- rounds haven't gone past more frames of a federate's direction than were sent
abbrev pub IsWithinSent : Playing → Type 0
IsWithinSent p = (dir : Dir) → federate_of dir < length p.world.federates → cursor_in p.cursors dir ≤ sent_in p dir
