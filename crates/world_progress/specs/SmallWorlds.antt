-- Two small federations of one federate each, and the steps that closing rounds make of their worlds, reckoned by hand.
use Rattle.std.specs.Prelude.{Bool, List, [], ◌∷◌, ◌++◌, codes}
use Rattle.plan_slots.specs.declared.slots.Slots.{Slots}
use Rattle.plan.specs.declared.draft.Draft.{Draft}
use Rattle.reactor_program.specs.Behaviour.{Behaviour}
use Rattle.world_stations.specs.declared.dir.Dir.TheVariants.{Up, Down}
use Rattle.world_stations.specs.declared.step.Step.{Step}
use Rattle.world_stations.specs.declared.step.Step.TheVariants.{Deliver, Resend, Announce, Advance}
use Rattle.world_stations.specs.Federation.{initial_world}
use Rattle.world_progress.specs.Rounds.{Playing}

-- without slots, but for startup or not
abbrev pub bare_slots : Bool → Slots
bare_slots startup = record { startup = startup; inputs = []; outputs = []; timers = []; actions = []; physical = [] }

-- one federate, which stops at 0
abbrev pub alone : Bool → Draft
alone startup =
    record { stop = 0; federates = record { name = codes "one"; slots = bare_slots startup } ∷ []; connections = [] }

-- and does nothing
abbrev pub alone_programs : Bool → List Behaviour
alone_programs startup = record { slots = bare_slots startup; states = []; reactions = [] } ∷ []

-- its world, of which nothing was asked
abbrev pub unplayed : Bool → Playing
unplayed startup =
    record {
      world = initial_world (alone startup) (alone_programs startup) [];
      cursors = record { up = 0 ∷ []; down = 0 ∷ [] };
    }

-- what every closing round begins with
abbrev pub first_steps : List Step
first_steps = Resend (Up 0) ∷ Resend (Down 0) ∷ Announce 0 ∷ Advance 0 ∷ []

-- without an event: it announces that nothing comes (up 1), which is acknowledged (down 1); then nothing is left
abbrev pub quiet_steps : List Step
quiet_steps = first_steps ++ Deliver (Up 0) 1 ∷ Deliver (Down 0) 1 ∷ first_steps

-- with startup: it announces (0, 0) (up 1), which is acknowledged and granted (down 1, 2), and acknowledges that (up
-- 2), which comes in the next round, so that the TAG is sent again (down 3) and acknowledged again (up 4). It runs (0,
-- 0) (its LTC, up 3, down 4), announces that nothing more comes (up 5, down 5); then nothing is left
abbrev pub startup_steps : List Step
startup_steps =
    first_steps ++ Deliver (Up 0) 1 ∷ Deliver (Down 0) 1 ∷ Deliver (Down 0) 2 ∷
    first_steps ++ Deliver (Up 0) 2 ∷ Deliver (Up 0) 3 ∷ Deliver (Down 0) 3 ∷ Deliver (Down 0) 4 ∷
    first_steps ++ Deliver (Up 0) 4 ∷ Deliver (Up 0) 5 ∷ Deliver (Down 0) 5 ∷ first_steps
