-- An audit that is begun while the nodes of a federation still write their journals.
use Rattle.std.specs.Prelude.{◌≡◌, ℕ, ◌+◌, Bool, false, List, length}
use Rattle.plan.specs.External.{AreInputsOf}
use Rattle.plan.specs.Federation.{federate_count}
use Rattle.reactor_programs.specs.Programs.{AreProgramsOf}
use Rattle.node.specs.declared.event.Event.{Event}
use Rattle.recorder_search.specs.Reading.{IsReading}
use Rattle.world.specs.World.{WorldView}
use Rattle.recorder.specs.Placing.{world_motion}

-- from a federation's initial world this one was made, and what is known of its journals is read so far
pub record IsAhead (initial made : WorldView) (read : List ℕ) (known : List (List Event)) : Type 0 where
  -- one journal of the coordinator, and one of each federate
  pub sized : length read ≡ federate_count initial.draft + 1
  pub reading : IsReading world_motion initial known (record { state = made; read = read })

-- the same of a begun audit of that federation; where steps were lost, nothing is said of its world
pub record IsIncremental (initial made : WorldView) (read : List ℕ) (known : List (List Event))
    (is_given_up : Bool) : Type 0 where
  pub programs : AreProgramsOf initial.draft initial.programs
  pub inputs : AreInputsOf initial.draft initial.inputs
  pub ahead : is_given_up ≡ false → IsAhead initial made read known
