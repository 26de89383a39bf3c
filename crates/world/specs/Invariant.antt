-- What every world keeps.
use Rattle.std.specs.Prelude.{◌≡◌, Bool, List}
use Rattle.std.specs.List.{list_any}
use Rattle.plan.specs.declared.draft.Draft.{Draft}
use Rattle.plan.specs.declared.input.Input.{Input}
use Rattle.plan.specs.External.{AreInputsOf}
use Rattle.plan.specs.Legal.{IsLegal}
use Rattle.reactor_program.specs.Behaviour.{Behaviour}
use Rattle.reactor_programs.specs.Programs.{AreProgramsOf}
use Rattle.world_stations.specs.Kept.{is_forget}
use Rattle.world_stations.specs.Federation.{Federation, world_after}
use Rattle.world.specs.World.{WorldView}

-- a legal plan, with its programs and inputs
pub record IsFederation (w : WorldView) : Type 0 where
  pub legal : IsLegal w.draft
  pub programs_fit : AreProgramsOf w.draft w.programs
  pub inputs_fit : AreInputsOf w.draft w.inputs

-- its plan is legal, its programs and inputs are the plan's, its stations are those after its steps, and it knows
-- whether somebody forgot
pub record IsMade (d : Draft) (programs : List Behaviour) (inputs : List Input) (stations : Federation)
    (has_forgotten : Bool) : Type 0 where
  pub legal : IsLegal d
  pub programs_fit : AreProgramsOf d programs
  pub inputs_fit : AreInputsOf d inputs
  pub after : stations ≡ world_after d programs inputs stations.steps
  pub forgotten : has_forgotten ≡ list_any is_forget stations.steps
