-- What a federate keeps, whatever signals come.
use Rattle.std.specs.Prelude.{◌≡◌, ℕ, ◌<◌, List, slice_get, Option, Some}
use Rattle.tag.specs.LogicalTime.{LogicalTime}
use Rattle.network.specs.Undivided.{Row}
use Rattle.protocol.specs.Federate.{Federate}
use Rattle.protocol.specs.KeptAlone.{IsFederate}
use Rattle.plan.specs.declared.draft.Draft.{Draft}
use Rattle.plan.specs.declared.input.Input.{Input}
use Rattle.plan.specs.External.{AreInputsOf}
use Rattle.plan.specs.Federation.{federate_count, connections_of, stop_of}
use Rattle.plan.specs.Legal.{IsLegal}
use Rattle.reactor_program.specs.Behaviour.{Behaviour}
use Rattle.plan_network.specs.Network.{network_of}
use Rattle.reactor_programs.specs.Programs.{AreProgramsOf}
use Rattle.reactor.specs.Turn.{Reactor}
use Rattle.reactor_agenda.specs.Agenda.{Agenda}
use Rattle.node_cores.specs.FederateCore.{FederateNode, network_at}
use Rattle.federate.specs.declared.outlet.Outlet.{Outlet}
use Rattle.federate.specs.Outlets.{outlets_from}

-- a federate of a legal plan with its programs and inputs: its reactor has its program, its agenda ends at stop, it
-- knows its connections, and by itself it is a federate
pub record IsKept (d : Draft) (programs : List Behaviour) (inputs : List Input) (number : ℕ) (program : Behaviour)
    (stop : LogicalTime)
    (outlets : List Outlet) (f : Federate) : Type 0 where
  pub legal : IsLegal d
  pub programs_fit : AreProgramsOf d programs
  pub inputs_fit : AreInputsOf d inputs
  pub there : number < federate_count d
  pub program_is : slice_get programs number ≡ Some program
  pub stop_is : stop ≡ stop_of d
  pub outlets_are : outlets ≡ outlets_from number 0 (connections_of d)
  pub alone : IsFederate (network_of d programs inputs) number f

-- a federate by its parts
abbrev pub federate_by_parts : Reactor → Agenda → (granted completed announced : Option LogicalTime)
    → List Row → Federate
federate_by_parts r a granted completed announced rows =
    record {
      states = r.states;
      undone = a.undone;
      granted = granted;
      completed = completed;
      announced = announced;
      rows = rows;
    }

-- what a caller can know of it
pub record IsNode (v : FederateNode) : Type 0 where
  pub legal : IsLegal v.draft
  pub programs_fit : AreProgramsOf v.draft v.programs
  pub inputs_fit : AreInputsOf v.draft v.inputs
  pub there : v.number < federate_count v.draft
  pub alone : IsFederate (network_at v) v.number v.federate
