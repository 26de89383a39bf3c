-- A world by its fields, as its value shows it.
use Rattle.std.proofs.Common.{◌≡◌, Bool, List, subst}
use Rattle.std.specs.List.{list_any}
use Rattle.plan.specs.declared.draft.Draft.{Draft}
use Rattle.plan.specs.declared.input.Input.{Input}
use Rattle.reactor_program.specs.Behaviour.{Behaviour}
use Rattle.world_stations.specs.Kept.{is_forget}
use Rattle.world_stations.specs.Federation.{Federation}
use Rattle.world.specs.World.{WorldView, stations_of}
use Rattle.world.specs.Invariant.{IsFederation, IsMade}

-- what the fields are, by the value
pub record IsSeen (v : WorldView) (stations : Federation) (forgotten : Bool) : Type 0 where
  pub fit : IsFederation v
  pub stations_are : stations ≡ stations_of v
  pub forgotten_is : forgotten ≡ list_any is_forget v.steps

pub seen : {d : Draft} {programs : List Behaviour} {inputs : List Input} {stations : Federation} {forgotten : Bool} {v : WorldView} →
    record { draft = d; programs = programs; inputs = inputs; steps = stations.steps } ≡ v → IsMade d programs inputs stations forgotten → IsSeen v stations forgotten
seen {d} {programs} {inputs} {stations} {forgotten} {v} is made =
    subst (λ x. IsSeen x stations forgotten) is
    (record {
      fit = record { legal = made.legal; programs_fit = made.programs_fit; inputs_fit = made.inputs_fit };
      stations_are = made.after;
      forgotten_is = made.forgotten;
    })
