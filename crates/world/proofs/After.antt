-- One more step of a world.
use Rattle.std.proofs.Common.{◌≡◌, Bool, List, [], ◌∷◌, ◌++◌, false, refl, sym, ap, ◌∙◌}
use Rattle.std.specs.Prelude.{◌||◌}
use Rattle.std.specs.List.{list_any}
use Rattle.std.proofs.lemmas.List.Folds.{list_any-append}
use Rattle.std.proofs.Math.Bool.{or-false}
use Rattle.plan.specs.declared.draft.Draft.{Draft}
use Rattle.plan.specs.declared.input.Input.{Input}
use Rattle.reactor_program.specs.Behaviour.{Behaviour}
use Rattle.node_cores.specs.FederateCore.{FederateNode}
use Rattle.node_cores.specs.CoordinatorCore.{CoordinatorNode}
use Rattle.world_stations.specs.declared.step.Step.{Step}
use Rattle.world_stations.specs.declared.outcome.Outcome.{Outcome}
use Rattle.world_stations.specs.Kept.{is_forget}
use Rattle.world_stations.specs.World.{Applied}
use Rattle.world_stations.specs.Federation.{Federation, world_after, step_in}
use Rattle.world_stations.proofs.Worlds.{listed_so, one_more}
use Rattle.world.specs.Invariant.{IsMade}

-- the world after one more step of it
record IsStepped (d : Draft) (programs : List Behaviour) (inputs : List Input) (stations later : Federation) (step : Step) (o : Outcome) : Type 0 where
  pub listed : later.steps ≡ stations.steps ++ step ∷ []
  pub after : later ≡ world_after d programs inputs later.steps

stepped : (d : Draft) (programs : List Behaviour) (inputs : List Input) (stations later : Federation) (step : Step) (o : Outcome) →
    stations ≡ world_after d programs inputs stations.steps → ◌≡◌ {A = Applied CoordinatorNode FederateNode} (record { world = later; outcome = o }) (step_in stations step) →
    IsStepped d programs inputs stations later step o
stepped d programs inputs stations later step o is made =
    let then : later ≡ (step_in (world_after d programs inputs stations.steps) step).world =
    ap (λ (a : Applied _ _). a.world) made ∙ ap (λ (w : Federation). (step_in w step).world) is in
    let longer : later ≡ world_after d programs inputs (stations.steps ++ step ∷ []) = then ∙ sym (one_more d programs inputs stations.steps step) in
    let listed : later.steps ≡ stations.steps ++ step ∷ [] = ap (λ (w : Federation). w.steps) longer ∙ listed_so d programs inputs (stations.steps ++ step ∷ []) in
    record {
      listed = listed;
      after = longer ∙ ap (world_after d programs inputs) (sym listed);
    }

-- the world after a step is what its steps made
pub made_after : (d : Draft) (programs : List Behaviour) (inputs : List Input) (stations later : Federation) (step : Step) (o : Outcome) (before now : Bool) →
    IsMade d programs inputs stations before → ◌≡◌ {A = Applied CoordinatorNode FederateNode} (record { world = later; outcome = o }) (step_in stations step) →
    now ≡ (before || is_forget step) → IsMade d programs inputs later now
made_after d programs inputs stations later step o before now m made is =
    let s = stepped d programs inputs stations later step o m.after made in
    record {
      legal = m.legal;
      programs_fit = m.programs_fit;
      inputs_fit = m.inputs_fit;
      after = s.after;
      forgotten =
          is ∙ (ap (λ (b : Bool). b || is_forget step) m.forgotten ∙
          (ap (λ (b : Bool). list_any is_forget stations.steps || b) (sym (or-false (is_forget step))) ∙
          (sym (list_any-append is_forget stations.steps (step ∷ [])) ∙ ap (list_any is_forget) (sym s.listed))));
    }
