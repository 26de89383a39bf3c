-- Desks to which nothing came, and their ends.
use Rattle.std.proofs.Common.{◌≡◌, ◌∙◌, ℕ, ◌+◌, List, [], ◌∷◌, ◌++◌, map, refl, sym, ap, subst, arith}
use Rattle.std.specs.List.{range_with_len}
use Rattle.std.proofs.lemmas.List.FromFn.{map-range_with_len_more}
use Rattle.link.specs.Image.{Image}
use Rattle.plan.specs.declared.draft.Draft.{Draft}
use Rattle.plan.specs.declared.input.Input.{Input}
use Rattle.reactor_program.specs.Behaviour.{Behaviour}
use Rattle.plan.specs.Federation.{federate_count}
use Rattle.node.specs.Step.{Station, fresh, initial_of}
use Rattle.desk.specs.Replay.{Desk}
use Rattle.node_cores.specs.FederateCore.{FederateNode, federate_core}
use Rattle.node_cores.specs.CoordinatorCore.{CoordinatorNode, coordinator_core}
use Rattle.world_stations.specs.Initial.{new_end, new_coordinator, new_federate}
use Rattle.fedrun_run.specs.Desks.{unused, unused_federates}

fresh_again : (js : List ℕ) → map fresh (map new_end js) ≡ map new_end js
fresh_again [] = refl
fresh_again (j ∷ js) = ap (λ (es : List Image). new_end j ∷ es) (fresh_again js)

-- the coordinator's station, as it is made, has begun with nothing
pub coordinator_unused : (d : Draft) (s : Station CoordinatorNode) → s ≡ new_coordinator d → s ≡ initial_of coordinator_core s
coordinator_unused d s is =
    subst (λ x. x ≡ initial_of coordinator_core x) (sym is)
    (ap (λ (es : List Image). record { node = (new_coordinator d).node; ends = es }) (sym (fresh_again (range_with_len 0 (federate_count d)))))

-- nor has a federate's
pub federate_unused : (d : Draft) (programs : List Behaviour) (inputs : List Input) (j : ℕ) (s : Station FederateNode) → s ≡ new_federate d programs inputs j →
    s ≡ initial_of federate_core s
federate_unused d programs inputs j s is = subst (λ x. x ≡ initial_of federate_core x) (sym is) refl

-- the desk of one federate more
pub desks_more : (d : Draft) (programs : List Behaviour) (inputs : List Input) (before after : List (Desk FederateNode)) (desk : Desk FederateNode) (count : ℕ) →
    after ≡ before ++ desk ∷ [] → desk ≡ unused (new_federate d programs inputs count) → before ≡ unused_federates d programs inputs count → after ≡ unused_federates d programs inputs (count + 1)
desks_more d programs inputs before after desk count is new so_far =
    is ∙ (ap (λ (desks : List (Desk FederateNode)). desks ++ desk ∷ []) so_far ∙
    (ap (λ (x : Desk FederateNode). unused_federates d programs inputs count ++ x ∷ []) new ∙
    sym (map-range_with_len_more (λ j. unused (new_federate d programs inputs j)) 0 count count (omega arith))))
