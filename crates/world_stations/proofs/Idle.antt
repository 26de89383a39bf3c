-- An event of a turn for which a federate has nothing to do changes nothing.
use Rattle.std.proofs.Common.{◌≡◌, ℕ, zero, suc, false, List, [], ◌∷◌, ◌++◌, set, get_or, slice_get, Some, refl, sym, ap, ◌∙◌, arith}
use Rattle.signal.specs.declared.frame.Frame.{Frame}
use Rattle.node.specs.declared.event.Event.{Event}
use Rattle.node.specs.declared.node_id.NodeId.TheVariants.{Federate}
use Rattle.node.specs.Core.{Core}
use Rattle.node.specs.Step.{Station, Stepped, Silent, IsIdle, step_of}
use Rattle.node.proofs.Idle.{idle_is_silent}
use Rattle.world_stations.specs.declared.outcome.Outcome.TheVariants as outcome
use Rattle.world_stations.specs.World.{World, Applied, unchanged, after_federate, at_federate, at_node}
use Rattle.world_stations.proofs.Ways.{set_same}

-- what stands at a place, put there again
put_back : {X : Type 0} (xs : List X) (i : ℕ) (x : X) → slice_get xs i ≡ Some x → set xs i x ≡ xs
put_back [] i x found = refl
put_back (a ∷ xs) zero x found = let here : a ≡ x = grind arith in ap (λ y. y ∷ xs) (sym here)
put_back (a ∷ xs) (suc i) x found = ap (λ ys. a ∷ ys) (put_back xs i x found)

-- the world is as it was
pub idle_federate : {OfCoordinator OfFederate CoordinatorRow Row : Type 0} (of_coordinator : Core OfCoordinator CoordinatorRow) (of_federate : Core OfFederate Row) (w : World OfCoordinator OfFederate) (j : ℕ) (s : Station OfFederate) (e : Event) →
    slice_get w.federates j ≡ Some s → IsIdle of_federate s e → at_node of_coordinator of_federate w (Federate j) e ≡ unchanged w
idle_federate of_coordinator of_federate w j s e found idle =
    let made : Stepped _ = record { station = s; answer = Silent } in
    let there : at_node of_coordinator of_federate w (Federate j) e ≡ after_federate w j (step_of of_federate false s e) = ap (at_federate of_federate w j e) found in
    let same : after_federate w j (step_of of_federate false s e) ≡ after_federate w j made = ap (after_federate w j) (idle_is_silent of_federate false s e idle) in
    let with_stations : List (Station _) → Applied _ _ =
    λ stations. record { world = record w { federates = stations; up = set w.up j (get_or w.up j [] ++ []) }; outcome = outcome.Nothing } in
    let with_up : List (List Frame) → Applied _ _ = λ up. record { world = record w { up = up }; outcome = outcome.Nothing } in
    let stays : after_federate w j made ≡ unchanged w = ap with_stations (put_back w.federates j s found) ∙ ap with_up (set_same w.up j) in
    there ∙ (same ∙ stays)
