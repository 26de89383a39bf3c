-- The stations before the first step are those of the initial world.
use Rattle.std.proofs.Common.{◌≡◌, ℕ, ◌+◌, Bool, List, [], ◌∷◌, ◌++◌, length, map, replicate, refl, sym, ap, ◌∙◌, arith}
use Rattle.std.specs.List.{range_with_len}
use Rattle.std.proofs.lemmas.List.Elements.{All-map}
use Rattle.std.proofs.lemmas.List.FromFn.{length-range_with_len, length-map-range_with_len, map-range_with_len_more}
use Rattle.std.proofs.lemmas.Simd.{splat_is_map}
use Rattle.signal.specs.declared.frame.Frame.{Frame}
use Rattle.plan.specs.declared.draft.Draft.{Draft}
use Rattle.plan.specs.declared.input.Input.{Input}
use Rattle.plan.specs.External.{AreInputsOf}
use Rattle.plan.specs.Federation.{federate_count}
use Rattle.plan.specs.Legal.{IsLegal}
use Rattle.reactor_program.specs.Behaviour.{Behaviour}
use Rattle.reactor_programs.specs.Programs.{AreProgramsOf}
use Rattle.node.specs.Step.{Station}
use Rattle.node_cores.specs.FederateCore.{FederateNode}
use Rattle.node_cores.specs.CoordinatorCore.{CoordinatorNode}
use Rattle.world_stations.specs.Federation.{Federation, initial_world}
use Rattle.world_stations.specs.Initial.{new_coordinator, new_federate, new_federates}
use Rattle.world_stations.specs.Invariant.{HaveOnePeer, unused}
use Rattle.world.specs.Invariant.{IsMade}

-- each federate has one peer
pub one_peer : (d : Draft) (programs : List Behaviour) (inputs : List Input) (count : ℕ) → HaveOnePeer (new_federates d programs inputs count)
one_peer d programs inputs count =
    All-map (λ (s : Station FederateNode). length s.ends ≡ 1) (new_federate d programs inputs) (range_with_len 0 count)
    (λ k j below. refl)

none_sent : (count : ℕ) (federates : List (Station FederateNode)) → length federates ≡ count → ◌≡◌ {A = List (List Frame)} (replicate (length federates) []) (map (λ j. []) (range_with_len 0 count))
none_sent count federates is = splat_is_map (range_with_len 0 count) (length federates) [] (length-range_with_len 0 count ∙ sym is)

-- stations as they are made, which have sent nothing
pub opens : (d : Draft) (programs : List Behaviour) (inputs : List Input) (coordinator : Station CoordinatorNode) (members : List (Station FederateNode)) →
    coordinator ≡ new_coordinator d → members ≡ new_federates d programs inputs (federate_count d) → unused coordinator members ≡ initial_world d programs inputs
opens d programs inputs coordinator members coordinator_is are =
    let count = federate_count d in
    let many : length members ≡ count = ap length are ∙ length-map-range_with_len (new_federate d programs inputs) 0 count in
    let none = none_sent count members many in
    rw (none, coordinator_is, are) refl

-- a world before the first step
pub made_first : {d : Draft} {programs : List Behaviour} {inputs : List Input} {coordinator : Station CoordinatorNode} {members : List (Station FederateNode)} {w : Federation} →
    IsLegal d → AreProgramsOf d programs → AreInputsOf d inputs → coordinator ≡ new_coordinator d → members ≡ new_federates d programs inputs (federate_count d) → w ≡ unused coordinator members →
    IsMade d programs inputs w Bool.false
made_first {d} {programs} {inputs} {coordinator} {members} {w} legal fit given coordinator_is are is =
    let opened : w ≡ initial_world d programs inputs = is ∙ opens d programs inputs coordinator members coordinator_is are in
    record {
      legal = legal;
      programs_fit = fit;
      inputs_fit = given;
      after = rw (opened) refl;
      forgotten = rw (opened) refl;
    }

-- the stations of one federate more
pub members_more : (d : Draft) (programs : List Behaviour) (inputs : List Input) (before after : List (Station FederateNode)) (s : Station FederateNode) (count : ℕ) →
    after ≡ before ++ s ∷ [] → s ≡ new_federate d programs inputs count → before ≡ new_federates d programs inputs count → after ≡ new_federates d programs inputs (count + 1)
members_more d programs inputs before after s count is new so_far =
    is ∙ (ap (λ (stations : List (Station FederateNode)). stations ++ s ∷ []) so_far ∙
    (ap (λ (x : Station FederateNode). new_federates d programs inputs count ++ x ∷ []) new ∙
    sym (map-range_with_len_more (new_federate d programs inputs) 0 count count (omega arith))))
