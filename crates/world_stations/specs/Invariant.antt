-- What every world keeps, and a world of which nothing was asked.
use Rattle.std.specs.Prelude.{◌≡◌, Bool, true, false, List, [], length, replicate, All}
use Rattle.node.specs.Step.{Station}
use Rattle.world_stations.specs.World.{World}

-- each federate has one peer
abbrev pub HaveOnePeer : {OfFederate : Type 0} → List (Station OfFederate) → Type 0
HaveOnePeer federates = All (λ s. length s.ends ≡ 1) federates

-- the coordinator is the coordinator, no federate is, and each federate has one peer
pub record IsWorld {OfFederate : Type 0} (of_coordinator of_federate : Bool)
    (federates : List (Station OfFederate)) : Type 0 where
  pub is_coordinator : of_coordinator ≡ true
  pub is_federate : of_federate ≡ false
  pub one_peer : HaveOnePeer federates

-- these stations, which have sent nothing
abbrev pub unused : {OfCoordinator OfFederate : Type 0} → Station OfCoordinator → List (Station OfFederate)
    → World OfCoordinator OfFederate
unused coordinator federates = record {
  coordinator = coordinator;
  federates = federates;
  up = replicate (length federates) [];
  down = replicate (length federates) [];
  steps = [];
}
