-- The desks that are gathered after a run, from the shares that came back of their nodes' workers.
use Rattle.std.specs.Prelude.{◌≡◌, ℕ, List, length, slice_get, Some, Vec}
use Rattle.std.specs.Global.{Global}
use Rattle.node_journal.specs.declared.slip.Slip.{Slip}
use Rattle.desk.specs.Replay.{Desk}
use Rattle.desk.specs.Shares.{Agree}
use Rattle.wires.specs.declared.threads.RunResults.{RunResults}

-- the journal of each federate's desk, by number, is what the shares of its workers say
pub record FederatesAgree {View : Type 0} (desks : List (Desk View)) (shares : List (Vec (List Slip) Global)) :
    Type 0 where
  pub each : length desks ≡ length shares
  pub agree : (k : ℕ) (desk : Desk View) (own : Vec (List Slip) Global) → slice_get desks k ≡ Some desk
      → slice_get shares k ≡ Some own → Agree desk.journal own.items

-- the desks of a federation, the federates' by number, are what the shares of their own workers say
pub record AreGathered {OfCoordinator OfFederate : Type 0} (coordinator : Desk OfCoordinator)
    (federates : List (Desk OfFederate)) (results : RunResults) : Type 0 where
  pub coordinator_agrees : Agree coordinator.journal results.coordinator.items
  pub federates_agree : FederatesAgree federates results.federates.items
