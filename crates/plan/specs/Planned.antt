-- What a plan keeps: its draft is legal, and beside it stand its connections, ranks and least delays.
use Rattle.std.specs.Prelude.{◌≡◌, ℕ, ◌<◌, List, length, slice_index, Option}
use Rattle.tag.specs.LogicalTime.{LogicalTime}
use Rattle.network.specs.Connection.{Connection}
use Rattle.plan_paths.specs.Least.{IsLeastTable}
use Rattle.plan.specs.declared.draft.Draft.{Draft}
use Rattle.plan.specs.Federation.{connections_of, rank_of, federate_count}
use Rattle.plan.specs.Legal.{IsLegal}

-- a legal draft, with its connections by number, each federate's rank, and the least delays between any two federates
pub record IsPlanned (d : Draft) (by_number : List Connection) (rank_by_federate : List ℕ)
    (delay_table : List (List (Option LogicalTime))) : Type 0 where
  pub legal : IsLegal d
  pub connections : by_number ≡ connections_of d
  pub rank_count : length rank_by_federate ≡ federate_count d
  pub ranks : (i : ℕ) → i < federate_count d → slice_index rank_by_federate i ≡ rank_of d i
  pub delays : IsLeastTable (connections_of d) (federate_count d) delay_table
