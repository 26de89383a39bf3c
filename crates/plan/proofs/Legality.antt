-- Levels and ranks of legal drafts.
use Rattle.std.proofs.Common.{◌≡◌, ℕ, ◌<◌, List}
use Rattle.std.specs.Prelude.{Contains, IsTrue}
use Rattle.tag.specs.LogicalTime.{origin}
use Rattle.network.specs.Connection.{Connection, IsPath, total_of}
use Rattle.plan_paths.specs.Levels.{is_zero_delay, IsLevel}
use Rattle.plan_paths.proofs.Rising as rising
use Rattle.plan.specs.declared.draft.Draft.{Draft}
use Rattle.plan.specs.Federation.{connections_of, federate_count, level_of, rank_of}
use Rattle.plan.specs.Legal.{IsLegal}
use Rattle.plan.proofs.Plans.{ends_below}

pub level_is : (d : Draft) (j : ℕ) → IsLegal d → IsLevel (connections_of d) j (level_of d j)
level_is d j legal = rising.level_is (connections_of d) (federate_count d) j legal.no_zero_delay_cycle (ends_below d)

pub rank_rises : (d : Draft) (c : Connection) → IsLegal d → Contains (connections_of d) c → IsTrue (is_zero_delay c) → rank_of d c.source < rank_of d c.target
rank_rises d c legal contained zero_delay =
    rising.rank_rises (connections_of d) (federate_count d) c legal.no_zero_delay_cycle (ends_below d) contained zero_delay

pub path_rises : (d : Draft) (i j : ℕ) (path : List Connection) → IsLegal d → IsPath (connections_of d) i path j → total_of path ≡ origin → rank_of d i < rank_of d j
path_rises d i j path legal is_path total =
    rising.path_rises (connections_of d) (federate_count d) i j path legal.no_zero_delay_cycle (ends_below d) is_path total

pub ruleset level_laws = (level_is, path_rises)
