use Rattle.std.proofs.Common.{ℕ, ◌<◌, get_or}
use Rattle.network.specs.Connection.{Connection}
use Rattle.network.specs.Lawful.{HaveDifferentEnds}
use Rattle.plan_paths.proofs.sources.second_source.Given as goal

abbrev pub invariant-loop-place : goal.invariant-loop-place
invariant-loop-place l =
    (j k : ℕ) (d : Connection) → j < k → k < l.place → HaveDifferentEnds (get_or l.connections j d) (get_or l.connections k d)
