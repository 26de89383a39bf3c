use Rattle.std.proofs.Common.{arith, rules, ℕ, ◌<◌, get_or, below_more}
use Rattle.network.specs.Connection.{Connection}
use Rattle.network.specs.Lawful.{HaveDifferentEnds}
use Rattle.plan_paths.proofs.Apart.{apart_from_before}
use Rattle.plan_paths.proofs.sources.second_source.Goals as goal

pub loop-place-preserved : goal.loop-place-preserved
loop-place-preserved c = λ j k d j_below k_below.
    below_more
    (λ k. (j : ℕ) (d : Connection) → j < k → HaveDifferentEnds (get_or c.args.connections.now j d) (get_or c.args.connections.now k d))
    c.loop-place.place
    (λ k k_below j d j_below. c.loop-place.invariant j k d j_below k_below)
    (apart_from_before c.args.connections.now c.loop-place.place c.index-connections-place.result (omega arith)
    c.index-connections-place.is (search rules))
    k k_below j d j_below
