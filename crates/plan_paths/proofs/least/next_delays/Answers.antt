use Rattle.std.proofs.Common.{rules, ◌<◌, length, get_or}
use Rattle.std.specs.Prelude.{None}
use Rattle.plan_paths.specs.Least.{least_into}
use Rattle.plan_paths.proofs.LeastRounds.{round_more}
use Rattle.plan_paths.proofs.least.next_delays.Goals as goal

pub loop-connection-preserved : goal.loop-connection-preserved
loop-connection-preserved c =
    let below : c.target-target.result < length c.loop-connection.next.items = search rules in
    record {
      len = search rules;
      so_far = λ j j_below.
          round_more (λ m. get_or c.args.delays.now m None) c.args.from j c.args.connections.now c.loop-connection.connection-index c.connection-item.result
          c.loop-connection.next.items c.target-target.result c.index.result.now c.lesser.result c.ending-longer.result
          (least_into (λ m. get_or c.args.delays.now m None) c.args.from j c.args.connections.now)
          c.loop-connection-test.true c.connection-item.is c.target-target.ensures below c.index.ensures c.lesser.ensures c.ending-longer.ensures
          (c.loop-connection.invariant.so_far j j_below);
    }
