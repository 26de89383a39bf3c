use Rattle.std.proofs.Common.{rules, ◌≡◌, ◌++◌, ◌∷◌, []}
use Rattle.plan_paths.proofs.LeastRounds.{row_pushed}
use Rattle.plan_paths.proofs.least.LeastDelays.new.Goals as goal

pub loop-from-preserved : goal.loop-from-preserved
loop-from-preserved c =
    let items : c.push.new.self.items ≡ c.loop-from.rows.items ++ c.in_ok-row_of.field-0 ∷ [] = search rules in
    record {
      len = search rules;
      so_far = row_pushed c.args.connections.now c.args.count c.loop-from.rows.items c.push.new.self.items c.loop-from.from c.in_ok-row_of.field-0
          c.loop-from.invariant.len items c.loop-from.invariant.so_far c.in_ok-row_of.ensures;
    }
