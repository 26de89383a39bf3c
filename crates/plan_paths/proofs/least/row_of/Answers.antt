use Rattle.std.proofs.Common.{arith, ◌≡◌, ◌∙◌, ap, get_or, length}
use Rattle.std.specs.Prelude.{None}
use Rattle.plan_paths.proofs.LeastRounds.{next_round}
use Rattle.plan_paths.proofs.least.row_of.Goals as goal

pub loop-most-preserved : goal.loop-most-preserved
loop-most-preserved c =
    let same : length c.as_slice.result.now ≡ c.args.count = ap length c.as_slice.ensures.value ∙ c.loop-most.invariant.len in
    record {
      len = c.in_ok-delays-2.ensures.len ∙ same;
      so_far = next_round c.in_ok-delays-2.delays.items c.as_slice.result.now c.args.connections.now c.loop-most._most c.args.count c.args.from
          c.requires
          (λ j below. ap (λ xs. get_or xs j None) c.as_slice.ensures.value ∙ c.loop-most.invariant.so_far j below)
          (λ j below. c.in_ok-delays-2.ensures.into j (omega arith));
    }
