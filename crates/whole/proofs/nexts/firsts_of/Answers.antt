use Rattle.std.proofs.Common.{◌+◌, length, ap, ◌∙◌, arith}
use Rattle.std.proofs.lemmas.List.{length_push}
use Rattle.whole.proofs.Firsts.{firsts_more}
use Rattle.whole.proofs.nexts.firsts_of.Goals as goal

pub first_of_block-requires : goal.first_of_block-requires
first_of_block-requires c =
    let blocks = c.div_ceil-block-end.ensures in
    let low = c.loop-block-test.true in
    omega (arith, blocks, low)

pub loop-block-preserved : goal.loop-block-preserved
loop-block-preserved c =
    let so_far = c.loop-block.invariant in
    let many = length_push c.loop-block.firsts.items c.first_of_block.result in (
      ap length c.in_ok-push.ensures.items ∙ many ∙ ap (λ k. k + 1) so_far.0,
      firsts_more c.args.nexts.now c.loop-block.firsts.items c.push.new.self.items c.loop-block.block c.first_of_block.result so_far.0 so_far.1 c.in_ok-push.ensures.items c.first_of_block.ensures,
    )

pub returns : goal.returns
returns c =
    let blocks = c.div_ceil-block-end.ensures in
    let many = c.loop-block.invariant.0 in
    let all = c.loop-block-test.false in
    record { cover = omega (arith, blocks, many, all); each = c.loop-block.invariant.1 }
