use Rattle.std.proofs.Common.{◌≡◌, ◌+◌, ◌-◌, ◌<◌, arith}
use Rattle.std.proofs.lemmas.Bool.Decides.{nat_tests}
use Rattle.node_journal.proofs.Appended.{one_taken_off}
use Rattle.node_journal.proofs.blocks.Blocks.truncate.Goals as goal

pub loop-place-preserved : goal.loop-place-preserved
loop-place-preserved c =
    let test = c.loop-place-test.true in
    let there = c.loop-place.invariant.within in
    let more : c.args.count < c.loop-place.place = grind (arith, nat_tests) in
    let next : c.loop-place.place - 1 + 1 ≡ c.loop-place.place = omega arith in
    record {
      left = one_taken_off c.args.self.now c.loop-place.self c.pop.new.self c.loop-place.place (c.loop-place.place - 1) c.pop.result c.loop-place.invariant.left next there c.pop.ensures.popped;
      within = omega arith;
      above = omega arith;
    }
