use Rattle.std.proofs.Common.{arith}
use Rattle.node_journal.proofs.Appended.{some_added}
use Rattle.node_journal.proofs.journal.Journal.append_some.Goals as goal

pub loop-from-preserved : goal.loop-from-preserved
loop-from-preserved c =
    let less = c.loop-from-test.true in
    let begun = c.loop-from.invariant.begun in
    let within = c.end_of-end.ensures.within in
    let few = c.end_of-end.ensures.few in
    let count = c.in_ok-from.ensures.few in
    record {
      added = some_added c.args.self.now c.loop-from.self c.append_next.new.self c.args.other.now c.args.place c.loop-from.from c.in_ok-from.field-0
          c.loop-from.invariant.added c.in_ok-from.ensures.added begun;
      begun = omega arith;
      few = omega arith;
    }
