use Rattle.std.proofs.Common.{arith}
use Rattle.node_journal.proofs.SlipLists.{none_anywhere}
use Rattle.node_journal.proofs.finding.find_anywhere.Goals as goal

pub returns-clause-none : goal.returns-clause-none
returns-clause-none c =
    λ _. none_anywhere c.args.blocks.now c.args.place c.loop-position.position (omega (arith, c.loop-position-test.false)) c.loop-position.invariant
