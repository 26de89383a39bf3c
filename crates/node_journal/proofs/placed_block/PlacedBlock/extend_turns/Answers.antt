use Rattle.std.proofs.Common.{arith}
use Rattle.node_journal.specs.Turns.{turn_events}
use Rattle.node_journal.proofs.BlockEvents.{turns_length}
use Rattle.node_journal.proofs.SlipLists.{filled_by}
use Rattle.node_journal.proofs.placed_block.PlacedBlock.extend_turns.Goals as goal

pub returns-then-place-self-clause-filled : goal.returns-then-place-self-clause-filled
returns-then-place-self-clause-filled c = λ yes some.
    let turns = turns_length c.args.count in
    filled_by c.args.self.now.place c.args.self.now.block (turn_events c.args.count) c.extend_turns.new.self c.args.place (c.extend_turns.ensures.extended yes)
    (omega (arith, c.if-self-place.true, c.if-place-self.true, c.len.ensures)) (omega (arith, turns, some)) (omega (arith, turns, c.requires))
