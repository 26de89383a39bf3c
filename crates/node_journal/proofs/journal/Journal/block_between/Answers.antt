use Rattle.std.proofs.Common.{◌≡◌, ◌+◌, ◌++◌, ap, subst, length, take, arith}
use Rattle.node_journal.specs.Numbered.{events_of}
use Rattle.node_journal.proofs.Numbered.{block_within, block_ends}
use Rattle.node_journal.proofs.journal.Journal.block_between.Goals as goal

pub returns-in-Some-clause-within : goal.returns-in-Some-clause-within
returns-in-Some-clause-within c =
    let there = c.in-Some.ensures.there in
    let long = c.len.ensures in
    let within = block_within c.self.inside.slips there.0 there.1 c.args.place c.in-Some.block.now c.self.invariant there.2 c.in-Some.ensures.some in
    let view : length (events_of c.self.inside.slips) ≡ length c.args.self.now = ap length c.self.view_is in
    omega arith

pub returns-in-Some-clause-events : goal.returns-in-Some-clause-events
returns-in-Some-clause-events c =
    let there = c.in-Some.ensures.there in
    let long = c.len.ensures in
    let end : c.args.place + length c.in-Some.block.now ≡ c.args.end = omega arith in
    subst (λ l. take c.args.end l ≡ take c.args.place l ++ c.in-Some.block.now) c.self.view_is
    (block_ends c.self.inside.slips there.0 there.1 c.args.place c.in-Some.block.now c.self.invariant there.2 c.in-Some.ensures.some c.args.end end)
