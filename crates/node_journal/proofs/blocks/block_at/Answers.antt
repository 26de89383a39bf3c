use Rattle.std.proofs.Common.{◌≡◌, sym, Some, slice_get}
use Rattle.node_journal.proofs.Places.{lent_in}
use Rattle.node_journal.proofs.SlipLists.{filled_at, split_from}
use Rattle.node_journal.proofs.blocks.block_at.Goals as goal

pub returns-in-Some-clause-some : goal.returns-in-Some-clause-some
returns-in-Some-clause-some c =
    let found : slice_get c.args.blocks.now c.args.position ≡ Some c.in-Some.placed.now = sym (lent_in c.args.blocks.now c.args.position (Some c.in-Some.placed) c.in-Some.ensures.lookup) in
    (filled_at c.args.blocks.now c.args.position c.in-Some.placed.now found c.requires).some

pub returns-in-Some-clause-there : goal.returns-in-Some-clause-there
returns-in-Some-clause-there c =
    let found : slice_get c.args.blocks.now c.args.position ≡ Some c.in-Some.placed.now = sym (lent_in c.args.blocks.now c.args.position (Some c.in-Some.placed) c.in-Some.ensures.lookup) in
    split_from c.args.blocks.now c.args.position c.args.place c.in-Some.placed.now found c.if-placed-place.true
