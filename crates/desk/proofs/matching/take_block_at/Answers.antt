use Rattle.std.proofs.Common.{◌≡◌, ◌∙◌, ap, ◌++◌, slice_get, Some, arith}
use Rattle.std.proofs.lemmas.Option.{slice_get-get_or}
use Rattle.node_journal.specs.Slips.{slips_from}
use Rattle.desk.proofs.Backwards.{block_back}
use Rattle.desk.proofs.matching.take_block_at.Goals as goal

pub returns-then-position-shares-clause-taken : goal.returns-then-position-shares-clause-taken
returns-then-position-shares-clause-taken c =
    λ taken journal is.
    let found : slice_get c.args.shares.now c.args.position ≡ Some (c.take_block_off.new.share ++ slips_from c.args.place c.args.block.now) =
    slice_get-get_or c.args.shares.now c.args.position c.index-shares-position.result (omega arith) ∙ ap Some (c.take_block_off.ensures.taken taken) in
    block_back c.args.block.now journal c.args.place c.args.shares.now c.args.position c.take_block_off.new.share found is
