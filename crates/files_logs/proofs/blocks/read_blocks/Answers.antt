use Rattle.std.proofs.lemmas.Result.{err_from_is_err_and}
use Rattle.files_logs.proofs.Found.{blocks_fault}
use Rattle.files_logs.proofs.blocks.read_blocks.Goals as goal

pub returns-in_err-now-clause-fault : goal.returns-in_err-now-clause-fault
returns-in_err-now-clause-fault c =
    let p = err_from_is_err_and c.from_residual.result c.from_residual.ensures.1 in
    rw (p.1, p.2) (blocks_fault c.args.sum c.args.bytes.now c.args.journal.now c.loop-block.journal c.loop-block.is_told c.loop-block.before c.loop-block.rest.now c.in-Ok.block.0.now c.in-Ok.block.1.now
    c.in_err-now.field-0.0 c.in-Ok.ensures.whole c.in_err-now.ensures.fault c.loop-block.invariant)
