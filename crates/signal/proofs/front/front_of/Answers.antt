use Rattle.std.proofs.Common.{arith}
use Rattle.std.proofs.lemmas.Result.{err_from_is_err_and}
use Rattle.signal.proofs.Framing.{body_fault_counts, front_is}
use Rattle.signal.proofs.front.front_of.Goals as goal

pub returns-in_err-front-clause-fault : goal.returns-in_err-front-clause-fault
returns-in_err-front-clause-fault c =
    let p = err_from_is_err_and c.from_residual.result c.from_residual.ensures.1 in
    rw (p.1, p.2) (body_fault_counts c.args.bytes.now c.take_u32-length.result.0 c.take_u32-length.result.1.now c.split_at.result.0.now c.in_err-front.field-0.0
    (omega arith) c.take_u32-length.ensures.value c.take_u32-length.ensures.rest c.split_at.ensures.front (omega arith) (omega arith) (omega arith) c.in_err-front.ensures.fault)

pub returns-clause-ok : goal.returns-clause-ok
returns-clause-ok c =
    front_is c.args.version c.args.bytes.now c.take_u32-length.result.1.now c.split_at.result.0.now c.take_u32-length.result.0 c.in_ok-front.front
    c.take_u32-length.ensures.parts c.split_at.ensures.front (omega arith) c.in_ok-front.ensures.first
