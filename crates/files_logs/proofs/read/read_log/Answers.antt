use Rattle.std.proofs.lemmas.Result.{err_from_is_err_and}
use Rattle.files_logs.proofs.OneLog.{only_memory, only_log}
use Rattle.files_logs.proofs.Answered.{read_answer, fault_answer}
use Rattle.files_logs.proofs.read.read_log.Goals as goal

pub returns-in_err-head-clause-only : goal.returns-in_err-head-clause-only
returns-in_err-head-clause-only c =
    λ log h. (
    let p = err_from_is_err_and c.from_residual.result c.from_residual.ensures.1 in
    rw (p.1, p.2) (only_memory c.args.files.now c.args.who c.args.rules c.args.bytes.now log c.in_err-head.field-0.0 h c.in_err-head.ensures.fault))

pub returns-in_err-head-clause-fault : goal.returns-in_err-head-clause-fault
returns-in_err-head-clause-fault c =
    let p = err_from_is_err_and c.from_residual.result c.from_residual.ensures.1 in
    rw (p.1, p.2) c.in_err-head.ensures.fault

pub returns-clause-read : goal.returns-clause-read
returns-clause-read c =
    read_answer c.args.files.now c.args.who c.args.rules c.args.bytes.now c.in_ok-head.head c.read_behind.result c.in_ok-head.ensures.head c.in_ok-head.ensures.asked c.read_behind.ensures.who c.read_behind.ensures.read

pub returns-clause-only : goal.returns-clause-only
returns-clause-only c =
    only_log c.args.files.now c.args.who c.args.rules c.args.bytes.now c.read_behind.result
    (read_answer c.args.files.now c.args.who c.args.rules c.args.bytes.now c.in_ok-head.head c.read_behind.result c.in_ok-head.ensures.head c.in_ok-head.ensures.asked c.read_behind.ensures.who c.read_behind.ensures.read)
    (fault_answer c.args.files.now c.args.who c.args.rules c.args.bytes.now c.in_ok-head.head c.read_behind.result c.in_ok-head.ensures.head c.in_ok-head.ensures.asked c.read_behind.ensures.fault)

pub returns-clause-fault : goal.returns-clause-fault
returns-clause-fault c =
    fault_answer c.args.files.now c.args.who c.args.rules c.args.bytes.now c.in_ok-head.head c.read_behind.result c.in_ok-head.ensures.head c.in_ok-head.ensures.asked c.read_behind.ensures.fault
