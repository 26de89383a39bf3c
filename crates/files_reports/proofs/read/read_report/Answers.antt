use Rattle.std.proofs.lemmas.Result.{err_from_is_err_and}
use Rattle.files_reports.proofs.Files.{only_memory, found_in, fault_in, only_one}
use Rattle.files_reports.proofs.read.read_report.Goals as goal

pub returns-in_err-said-clause-only : goal.returns-in_err-said-clause-only
returns-in_err-said-clause-only c =
    λ said h. (
    let p = err_from_is_err_and c.from_residual.result c.from_residual.ensures.1 in
    rw (p.1, p.2) (only_memory c.args.files.now said c.args.bytes.now c.in_err-said.field-0.0 h c.in_err-said.ensures.fault))

pub returns-in_err-said-clause-fault : goal.returns-in_err-said-clause-fault
returns-in_err-said-clause-fault c =
    let p = err_from_is_err_and c.from_residual.result c.from_residual.ensures.1 in
    rw (p.1, p.2) c.in_err-said.ensures.fault

pub returns-clause-found : goal.returns-clause-found
returns-clause-found c = found_in c.args.files.now c.args.bytes.now c.in_ok-said.said.now c.report_in.result c.in_ok-said.ensures.named c.in_ok-said.ensures.found c.report_in.ensures.taken

pub returns-clause-only : goal.returns-clause-only
returns-clause-only c =
    only_one c.args.files.now c.args.bytes.now c.report_in.result
    (found_in c.args.files.now c.args.bytes.now c.in_ok-said.said.now c.report_in.result c.in_ok-said.ensures.named c.in_ok-said.ensures.found c.report_in.ensures.taken)
    (fault_in c.args.files.now c.args.bytes.now c.in_ok-said.said.now c.report_in.result c.in_ok-said.ensures.named c.in_ok-said.ensures.found c.report_in.ensures.given)

pub returns-clause-fault : goal.returns-clause-fault
returns-clause-fault c = fault_in c.args.files.now c.args.bytes.now c.in_ok-said.said.now c.report_in.result c.in_ok-said.ensures.named c.in_ok-said.ensures.found c.report_in.ensures.given
