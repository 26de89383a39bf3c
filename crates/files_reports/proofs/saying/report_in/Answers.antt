use Rattle.std.proofs.Common.{◌≡◌, length, arith}
use Rattle.std.proofs.lemmas.Bool.Decides.{nat_tests}
use Rattle.files_reports.specs.Said.{said_in}
use Rattle.files_reports.proofs.Taken.{all_taken}
use Rattle.files_reports.proofs.saying.report_in.Goals as goal

pub returns-clause-taken : goal.returns-clause-taken
returns-clause-taken c =
    let empty : length c.in_ok-report.rest.now ≡ 0 = grind (arith, nat_tests) in
    all_taken c.args.bytes.now c.in_ok-who.rest.now c.in_ok-report.rest.now c.in_ok-who.who (said_in c.in_ok-report.report) c.in_ok-who.ensures.taken c.in_ok-report.ensures.taken empty
