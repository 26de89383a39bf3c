use Rattle.files_reports.proofs.Taken.{tag_taken}
use Rattle.files_reports.proofs.rows.tag_of.Goals as goal

pub returns-in-Some-clause-taken : goal.returns-in-Some-clause-taken
returns-in-Some-clause-taken c =
    tag_taken c.args.bytes.now c.in_ok-time.rest.now c.in_ok-microstep.rest.now c.in_ok-time.time c.in_ok-microstep.microstep c.in-Some.tag
    c.in_ok-microstep.ensures.fits c.in-Some.ensures.0 c.in-Some.ensures.1 c.in_ok-time.ensures.taken c.in_ok-microstep.ensures.taken
