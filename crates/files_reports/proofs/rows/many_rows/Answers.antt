use Rattle.std.proofs.Common.{◌≡◌, subst, arith}
use Rattle.std.proofs.lemmas.Result.{err_from_is_err_and}
use Rattle.std.specs.List.{flat_map}
use Rattle.files_reports.specs.Said.{AreSoMany, IsRowOf}
use Rattle.files_reports.specs.Spelling.{row_bytes}
use Rattle.files_reports.specs.Reading.{IsTaken, row_part}
use Rattle.files_reports.proofs.Loops.{starts, step, stops, ends}
use Rattle.files_reports.proofs.rows.many_rows.Goals as goal

pub loop-init : goal.loop-init
loop-init c = rw c.new-rows.ensures (starts (row_part c.args.federate) row_bytes (IsRowOf c.args.federate) c.args.count c.args.bytes.now)

pub returns-in_err-row-clause-given : goal.returns-in_err-row-clause-given
returns-in_err-row-clause-given c =
    let p = err_from_is_err_and c.from_residual.result c.from_residual.ensures.1 in
    rw (p.1, p.2) (stops (row_part c.args.federate) row_bytes (IsRowOf c.args.federate) c.args.count c.args.bytes.now c.loop.counter c.loop.rows c.loop.rest.now c.in_err-row.field-0.0 c.loop-test.true c.in_err-row.ensures.given c.loop.invariant)

pub loop-preserved : goal.loop-preserved
loop-preserved c =
    rw c.in_ok-add.ensures (step (row_part c.args.federate) row_bytes (IsRowOf c.args.federate) c.args.count c.args.bytes.now c.loop.counter c.loop.rows c.loop.rest.now c.in_ok-row.row c.in_ok-row.behind.now
    c.loop-test.true c.in_ok-row.ensures.given c.in_ok-row.ensures.taken c.loop.invariant)

pub returns-clause-given : goal.returns-clause-given
returns-clause-given c = ends (row_part c.args.federate) row_bytes (IsRowOf c.args.federate) c.args.count c.args.bytes.now c.loop.counter c.loop.rows c.loop.rest.now c.loop-test.false c.loop.invariant

pub returns-clause-taken : goal.returns-clause-taken
returns-clause-taken c =
    let all : c.loop.counter ≡ c.args.count = omega arith in
    subst (λ n. IsTaken (flat_map row_bytes) (AreSoMany (IsRowOf c.args.federate) n) c.args.bytes.now c.loop.rows c.loop.rest.now) all c.loop.invariant.taken
