use Rattle.std.proofs.Common.{◌≡◌, subst, arith}
use Rattle.std.specs.List.{flat_map}
use Rattle.files_reports.specs.Said.{AreSoMany, IsEntry}
use Rattle.files_reports.specs.Spelling.{entry_bytes}
use Rattle.files_reports.specs.Reading.{IsTaken, entry_part}
use Rattle.files_reports.proofs.Loops.{starts, step, stops, ends}
use Rattle.files_reports.proofs.rows.many_entries.Goals as goal

pub loop-init : goal.loop-init
loop-init c = rw c.new-entries.ensures.items (starts entry_part entry_bytes IsEntry c.args.count c.args.bytes.now)

pub returns-in-Err-clause-given : goal.returns-in-Err-clause-given
returns-in-Err-clause-given c =
    stops entry_part entry_bytes IsEntry c.args.count c.args.bytes.now c.loop.counter c.loop.entries.items c.loop.rest.now c.in-Err.fault c.loop-test.true c.in-Err.ensures.given c.loop.invariant

pub loop-preserved : goal.loop-preserved
loop-preserved c =
    rw c.in_ok-push.ensures.items (step entry_part entry_bytes IsEntry c.args.count c.args.bytes.now c.loop.counter c.loop.entries.items c.loop.rest.now c.in-Ok.taken.0 c.in-Ok.taken.1.now
    c.loop-test.true c.in-Ok.ensures.given c.in-Ok.ensures.taken c.loop.invariant)

pub returns-clause-given : goal.returns-clause-given
returns-clause-given c = ends entry_part entry_bytes IsEntry c.args.count c.args.bytes.now c.loop.counter c.loop.entries.items c.loop.rest.now c.loop-test.false c.loop.invariant

pub returns-clause-taken : goal.returns-clause-taken
returns-clause-taken c =
    let all : c.loop.counter ≡ c.args.count = omega arith in
    subst (λ n. IsTaken (flat_map entry_bytes) (AreSoMany IsEntry n) c.args.bytes.now c.loop.entries.items c.loop.rest.now) all c.loop.invariant.taken
