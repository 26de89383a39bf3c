use Rattle.std.proofs.Common.{◌≡◌, ◌+◌, length, arith}
use Rattle.std.specs.Vec.Iter.{into_iter_items, into_iter_len}
use Rattle.std.proofs.lemmas.Grind.{common_steps}
use Rattle.std.proofs.lemmas.Result.{err_from_is_err_and}
use Rattle.loadfed.proofs.Parsed.{parsed_none, parsed_more, parsed_all, readable, federate_at, program_at, same_count}
use Rattle.loadfed.proofs.Planned.{among_told}
use Rattle.loadfed.proofs.federation.programs_of.Goals as goal

pub loop-federate-init : goal.loop-federate-init
loop-federate-init c =
    let same : into_iter_items c.into_iter-shapes.result ≡ c.args.shapes.items = c.into_iter-shapes.ensures.rest in
    let count = same_count c.args.plan.now.federates c.args.shapes.items c.requires in
    let whole : into_iter_len c.into_iter-shapes.result + 0 ≡ length c.federates-federates.result.now = grind (arith, common_steps) in
    (whole, rw (same, c.new-programs.ensures.items) (parsed_none c.federates-federates.result.now c.args.shapes.items))

pub loop-federate-preserved : goal.loop-federate-preserved
loop-federate-preserved c =
    let steps = c.in-Some.ensures.cases in
    let before = c.loop-federate.invariant.0 in
    (omega (arith, steps.1), rw c.in_ok-push-in-Some.ensures.items (parsed_more c.federates-federates.result.now c.args.shapes.items c.loop-federate.federate-index (into_iter_items c.loop-federate.shapes) (into_iter_items c.next.new.self) c.loop-federate.programs.items c.federate-item.result c.in-Some.shape c.in_ok-program-in-Some.program c.loop-federate.invariant.1 steps.0 c.loop-federate-test.true c.federate-item.is c.in_ok-program-in-Some.ensures.ok))

pub program-requires : goal.program-requires
program-requires c =
    let inv = rw c.federates-federates.ensures at c.loop-federate.invariant.1 in
    let low = rw c.federates-federates.ensures at c.loop-federate-test.true in
    let here = rw c.federates-federates.ensures at c.federate-item.is in
    readable c.args.plan.now c.args.shapes.items (into_iter_items c.loop-federate.shapes) (into_iter_items c.next.new.self) c.loop-federate.programs.items c.loop-federate.federate-index c.federate-item.result c.in-Some.shape c.invariant.ensures c.requires inv c.in-Some.ensures.cases.0 low here

pub returns-in_err-program-in-Some-clause-refused : goal.returns-in_err-program-in-Some-clause-refused
returns-in_err-program-in-Some-clause-refused c =
    let p = err_from_is_err_and c.from_residual.result c.from_residual.ensures.1 in
    let inv = rw c.federates-federates.ensures at c.loop-federate.invariant.1 in
    let low = rw c.federates-federates.ensures at c.loop-federate-test.true in
    let here = rw c.federates-federates.ensures at c.federate-item.is in
    rw (p.1, p.2) (among_told c.args.plan.now.federates c.args.shapes.items c.loop-federate.federate-index c.federate-item.result c.in-Some.shape _ (federate_at c.args.plan.now.federates c.loop-federate.federate-index c.federate-item.result low here)
    (program_at c.args.plan.now.federates c.args.shapes.items (into_iter_items c.loop-federate.shapes) (into_iter_items c.next.new.self) c.loop-federate.programs.items c.loop-federate.federate-index c.in-Some.shape inv c.in-Some.ensures.cases.0) c.in_err-program-in-Some.ensures.refused)

pub returns-clause-ok : goal.returns-clause-ok
returns-clause-ok c =
    let inv = rw c.federates-federates.ensures at c.loop-federate.invariant.1 in
    parsed_all c.args.plan.now.federates c.args.shapes.items c.loop-federate.federate-index (into_iter_items c.loop-federate.shapes) c.loop-federate.programs.items c.requires inv (rw c.federates-federates.ensures at c.loop-federate-test.false)
