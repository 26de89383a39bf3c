use Rattle.std.proofs.Common.{◌-◌, drop, refl, ap, ◌∙◌, arith}
use Rattle.std.specs.Prelude.{slice_index}
use Rattle.std.proofs.lemmas.Result.{err_from_is_err_and}
use Rattle.signal.specs.Fault.{shape_fault}
use Rattle.signal.proofs.Signals.{size_cases}
use Rattle.signal.proofs.Checking.{Shape, shape_of, tag_fault_counts, read, none_left}
use Rattle.signal.proofs.batch.check_tags.Goals as goal
use Rattle.signal.proofs.batch.check_tags.Goals.{In-loop-left}

-- what is left has a first signal
shape : (c : In-loop-left) → Shape c.loop-left.left c.loop-left.rest.now
shape c = shape_of c.loop-left.left c.loop-left.rest.now c.loop-left-test.true c.loop-left.invariant.shape

pub loop-left-init : goal.loop-left-init
loop-left-init c = record { shape = c.requires; tags = refl; filled = λ all. all }

pub bounds-rest-0 : goal.bounds-rest-0
bounds-rest-0 c = (shape (goal.at.bounds-rest-0 c).In-loop-left).some

pub split_at-requires : goal.split_at-requires
split_at-requires c = omega (arith, (shape (goal.at.split_at-requires c).In-loop-left).fits, c.signal_size.ensures)

pub signal_of-requires : goal.signal_of-requires
signal_of-requires c = omega (arith, c.split_at.ensures.front_len, c.signal_size.ensures, (size_cases (slice_index c.loop-left.rest.now 0)).0)

pub returns-in_err-signal_of-clause-fault : goal.returns-in_err-signal_of-clause-fault
returns-in_err-signal_of-clause-fault c =
    let p = err_from_is_err_and c.from_residual.result c.from_residual.ensures.1 in
    let left = shape (goal.at.returns-in_err-signal_of-clause-fault c).In-loop-left in
    rw (p.1, p.2) (c.loop-left.invariant.tags ∙ tag_fault_counts c.loop-left.left c.signal_size.result c.loop-left.rest.now c.split_at.result.0.now c.in_err-signal_of.field-0.0
    c.loop-left-test.true left c.signal_size.ensures c.split_at.ensures.front c.in_err-signal_of.ensures.fault)

pub loop-left-preserved : goal.loop-left-preserved
loop-left-preserved c =
    let left = shape (goal.at.loop-left-preserved c).In-loop-left in
    let signal = c.in_ok-signal_of.field-0 in
    let step = read c.loop-left.left c.signal_size.result c.loop-left.rest.now c.split_at.result.0.now c.split_at.result.1.now signal
    c.loop-left-test.true c.signal_size.ensures c.split_at.ensures.front c.split_at.ensures.back c.in_ok-signal_of.ensures.spelled.0 c.in_ok-signal_of.ensures.spelled.1 in
    record {
      shape = ap (shape_fault (c.loop-left.left - 1)) (c.split_at.ensures.back ∙ ap (λ n. drop n c.loop-left.rest.now) c.signal_size.ensures) ∙ left.others;
      tags = c.loop-left.invariant.tags ∙ step.tags;
      filled = λ others. c.loop-left.invariant.filled (step.filled others);
    }

pub returns-clause-filled : goal.returns-clause-filled
returns-clause-filled c = c.loop-left.invariant.filled (none_left c.loop-left.left c.loop-left.rest.now (omega arith) c.loop-left.invariant.shape)
