-- The version, which only a Hello tells, is any. The signal begins at place 13.
use Rattle.std.proofs.Common.{arith}
use Rattle.std.proofs.lemmas.Grind.{common_steps}
use Rattle.std.proofs.lemmas.Result.{err_from_is_err_and}
use Rattle.signal.proofs.Parts.{data_parts, signal_place, signal_fault_counts}
use Rattle.signal.proofs.body.data_of.Goals as goal

pub returns-in_err-signal-clause-fault : goal.returns-in_err-signal-clause-fault
returns-in_err-signal-clause-fault c =
    let p = err_from_is_err_and c.from_residual.result c.from_residual.ensures.1 in
    let place = signal_place c.args.body.now c.take_u32-incarnation.result.1.now c.take_u64-number.result.1.now c.take_u32-incarnation.ensures.rest c.take_u64-number.ensures.rest in
    rw (p.1, p.2) (signal_fault_counts c.args.body.now c.take_u64-number.result.1.now c.in_err-signal.field-0.0 (omega arith) c.requires.kind place c.in_err-signal.ensures.fault)

pub returns-clause-spelled : goal.returns-clause-spelled
returns-clause-spelled c = record {
  version = 1;
  from_one = omega arith;
  one_byte = omega arith;
  is_frame = grind (arith, common_steps);
  is_body = data_parts c.args.body.now c.take_u32-incarnation.result.1.now c.take_u64-number.result.1.now _ _ _ (omega arith) c.requires.kind c.take_u32-incarnation.ensures.parts c.take_u64-number.ensures.parts c.in_ok-signal.ensures.spelled.1;
}
