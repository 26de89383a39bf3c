-- The version, which only a Hello tells, is any.
use Rattle.std.proofs.Common.{arith}
use Rattle.std.proofs.lemmas.Grind.{common_steps}
use Rattle.signal.proofs.body.refuse_of.Goals as goal

pub returns-clause-spelled : goal.returns-clause-spelled
returns-clause-spelled c = record {
  version = 1;
  from_one = omega arith;
  one_byte = omega arith;
  is_frame = grind (arith, common_steps);
  is_body = grind (arith, common_steps);
}
