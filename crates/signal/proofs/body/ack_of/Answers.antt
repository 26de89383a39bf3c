-- The version, which only a Hello tells, is any.
use Rattle.std.proofs.Common.{rules, arith}
use Rattle.std.proofs.lemmas.Grind.{common_steps}
use Rattle.signal.proofs.Parts.{ack_parts}
use Rattle.signal.proofs.body.ack_of.Goals as goal

pub returns-clause-spelled : goal.returns-clause-spelled
returns-clause-spelled c = record {
  version = 1;
  from_one = omega arith;
  one_byte = omega arith;
  is_frame = grind (arith, common_steps);
  is_body = ack_parts c.args.body.now c.take_u32-incarnation.result.1.now c.take_u64-last_taken.result.1.now _ _ (search rules) c.requires.kind c.take_u32-incarnation.ensures.parts c.take_u64-last_taken.ensures.parts;
}
