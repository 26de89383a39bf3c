-- The version is the second byte.
use Rattle.std.proofs.Common.{rules, arith, get_or}
use Rattle.std.proofs.lemmas.Grind.{common_steps}
use Rattle.signal.proofs.Parts.{hello_parts}
use Rattle.signal.proofs.body.hello_of.Goals as goal

pub returns-clause-spelled : goal.returns-clause-spelled
returns-clause-spelled c = record {
  version = get_or c.args.body.now 1 0;
  from_one = omega arith;
  one_byte = omega (arith, c.type_inv.body 1);
  is_frame = grind (arith, common_steps);
  is_body = hello_parts c.args.body.now c.take_u16-federate.result.1.now c.take_u32-incarnation.result.1.now c.take_u64-last_taken.result.1.now _ _ _ (search rules) c.requires.kind c.take_u16-federate.ensures.parts c.take_u32-incarnation.ensures.parts c.take_u64-last_taken.ensures.parts;
}
