use Rattle.std.proofs.Common.{arith, rules}
use Rattle.recorder_reports.proofs.complete.refuse_incomplete.Goals as goal

pub returns-in-None : goal.returns-in-None
returns-in-None c = record {
  known = c.are_known.ensures.0 (search rules);
  each = λ j below.
      let least = c.in-None.ensures j below in
      let most = c.if-has_double.ensures j below in
      omega arith;
}
