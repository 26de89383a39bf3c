use Rattle.std.proofs.Common.{rules}
use Rattle.expand_documents.proofs.range.range_of.Goals as goal

pub returns : goal.returns
returns c = record {
  name = c.in-Some.bounds.name.now;
  first = c.in-Some.bounds.first.now;
  last = c.in-Some.bounds.last.now;
  until = c.in_ok-last.last;
  spelled = search rules;
  named = search rules;
  is_named = search rules;
  begins = search rules;
  ends = search rules;
  counted = search rules;
}
