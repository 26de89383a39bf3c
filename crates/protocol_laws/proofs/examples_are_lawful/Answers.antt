use Rattle.protocol_laws.proofs.LawfulExamples.{ring_is_lawful, ring_is_least, two_microsteps_is_lawful, one_tag_is_lawful, both_ends_is_lawful}
use Rattle.protocol_laws.proofs.examples_are_lawful.Goals as goal

pub returns-clause-ring : goal.returns-clause-ring
returns-clause-ring c = ring_is_lawful

pub returns-clause-ring_table : goal.returns-clause-ring_table
returns-clause-ring_table c = ring_is_least

pub returns-clause-two_microsteps : goal.returns-clause-two_microsteps
returns-clause-two_microsteps c = two_microsteps_is_lawful

pub returns-clause-one_tag : goal.returns-clause-one_tag
returns-clause-one_tag c = one_tag_is_lawful

pub returns-clause-both_ends : goal.returns-clause-both_ends
returns-clause-both_ends c = both_ends_is_lawful
