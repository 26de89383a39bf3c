use Rattle.protocol_laws.proofs.Computed.{last_ltcs_refused, equal_paths_refused, direct_refused}
use Rattle.protocol_laws.proofs.LawfulExamples.{two_microsteps_is_least, one_tag_is_least, both_ends_is_least}
use Rattle.protocol_laws.proofs.weaker_rules_fail.Goals as goal

pub returns-clause-last_ltcs : goal.returns-clause-last_ltcs
returns-clause-last_ltcs c = last_ltcs_refused

pub returns-clause-equal_paths : goal.returns-clause-equal_paths
returns-clause-equal_paths c = equal_paths_refused

pub returns-clause-direct : goal.returns-clause-direct
returns-clause-direct c = direct_refused

pub returns-clause-last_ltcs_table : goal.returns-clause-last_ltcs_table
returns-clause-last_ltcs_table c = two_microsteps_is_least

pub returns-clause-equal_paths_table : goal.returns-clause-equal_paths_table
returns-clause-equal_paths_table c = one_tag_is_least

pub returns-clause-direct_table : goal.returns-clause-direct_table
returns-clause-direct_table c = both_ends_is_least
