use Rattle.link_laws.proofs.Acts.{taken_by_second, taken_by_first, first_is_told, second_is_told}
use Rattle.link_laws.proofs.what_is_taken_was_offered.Goals as goal

pub returns-clause-by_second : goal.returns-clause-by_second
returns-clause-by_second c = taken_by_second

pub returns-clause-by_first : goal.returns-clause-by_first
returns-clause-by_first c = taken_by_first

pub returns-clause-first_is_told : goal.returns-clause-first_is_told
returns-clause-first_is_told c = first_is_told

pub returns-clause-second_is_told : goal.returns-clause-second_is_told
returns-clause-second_is_told c = second_is_told
