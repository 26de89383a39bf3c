use Rattle.std.proofs.Common.{refl}
use Rattle.tests_expand.proofs.worked.a_local_name_keeps_the_value_that_it_had.Goals as goal

pub returns-clause-tree : goal.returns-clause-tree
returns-clause-tree c = λ p. (refl, refl)

pub returns-clause-lines : goal.returns-clause-lines
returns-clause-lines c = λ p. (refl, refl)
