use Rattle.std.proofs.Common.{refl}
use Rattle.tests_expand.proofs.worked.a_thermostat_has_the_worked_rows.Goals as goal

pub returns-clause-tree : goal.returns-clause-tree
returns-clause-tree c = λ p. (refl, refl, refl, refl)

pub returns-clause-lines : goal.returns-clause-lines
returns-clause-lines c = λ p. (refl, refl, refl, refl)
