use Rattle.fedrun_expand.proofs.Files.{saved_late}
use Rattle.fedrun_expand.proofs.saving.save_expansions.Goals as goal

pub returns-in-Ok-clause-untouched : goal.returns-in-Ok-clause-untouched
returns-in-Ok-clause-untouched g c = saved_late _ c.save_each.result c.save_each.ensures.late
