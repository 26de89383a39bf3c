use Rattle.files_logs.proofs.Whole.{cut_unended, cut_ended, cut_head}
use Rattle.files_logs.proofs.laws.cuts_are_fronts.Goals as goal

pub returns-clause-unended : goal.returns-clause-unended
returns-clause-unended c = λ head blocks k h past. cut_unended head blocks k h past

pub returns-clause-ended : goal.returns-clause-ended
returns-clause-ended c = λ head blocks k h past within. cut_ended head blocks k h past within

pub returns-clause-head : goal.returns-clause-head
returns-clause-head c = λ files who rules bytes k cut. cut_head files who rules bytes k cut
