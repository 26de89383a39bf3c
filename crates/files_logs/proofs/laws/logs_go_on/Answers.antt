use Rattle.files_logs.proofs.Going.{begins, goes_on, ends, torn}
use Rattle.files_logs.proofs.laws.logs_go_on.Goals as goal

pub returns-clause-begins : goal.returns-clause-begins
returns-clause-begins c = λ head h. begins head h

pub returns-clause-goes_on : goal.returns-clause-goes_on
returns-clause-goes_on c = λ head bytes sum journal told events tells whole are. goes_on head bytes sum journal told events tells whole are

pub returns-clause-ends : goal.returns-clause-ends
returns-clause-ends c = λ head bytes sum journal told whole. ends head bytes sum journal told whole

pub returns-clause-torn : goal.returns-clause-torn
returns-clause-torn c = λ head bytes sum journal told tail whole is_torn. torn head bytes sum journal told tail whole is_torn
