use Rattle.fedrun_record_laws.proofs.Placed.{may_be_recorded}
use Rattle.fedrun_record_laws.proofs.laws.proved_steps_may_be_recorded.Goals as goal

pub returns : goal.returns
returns c = may_be_recorded
