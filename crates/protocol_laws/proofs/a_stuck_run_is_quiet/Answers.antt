use Rattle.protocol_laws.proofs.Stuck.{stuck_quiet}
use Rattle.protocol_laws.proofs.a_stuck_run_is_quiet.Goals as goal

pub returns : goal.returns
returns c = stuck_quiet
