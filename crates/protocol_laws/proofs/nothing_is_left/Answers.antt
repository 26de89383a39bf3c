use Rattle.protocol_laws.proofs.Ending.{ends_quiet}
use Rattle.protocol_laws.proofs.nothing_is_left.Goals as goal

pub returns : goal.returns
returns c = ends_quiet
