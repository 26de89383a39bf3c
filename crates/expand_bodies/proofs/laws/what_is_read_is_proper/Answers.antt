use Rattle.expand_bodies.proofs.Proper.{read_proper}
use Rattle.expand_bodies.proofs.laws.what_is_read_is_proper.Goals as goal

pub returns : goal.returns
returns c = read_proper
