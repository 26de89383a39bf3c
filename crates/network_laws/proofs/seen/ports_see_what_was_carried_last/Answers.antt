use Rattle.network_laws.proofs.Newest.{port_sees}
use Rattle.network_laws.proofs.seen.ports_see_what_was_carried_last.Goals as goal

pub returns : goal.returns
returns c = port_sees
