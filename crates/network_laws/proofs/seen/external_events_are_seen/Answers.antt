use Rattle.network_laws.proofs.Newest.{external_sees}
use Rattle.network_laws.proofs.seen.external_events_are_seen.Goals as goal

pub returns : goal.returns
returns c = external_sees
