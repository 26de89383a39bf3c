use Rattle.protocol_laws.proofs.CoordinatorAlone.{accepts_in_order}
use Rattle.protocol_laws.proofs.alone.the_coordinator_sends_in_order.Goals as goal

pub returns : goal.returns
returns c = accepts_in_order
