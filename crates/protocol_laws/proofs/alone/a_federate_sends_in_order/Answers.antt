use Rattle.protocol_laws.proofs.FederateAlone.{accept_sends, announce_sends, advance_sends}
use Rattle.protocol_laws.proofs.alone.a_federate_sends_in_order.Goals as goal

pub returns-clause-accept : goal.returns-clause-accept
returns-clause-accept c = accept_sends

pub returns-clause-announce : goal.returns-clause-announce
returns-clause-announce c = announce_sends

pub returns-clause-advance : goal.returns-clause-advance
returns-clause-advance c = advance_sends
