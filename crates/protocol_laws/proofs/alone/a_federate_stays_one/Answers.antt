use Rattle.protocol_laws.proofs.FederateAlone.{initial_is_federate, accept_leaves, announce_leaves, advance_leaves}
use Rattle.protocol_laws.proofs.alone.a_federate_stays_one.Goals as goal

pub returns-clause-initial : goal.returns-clause-initial
returns-clause-initial c = initial_is_federate

pub returns-clause-accept : goal.returns-clause-accept
returns-clause-accept c = accept_leaves

pub returns-clause-announce : goal.returns-clause-announce
returns-clause-announce c = announce_leaves

pub returns-clause-advance : goal.returns-clause-advance
returns-clause-advance c = advance_leaves
