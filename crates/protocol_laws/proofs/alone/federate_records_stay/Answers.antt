use Rattle.protocol_laws.proofs.CoordinatorAlone.{initial_is_federate_record, accepts_stand}
use Rattle.protocol_laws.proofs.alone.federate_records_stay.Goals as goal

pub returns-clause-initial : goal.returns-clause-initial
returns-clause-initial c = initial_is_federate_record

pub returns-clause-accept : goal.returns-clause-accept
returns-clause-accept c = accepts_stand
