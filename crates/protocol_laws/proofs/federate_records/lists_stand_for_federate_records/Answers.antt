use Rattle.protocol_laws.proofs.ListedFederateRecords.{read_listed, list_read, listed_length, accepts_listed}
use Rattle.protocol_laws.proofs.federate_records.lists_stand_for_federate_records.Goals as goal

pub returns-clause-read : goal.returns-clause-read
returns-clause-read c = read_listed

pub returns-clause-back : goal.returns-clause-back
returns-clause-back c = list_read

pub returns-clause-length : goal.returns-clause-length
returns-clause-length c = listed_length

pub returns-clause-accept : goal.returns-clause-accept
returns-clause-accept c = accepts_listed
