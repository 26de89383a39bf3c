use Rattle.protocol_laws.proofs.ListedFederateRecords.{finished_is}
use Rattle.protocol_laws.proofs.federate_records.finished_is_forever.Goals as goal

pub returns : goal.returns
returns c = finished_is
