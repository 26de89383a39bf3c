use Rattle.grants.proofs.Changes.{is_replaced, replaced_is_listed}
use Rattle.grants.proofs.meaning.one_federate_record_is_replaced.Goals as goal

pub returns-clause-read : goal.returns-clause-read
returns-clause-read c = is_replaced

pub returns-clause-listed : goal.returns-clause-listed
returns-clause-listed c = replaced_is_listed
