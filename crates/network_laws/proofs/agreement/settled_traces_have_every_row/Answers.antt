use Rattle.network_laws.specs.Consistent.{Where}
use Rattle.network_laws.proofs.WholeTrace.{has_every_row}
use Rattle.network_laws.proofs.agreement.settled_traces_have_every_row.Goals as goal

pub returns : goal.returns
returns c = λ n L T s. has_every_row n L T (Where s)
