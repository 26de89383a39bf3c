use Rattle.network_laws.specs.Consistent.{Where}
use Rattle.network_laws.proofs.Agree.{agree}
use Rattle.network_laws.proofs.agreement.consistent_traces_agree.Goals as goal

pub returns : goal.returns
returns c = λ n L T U s r. agree n L T U (Where s) (Where r)
