use Rattle.loadfed.proofs.Accepted.{accepted}
use Rattle.loadfed.proofs.federation.load.Goals as goal

pub returns-clause-accepts : goal.returns-clause-accepts
returns-clause-accepts c = accepted c.args.bytes.now c.load_stages.result c.load_stages.ensures
