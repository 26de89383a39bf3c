use Rattle.loadfed.proofs.InputReadings.{inputs_accepted}
use Rattle.loadfed.proofs.recorded.load_inputs.Goals as goal

pub returns-clause-accepts : goal.returns-clause-accepts
returns-clause-accepts c = inputs_accepted c.args.plan.now c.args.bytes.now c.load_stages.result c.load_stages.ensures
