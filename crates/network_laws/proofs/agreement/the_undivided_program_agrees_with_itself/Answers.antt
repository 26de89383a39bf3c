use Rattle.network_laws.proofs.WholeTrace.{whole_agrees}
use Rattle.network_laws.proofs.agreement.the_undivided_program_agrees_with_itself.Goals as goal

pub returns : goal.returns
returns c = whole_agrees
