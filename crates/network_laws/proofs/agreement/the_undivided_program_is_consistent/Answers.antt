use Rattle.network_laws.proofs.WholeTrace.{whole_is_consistent}
use Rattle.network_laws.proofs.agreement.the_undivided_program_is_consistent.Goals as goal

pub returns : goal.returns
returns c = whole_is_consistent
