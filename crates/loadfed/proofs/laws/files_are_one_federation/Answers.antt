use Rattle.loadfed.proofs.Accepted.{one_federation_draft, one_federation_programs}
use Rattle.loadfed.proofs.laws.files_are_one_federation.Goals as goal

pub returns-clause-draft : goal.returns-clause-draft
returns-clause-draft c = one_federation_draft

pub returns-clause-programs : goal.returns-clause-programs
returns-clause-programs c = one_federation_programs
