use Rattle.loadfed.proofs.Accepted.{same_draft, same_programs}
use Rattle.loadfed.proofs.laws.files_declare_one_draft.Goals as goal

pub returns-clause-draft : goal.returns-clause-draft
returns-clause-draft c = same_draft

pub returns-clause-programs : goal.returns-clause-programs
returns-clause-programs c = same_programs
