use Rattle.files_record.proofs.Lines.{read_again, only_memory}
use Rattle.files_record.proofs.laws.written_steps_are_read_again.Goals as goal

pub returns-clause-says : goal.returns-clause-says
returns-clause-says c = read_again

pub returns-clause-taken : goal.returns-clause-taken
returns-clause-taken c = only_memory
