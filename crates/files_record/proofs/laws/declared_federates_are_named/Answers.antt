use Rattle.files_record.proofs.Declared.{declared_named}
use Rattle.files_record.proofs.laws.declared_federates_are_named.Goals as goal

pub returns : goal.returns
returns c = declared_named
