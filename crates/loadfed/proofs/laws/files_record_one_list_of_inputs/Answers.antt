use Rattle.loadfed.proofs.InputReadings.{same_inputs}
use Rattle.loadfed.proofs.laws.files_record_one_list_of_inputs.Goals as goal

pub returns : goal.returns
returns c = same_inputs
