use Rattle.world_progress.proofs.Parts.{fuel_at_most}
use Rattle.world_progress.proofs.fuel_by_all_rows.Goals as goal

pub returns : goal.returns
returns c = fuel_at_most
