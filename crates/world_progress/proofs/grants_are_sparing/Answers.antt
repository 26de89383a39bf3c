use Rattle.world_progress.proofs.SparingGrants.{next_is_sparing, widest_is_sparing}
use Rattle.world_progress.proofs.grants_are_sparing.Goals as goal

pub returns : goal.returns
returns c = record { next = next_is_sparing; widest = widest_is_sparing }
