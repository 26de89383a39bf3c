use Rattle.protocol_laws.proofs.LastRows.{moves_end}
use Rattle.protocol_laws.proofs.prefix.the_last_row_is_completed.Goals as goal

pub returns : goal.returns
returns c = moves_end
