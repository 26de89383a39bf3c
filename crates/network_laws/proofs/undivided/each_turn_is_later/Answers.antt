use Rattle.network_laws.proofs.Standing.{next_is_later, rows_rise}
use Rattle.network_laws.proofs.undivided.each_turn_is_later.Goals as goal

pub returns : goal.returns
returns c = record { next = next_is_later; rows = rows_rise }
