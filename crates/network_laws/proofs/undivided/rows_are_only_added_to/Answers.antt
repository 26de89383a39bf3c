use Rattle.network_laws.proofs.Prefix.{whole_begins, part_begins}
use Rattle.network_laws.proofs.undivided.rows_are_only_added_to.Goals as goal

pub returns : goal.returns
returns c = record { all = whole_begins; of_one_reactor = part_begins }
