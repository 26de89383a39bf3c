use Rattle.world_stations.proofs.Worlds.{listed_so, one_more}
use Rattle.world_stations.proofs.world_laws.steps_are_made_in_order.Goals as goal

pub returns-clause-listed : goal.returns-clause-listed
returns-clause-listed c = listed_so

pub returns-clause-more : goal.returns-clause-more
returns-clause-more c = one_more
