use Rattle.plan_network.proofs.LawfulNetwork.{gives_lawful_with}
use Rattle.world_stations.proofs.Emptied.{shows_at_the_ends}
use Rattle.world_stations.proofs.world_laws.settled_shows_at_the_ends.Goals as goal

pub returns : goal.returns
returns c = λ d programs inputs steps legal are given none. shows_at_the_ends d programs inputs steps (gives_lawful_with d programs inputs legal are given) none
