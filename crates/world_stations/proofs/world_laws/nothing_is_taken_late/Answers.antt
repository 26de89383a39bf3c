use Rattle.plan_network.proofs.LawfulNetwork.{gives_lawful_with}
use Rattle.world_stations.proofs.Late.{nothing_late}
use Rattle.world_stations.proofs.world_laws.nothing_is_taken_late.Goals as goal

pub returns : goal.returns
returns c = λ d programs inputs steps j legal are given. nothing_late d programs inputs steps j (gives_lawful_with d programs inputs legal are given)
