use Rattle.plan_network.proofs.LawfulNetwork.{gives_lawful_with}
use Rattle.world_stations.proofs.Worlds.{refusals_are_harmless}
use Rattle.world_stations.proofs.world_laws.no_node_refuses_a_signal.Goals as goal

pub returns : goal.returns
returns c = λ d programs inputs steps step legal are given. refusals_are_harmless d programs inputs steps step (gives_lawful_with d programs inputs legal are given)
