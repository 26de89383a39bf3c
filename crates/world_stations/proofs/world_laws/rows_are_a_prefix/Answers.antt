use Rattle.plan_network.proofs.LawfulNetwork.{gives_lawful_with}
use Rattle.world_stations.proofs.Rows.{rows_begin}
use Rattle.world_stations.proofs.world_laws.rows_are_a_prefix.Goals as goal

pub returns : goal.returns
returns c = λ d programs inputs steps j legal are given below kept. rows_begin d programs inputs steps j (gives_lawful_with d programs inputs legal are given) below kept
