use Rattle.plan_network.proofs.LawfulNetwork.{gives_lawful_with}
use Rattle.world_stations.proofs.Rows.{stuck_rows, finished_rows}
use Rattle.world_stations.proofs.world_laws.no_row_is_missing.Goals as goal

pub returns-clause-stuck : goal.returns-clause-stuck
returns-clause-stuck c = λ d programs inputs steps j legal are given below stuck. stuck_rows d programs inputs steps j (gives_lawful_with d programs inputs legal are given) stuck below

pub returns-clause-finished : goal.returns-clause-finished
returns-clause-finished c = λ d programs inputs steps j legal are given below finished. finished_rows d programs inputs steps j (gives_lawful_with d programs inputs legal are given) finished below
